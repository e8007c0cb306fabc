-- The records of code from a position on.
--     sound_at, ahead-at, ahead-end     the first of them and the others
--     Clean, clean                      what a record without fault is
--     stage_below, length-below         every kind's stage and body are small
--     front_one .. front-four           a record in front of others, by its stage
--     ahead_short                       the rest of the present block is no longer than the bytes left
--     no_heads                          after an instruction no variable and no sub-scope of its block follows
-- Assumes nothing.
use Prim.Native.Nat.{ℕ, zero, suc, ◌+◌, ◌-◌, ◌<◌, ◌≤◌}
use mathlib.Core.Path.{◌≡◌, refl, sym, ap, ◌∙◌}
use mathlib.Core.Bool.{true, false, not, ◌&&◌, ◌||◌}
use mathlib.Core.List.{List, [], ◌∷◌, ◌++◌}
use mathlib.Core.Logic.{⊎_elim}
use native.Mathlib.Omega.{arith}
use native.Mathlib.Numerals.{add-one}
use lib.ListN.{length, get_or, take, drop, length-append, length-drop, drop_of_length-le}
use lib.Seq.{drop-cons, drop-drop}
use lib.Dec.{eqb, ltb}
use borrow.Author.Tests.{eq-eqb, ltb-false, eqb-true, eqb-false, not-true, not-false}
use Rattle.laws.proofs.Booleans.{decide, both, neither}
use Rattle.record.specs.Kinds.{kinds, shapes_of}
use Rattle.record.specs.declared.Medium.TheVariants.{Code}
use Rattle.book.proofs.Shapes.{every, shape_below, in_order_lem}
use Rattle.book.specs.Syntax.{variable_of}
use Rattle.book.specs.Records.{follows, invalid}
use Rattle.machine.specs.Blocks.{Parsed, empty_block, body_length, stage_of, in_front, parse}
use Rattle.machine.specs.Acceptance.{Count, counted, faulty, sound}
use Rattle.verifier.specs.Pass.{count_of, faulty_at, ahead}
use Rattle.verifier.specs.declared.Progress.{Progress}

-- Passing a body

sound_skip : (n : ℕ) (l : List ℕ) (t : Count) → sound l n t ≡ sound (drop n l) 0 t
unfolding sound
sound_skip zero l t = refl
sound_skip (suc n) [] t = refl
sound_skip (suc n) (x ∷ l) t = sound_skip n l t

parse_skip : (n : ℕ) (l : List ℕ) → parse l n ≡ parse (drop n l) 0
unfolding parse
parse_skip zero l = refl
parse_skip (suc n) [] = refl
parse_skip (suc n) (x ∷ l) = parse_skip n l

module _ (code : List ℕ) (at : ℕ) (here : at < length code) where
  pub drop_here : drop at code ≡ get_or code at 0 ∷ drop (at + 1) code
  drop_here = drop-cons code at 0 here ∙ ap (λ (n : ℕ). get_or code at 0 ∷ drop n code) (sym (add-one at))

  pub sound_at : (u : Progress) (t : Count) → t ≡ counted (stage_of (get_or code at 0)) (count_of u)
      → sound (drop at code) 0 (count_of u) ≡ (not (faulty_at code at u) && sound (drop (at + 1 + body_length (get_or code at 0)) code) 0 t)
  unfolding sound faulty_at
  sound_at u t e =
      rw (
        drop_here,
        sound_skip (body_length (get_or code at 0)) (drop (at + 1) code) (counted (stage_of (get_or code at 0)) (count_of u)),
        drop-drop
            (body_length (get_or code at 0)) (at + 1) code,
        e,
      )

  pub ahead_at : ahead code at ≡ in_front (get_or code at 0) (drop (at + 1) code) (ahead code (at + 1 + body_length (get_or code at 0)))
  unfolding ahead parse
  ahead_at =
      rw (drop_here, parse_skip (body_length (get_or code at 0)) (drop (at + 1) code), drop-drop (body_length (get_or code at 0)) (at + 1) code)

pub ahead_end : (code : List ℕ) (at : ℕ) → length code ≤ at → ahead code at ≡ record { opened = empty_block; blocks = [] }
unfolding ahead parse
ahead_end code at h = rw (drop_of_length-le code h)

-- A record without fault

pub record Clean (t : Count) (k : ℕ) (rest : List ℕ) : Type 0 where
  pub known : stage_of k ≡ 0 → ⊥
  pub whole : body_length k ≤ length rest
  pub ordered : follows t.stage (stage_of k) ≡ true
  pub variables : (counted (stage_of k) t).variables ≤ 32
  pub sub_scopes : (counted (stage_of k) t).sub_scopes ≤ 8
  pub valid : invalid k rest ≡ false

pub clean : (t : Count) (k : ℕ) (rest : List ℕ) → faulty t k rest ≡ false → Clean t k rest
unfolding faulty
clean t k rest e =
    let five = invalid k rest in
    let four' = ltb 8 (counted (stage_of k) t).sub_scopes in
    let four = ltb 32 (counted (stage_of k) t).variables in
    let three = not (follows t.stage (stage_of k)) in
    let one = ltb (length rest) (body_length k) in
    let a = neither (eqb (stage_of k) 0) (one || (three || (four || (four' || five)))) e in
    let b = neither one (three || (four || (four' || five))) a.1 in
    let d = neither three (four || (four' || five)) b.1 in
    let f = neither four (four' || five) d.1 in
    let g = neither four' five f.1 in
    record {
      known = eqb-false (stage_of k) 0 a.0;
      whole = ltb-false (length rest) (body_length k) b.0;
      ordered = not-false (follows t.stage (stage_of k)) d.0;
      variables = ltb-false 32 (counted (stage_of k) t).variables f.0;
      sub_scopes = ltb-false 8 (counted (stage_of k) t).sub_scopes g.0;
      valid = g.1;
    }

-- every kind's stage is at most 4, and its body at most 4 bytes
pub stage_below : (k : ℕ) → stage_of k ≤ 4
unfolding every shapes_of kinds
stage_below k = shape_below Code (λ s. s.stage) 4 tt tt k

pub length_below : (k : ℕ) → body_length k ≤ 4
unfolding every shapes_of kinds
length_below k = shape_below Code (λ s. s.length) 4 tt tt k

-- the record in front of others, by its stage
module _ (k : ℕ) (rest : List ℕ) (p : Parsed) where
  pub front_one : stage_of k ≡ 1
      → in_front k rest p ≡ record {
        opened = empty_block;
        blocks = record
            { scope = get_or rest 0 0; variables = p.opened.variables; sub_scopes = p.opened.sub_scopes; body = p.opened.body } ∷ p.blocks;
      }
  unfolding in_front
  front_one e = rw (eq-eqb (stage_of k) 1 e)

  pub front_two : stage_of k ≡ 2
      → in_front k rest p ≡ record {
        opened = record {
          scope = 0;
          variables = variable_of rest ∷ p.opened.variables;
          sub_scopes = p.opened.sub_scopes;
          body = p.opened.body;
        };
        blocks = p.blocks;
      }
  unfolding in_front
  front_two e = rw e

  pub front_three : stage_of k ≡ 3
      → in_front k rest p ≡ record {
        opened = record {
          scope = 0;
          variables = p.opened.variables;
          sub_scopes = get_or rest 0 0 ∷ p.opened.sub_scopes;
          body = p.opened.body;
        };
        blocks = p.blocks;
      }
  unfolding in_front
  front_three e = rw e

  pub front_four : stage_of k ≡ 4
      → in_front k rest p ≡ record {
        opened = record {
          scope = 0;
          variables = p.opened.variables;
          sub_scopes = p.opened.sub_scopes;
          body = k ∷ take (body_length k)
              rest ++ p.opened.body;
        };
        blocks = p.blocks;
      }
  unfolding in_front
  front_four e = rw e

-- the rest of a block
front_short : (k : ℕ) (rest : List ℕ) (p : Parsed)
    → length (in_front k rest p).opened.body ≤ suc (length (take (body_length k) rest)) + length p.opened.body
unfolding in_front
front_short k rest p =
    ⊎_elim
    (λ (q1 : eqb (stage_of k) 1 ≡ true). rw q1 (omega arith))
    (λ (q1 : eqb (stage_of k) 1 ≡ false).
    ⊎_elim
    (λ (q2 : eqb (stage_of k) 2 ≡ true). rw (q1, q2) (omega arith))
    (λ (q2 : eqb (stage_of k) 2 ≡ false).
    ⊎_elim
    (λ (q3 : eqb (stage_of k) 3 ≡ true). rw (q1, q2, q3) (omega arith))
    (λ (q3 : eqb (stage_of k) 3 ≡ false).
    ⊎_elim
    (λ (q4 : eqb (stage_of k) 4 ≡ true).
    rw (q1, q2, q3, q4) (let l = length-append (take (body_length k) rest) p.opened.body in omega arith))
    (λ (q4 : eqb (stage_of k) 4 ≡ false). rw (q1, q2, q3, q4) (omega arith))
    (decide (eqb (stage_of k) 4)))
    (decide (eqb (stage_of k) 3)))
    (decide (eqb (stage_of k) 2)))
    (decide (eqb (stage_of k) 1))

parted : (n : ℕ) (xs : List ℕ) → length (take n xs) + length (drop n xs) ≡ length xs
parted zero xs = omega arith
parted (suc n) [] = omega arith
parted (suc n) (x ∷ xs) = let h = parted n xs in omega arith

open_short : (bytes : List ℕ) (n : ℕ) → length (parse bytes n).opened.body ≤ length (drop n bytes)
unfolding parse
open_short [] n = omega arith
open_short (b ∷ rest) (suc n) = open_short rest n
open_short (k ∷ rest) zero =
    let f = front_short k rest (parse rest (body_length k)) in
    let h = open_short rest (body_length k) in
    let s = parted (body_length k) rest in
    omega arith

pub ahead_short : (code : List ℕ) (at : ℕ) → length (ahead code at).opened.body ≤ length code - at
unfolding ahead
ahead_short code at = let h = open_short (drop at code) 0 in let l = length-drop at code in omega arith

pub record NoHeads (p : Parsed) : Type 0 where
  pub variables : p.opened.variables ≡ []
  pub sub_scopes : p.opened.sub_scopes ≡ []

counted_stage : (t : Count) → (counted 4 t).stage ≡ 4
unfolding counted
counted_stage t = refl

heads_four : (k : ℕ) (rest : List ℕ) (p : Parsed) → stage_of k ≡ 4 → NoHeads p → NoHeads (in_front k rest p)
heads_four k rest p e h = rw (front_four k rest p e) (record { variables = h.variables; sub_scopes = h.sub_scopes })

heads_one : (k : ℕ) (rest : List ℕ) (p : Parsed) → stage_of k ≡ 1 → NoHeads (in_front k rest p)
heads_one k rest p e = rw (front_one k rest p e) (record { variables = refl; sub_scopes = refl })

heads_by : (t : Count) (k : ℕ) (rest : List ℕ) (p : Parsed) → 4 ≤ t.stage → Clean t k rest
    → (4 ≤ (counted (stage_of k) t).stage → NoHeads p) → NoHeads (in_front k rest p)
heads_by t k rest p h c more =
    ⊎_elim
    (λ (q : eqb (stage_of k) 1 ≡ true). heads_one k rest p (eqb-true (stage_of k) 1 q))
    (λ (q : eqb (stage_of k) 1 ≡ false).
    let n1 = eqb-false (stage_of k) 1 q in
    let n0 = c.known in
    let b = stage_below k in
    let o = in_order_lem t.stage (stage_of k) c.ordered (above (stage_of k) n0 n1) in
    let e : stage_of k ≡ 4 = omega arith in
    heads_four k rest p e (more (rw e (let z = counted_stage t in omega arith))))
    (decide (eqb (stage_of k) 1))
  where
    above : (s : ℕ) → (s ≡ 0 → ⊥) → (s ≡ 1 → ⊥) → 2 ≤ s
    above s a b = omega arith

pub no_heads : (bytes : List ℕ) (n : ℕ) (t : Count) → sound bytes n t ≡ true → 4 ≤ t.stage → NoHeads (parse bytes n)
unfolding sound parse
no_heads [] n t e h = record { variables = refl; sub_scopes = refl }
no_heads (b ∷ rest) (suc n) t e h = no_heads rest n t e h
no_heads (k ∷ rest) zero t e h =
    let q = both (not (faulty t k rest)) (sound rest (body_length k) (counted (stage_of k) t)) e in
    heads_by t k rest (parse rest (body_length k)) h (clean t k rest (not-true (faulty t k rest) q.0))
    (λ l. no_heads rest (body_length k) (counted (stage_of k) t) q.1 l)
