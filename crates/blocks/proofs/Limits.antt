-- The blocks of accepted code have at most 32 variables and 8 sub-scopes.
-- Assumes nothing.
use Prim.Native.Nat.{ℕ, zero, suc, ◌+◌, ◌≤◌}
use mathlib.Core.Path.{◌≡◌}
use mathlib.Core.Bool.{true, false, not}
use mathlib.Core.List.{List, [], ◌∷◌}
use mathlib.Core.Logic.{⊎_elim}
use native.Mathlib.Omega.{arith}
use lib.ListN.{length, get_or}
use lib.Dec.{eqb, ltb}
use borrow.Author.Tests.{ltb-false, not-true}
use Rattle.laws.proofs.Booleans.{both, neither, decide}
use Rattle.book.specs.Records.{follows}
use Rattle.machine.specs.Blocks.{Block, empty_block, Parsed, body_length, stage_of, in_front, parse}
use Rattle.machine.specs.Acceptance.{Count, start, counted, faulty, sound, accepted}

-- variables and sub-scopes of a block, so many read before
pub record Small (t : Count) (b : Block) : Type 0 where
  pub variables : t.variables + length b.variables ≤ 32
  pub sub_scopes : t.sub_scopes + length b.sub_scopes ≤ 8

abbrev AllSmall : List Block → Type 0
AllSmall [] = Unit {0}
AllSmall (b ∷ bs) = Small start b × AllSmall bs

pub record Fine (t : Count) (p : Parsed) : Type 0 where
  pub open_block : Small t p.opened
  pub whole : AllSmall p.blocks

-- a record that is not faulty leaves room
pub record Kept (s : ℕ) (t : Count) : Type 0 where
  pub variables : (counted s t).variables ≤ 32
  pub sub_scopes : (counted s t).sub_scopes ≤ 8

kept : (t : Count) (k : ℕ) (rest : List ℕ) → faulty t k rest ≡ false → Kept (stage_of k) t
unfolding faulty
kept t k rest e =
    let a = (neither (eqb (stage_of k) 0) _ e).1 in
    let b = (neither (ltb (length rest) (body_length k)) _ a).1 in
    let c = (neither (not (follows t.stage (stage_of k))) _ b).1 in
    let d = neither (ltb 32 (counted (stage_of k) t).variables) _ c in
    let f = neither (ltb 8 (counted (stage_of k) t).sub_scopes) _ d.1 in
    record { variables = ltb-false 32 (counted (stage_of k) t).variables d.0; sub_scopes = ltb-false 8 (counted (stage_of k) t).sub_scopes f.0 }

module _ (t : Count) (k : ℕ) (rest : List ℕ) (p : Parsed) (f : Fine (counted (stage_of k) t) p) (few : (t.variables ≤ 32) × (t.sub_scopes ≤ 8)) where
  front_1 : eqb (stage_of k) 1 ≡ true → Fine t (in_front k rest p)
  unfolding in_front counted
  front_1 q1 =
      let g = rw (q1) at f in
      let x = g.open_block.variables in
      let y = g.open_block.sub_scopes in
      rw (q1) (record { open_block = record { variables = omega arith; sub_scopes = omega arith }; whole = (record { variables = x; sub_scopes = y }, g.whole) })

  front_2 : eqb (stage_of k) 1 ≡ false → eqb (stage_of k) 2 ≡ true → Fine t (in_front k rest p)
  unfolding in_front counted
  front_2 q1 q2 =
      let g = rw (q1, q2) at f in
      let x = g.open_block.variables in
      let y = g.open_block.sub_scopes in
      rw (q1, q2) (record { open_block = record { variables = omega arith; sub_scopes = omega arith }; whole = g.whole })

  front_3 : eqb (stage_of k) 1 ≡ false → eqb (stage_of k) 2 ≡ false → eqb (stage_of k) 3 ≡ true → Fine t (in_front k rest p)
  unfolding in_front counted
  front_3 q1 q2 q3 =
      let g = rw (q1, q2, q3) at f in
      let x = g.open_block.variables in
      let y = g.open_block.sub_scopes in
      rw (q1, q2, q3) (record { open_block = record { variables = omega arith; sub_scopes = omega arith }; whole = g.whole })

  front_4 : eqb (stage_of k) 1 ≡ false → eqb (stage_of k) 2 ≡ false → eqb (stage_of k) 3 ≡ false → eqb (stage_of k) 4 ≡ true → Fine t (in_front k rest p)
  unfolding in_front counted
  front_4 q1 q2 q3 q4 =
      let g = rw (q1, q2, q3) at f in
      let x = g.open_block.variables in
      let y = g.open_block.sub_scopes in
      rw (q1, q2, q3, q4) (record { open_block = record { variables = x; sub_scopes = y }; whole = g.whole })

  front_0 : eqb (stage_of k) 1 ≡ false → eqb (stage_of k) 2 ≡ false → eqb (stage_of k) 3 ≡ false → eqb (stage_of k) 4 ≡ false → Fine t (in_front k rest p)
  unfolding in_front counted
  front_0 q1 q2 q3 q4 =
      let g = rw (q1, q2, q3) at f in
      let x = g.open_block.variables in
      let y = g.open_block.sub_scopes in
      rw (q1, q2, q3, q4) (record { open_block = record { variables = x; sub_scopes = y }; whole = g.whole })

  front : Fine t (in_front k rest p)
  front =
      ⊎_elim front_1
      (λ q₁. ⊎_elim (front_2 q₁)
      (λ q₂. ⊎_elim (front_3 q₁ q₂)
      (λ q₃. ⊎_elim (front_4 q₁ q₂ q₃) (front_0 q₁ q₂ q₃) (decide (eqb (stage_of k) 4)))
      (decide (eqb (stage_of k) 3)))
      (decide (eqb (stage_of k) 2)))
      (decide (eqb (stage_of k) 1))

fine : (xs : List ℕ) (n : ℕ) (t : Count) → sound xs n t ≡ true → (t.variables ≤ 32) × (t.sub_scopes ≤ 8) → Fine t (parse xs n)
unfolding sound parse
fine [] n t e few = record { open_block = record { variables = omega arith; sub_scopes = omega arith }; whole = tt }
fine (x ∷ xs) (suc n) t e few = fine xs n t e few
fine (k ∷ xs) zero t e few =
    let g = both (not (faulty t k xs)) (sound xs (body_length k) (counted (stage_of k) t)) e in
    let r = kept t k xs (not-true (faulty t k xs) g.0) in
    front t k xs (parse xs (body_length k)) (fine xs (body_length k) (counted (stage_of k) t) g.1 (r.variables, r.sub_scopes)) few

small_at : (bs : List Block) (p : ℕ) → AllSmall bs → Small start (get_or bs p empty_block)
small_at [] p a = record { variables = omega arith; sub_scopes = omega arith }
small_at (b ∷ bs) zero a = a.0
small_at (b ∷ bs) (suc p) a = small_at bs p a.1

pub limits : (code : List ℕ) → accepted code ≡ true → (p : ℕ)
    → (length (get_or (parse code 0).blocks p empty_block).variables ≤ 32) × (length (get_or (parse code 0).blocks p empty_block).sub_scopes ≤ 8)
unfolding accepted
limits code e p =
    let s = (both (sound code 0 start) _ e).0 in
    let a = small_at (parse code 0).blocks p (fine code 0 start s (omega arith, omega arith)).whole in
    let v = a.variables in
    let u = a.sub_scopes in
    (omega arith, omega arith)
