-- A record of the pass: what is known of it before its kind is looked at.
--     drop_more, drop-end                                lists that are read from the left
--     is_clean, next-inside, sound-next, was-open        a record without fault
--     faulty_refused, fine_of                            a record with one
-- Assumes nothing.
use Prim.Native.Nat.{ℕ, suc, ◌+◌, ◌-◌, ◌<◌, ◌≤◌}
use mathlib.Core.Path.{◌≡◌, refl, sym, ap, ◌∙◌}
use mathlib.Core.Bool.{true, false, false≢true}
use mathlib.Core.List.{List, [], ◌∷◌}
use mathlib.Core.Logic.{⊎_elim}
use native.Mathlib.Omega.{arith}
use Rattle.laws.proofs.Booleans.{decide}
use lib.ListN.{length, get_or, drop, length-drop}
use lib.Seq.{drop-drop, get_or-drop}
use Rattle.machine.specs.Blocks.{body_length, stage_of}
use Rattle.machine.specs.Acceptance.{start, counted, sound, accepted}
use Rattle.verifier.specs.Pass.{count_of, faulty_at, Reading}
use Rattle.verifier.specs.declared.Progress.{Progress}
use Rattle.book.proofs.Shapes.{in_order_lem}
use Rattle.verifier.proofs.Reading.{sound_at, Clean, clean}
use Rattle.verifier.proofs.Blocks.{refused, sound_code}

-- Lists

pub record More {A : Type 0} (xs : List A) (n : ℕ) (x : A) (ys : List A) (d : A) : Type 0 where
  pub inside : n < length xs
  pub here : get_or xs n d ≡ x
  pub later : drop (n + 1) xs ≡ ys

pub drop_more : {A : Type 0} (xs : List A) (n : ℕ) (x : A) (ys : List A) (d : A) → drop n xs ≡ x ∷ ys → More xs n x ys d
drop_more xs n x ys d e =
    let l : length xs - n ≡ suc (length ys) = sym (length-drop n xs) ∙ ap length e in
    let z : n + 0 ≡ n = omega arith in
    record {
      inside = omega arith;
      here = sym (ap (λ (i : ℕ). get_or xs i d) z) ∙ sym (get_or-drop n xs 0 d) ∙ ap (λ (l : List _). get_or l 0 d) e;
      later = sym (drop-drop 1 n xs) ∙ ap (drop 1) e;
    }

pub drop_end : {A : Type 0} (xs : List A) (n : ℕ) → drop n xs ≡ [] → length xs ≤ n
drop_end xs n e = let l : length xs - n ≡ 0 = sym (length-drop n xs) ∙ ap length e in omega arith

-- The present record

abbrev pub next_at : List ℕ → ℕ → ℕ
next_at code at = at + 1 + body_length (get_or code at 0)

module _ (code : List ℕ) (at : ℕ) (u : Progress) (directory ring : List ℕ)
    (r : Reading code at u directory ring) (here : at < length code) (fine : faulty_at code at u ≡ false) where
  pub is_clean : Clean (count_of u) (get_or code at 0) (drop (at + 1) code)
  unfolding faulty_at
  is_clean = clean (count_of u) (get_or code at 0) (drop (at + 1) code) fine

  pub next_inside : next_at code at ≤ length code
  next_inside =
      let w : body_length (get_or code at 0) ≤ length code - (at + 1) = rw length-drop at is_clean.whole in
      omega arith

  pub sound_next : sound (drop (next_at code at) code) 0 (counted (stage_of (get_or code at 0)) (count_of u)) ≡ sound code 0 start
  sound_next = sym (sound_at code at here u _ refl ∙ rw fine) ∙ r.sound

  pub was_open : 2 ≤ stage_of (get_or code at 0) → (1 ≤ u.stage) × (u.stage ≤ stage_of (get_or code at 0))
  was_open h = in_order_lem u.stage (stage_of (get_or code at 0)) is_clean.ordered h

-- a record that is refused for a fault 1 to 5
pub faulty_refused : (code : List ℕ) (at : ℕ) (u : Progress) → at < length code → sound (drop at code) 0 (count_of u) ≡ sound code 0 start
    → faulty_at code at u ≡ true → accepted code ≡ false
faulty_refused code at u here s e =
    refused code
    (λ a. false≢true (sym (sound_at code at here u _ refl ∙ rw e) ∙ s ∙ sound_code code a))

-- of accepted code no record has one
pub fine_of : (code : List ℕ) (at : ℕ) (u : Progress) → at < length code → sound (drop at code) 0 (count_of u) ≡ sound code 0 start
    → accepted code ≡ true → faulty_at code at u ≡ false
fine_of code at u here s a =
    ⊎_elim
    (λ (q : faulty_at code at u ≡ true). absurd (false≢true (sym (faulty_refused code at u here s q) ∙ a)))
    (λ (q : faulty_at code at u ≡ false). q)
    (decide (faulty_at code at u))
