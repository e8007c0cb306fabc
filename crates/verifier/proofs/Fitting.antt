-- The kinds of instructions, one by one.
--     by_kind        what holds at each of them holds at every kind of stage 4
--     fits_parts     an instruction fits where its numbers name something and its distance lands
--     form_length, form-some, form-valid
--                    the form of a kind: its length, that it has one, that numbers that it may have are valid
--     local          an instruction depends only on its body
-- Assumes nothing.
use Prim.Native.Nat.{ℕ, ◌+◌, ◌-◌, ◌<◌, ◌≤◌}
use mathlib.Core.Path.{◌≡◌, refl, sym, ap, subst, ◌∙◌}
use mathlib.Core.Bool.{Bool, true, false, cond, not, ◌&&◌, ◌||◌, false≢true}
use mathlib.Core.List.{List, [], ◌∷◌}
use mathlib.Core.Logic.{⊎_elim}
use native.Mathlib.Omega.{arith}
use lib.ListN.{length, get_or, drop, get_or-eq_default}
use lib.Seq.{get_or-drop}
use lib.Dec.{T, eqb, ltb}
use borrow.Author.Tests.{eqb-true, eqb-false, eq-eqb, lt-ltb, le-ltb, ltb-true, ltb-false, not-true}
use Rattle.laws.proofs.Booleans.{decide, both, or_cases}
use Rattle.book.specs.Records.{invalid}
use Rattle.slices.specs.Bytes.{big_endian, number_at}
use Rattle.record.specs.Kinds.{kinds, shapes_of, shape_in}
use Rattle.record.proofs.Decision.{by_range, over, is_any}
use Rattle.machine.specs.Instructions.{instruction_of}
use Rattle.machine.specs.Blocks.{Block, body_length, stage_of, variables_of}
use Rattle.machine.specs.Acceptance.{lands, fits}
use Rattle.machine.proofs.Landing.{lands_here}
use Rattle.verifier.specs.Instructions.{form_of, form_by, length_of, named, distance_at, distance_of}
use Rattle.verifier.proofs.Faults.{no_byte}
use Rattle.record.specs.declared.Medium.TheVariants.{Code}

abbrev Each : (ℕ → Type 0) → List ℕ → Type 0
Each P [] = Unit {0}
Each P (x ∷ xs) = P x × Each P xs

listed : List ℕ → ℕ → Bool
listed [] k = false
listed (x ∷ xs) k = eqb k x || listed xs k

find : (P : ℕ → Type 0) (xs : List ℕ) → Each P xs → (k : ℕ) → listed xs k ≡ true → P k
unfolding listed
find P [] ps k e = absurd (false≢true e)
find P (x ∷ xs) ps k e =
    ⊎_elim
    (λ (q : eqb k x ≡ true). subst P (sym (eqb-true k x q)) ps.0)
    (λ (q : listed xs k ≡ true). find P xs ps.1 k q)
    (or_cases (eqb k x) (listed xs k) e)

abbrev instructions : List ℕ
instructions =
    4 ∷ 5 ∷ 6 ∷ 7 ∷ 10 ∷ 11 ∷ 12 ∷ 13 ∷ 14 ∷ 15 ∷ 16 ∷ 32 ∷ 33 ∷ 34 ∷ 35 ∷ 36 ∷ 37 ∷ 38 ∷ 39 ∷ 40 ∷ 41 ∷ 42 ∷ 43 ∷ 44 ∷ []

covered : ℕ → Bool
covered k = not (eqb (stage_of k) 4) || listed instructions k

both_true : (a b : Bool) → T (a && b) → a ≡ b
both_true true true h = refl
both_true true false h = absurd h
both_true false b h = absurd h

table_covered : (k : ℕ) → k < 45 → true ≡ covered k
unfolding covered over is_any listed shape_in shapes_of kinds
table_covered k h = by_range covered (λ a b. a && b) both_true [] true 0 45 tt k tt (omega arith) (omega arith)

past_table : (k : ℕ) → 45 ≤ k → stage_of k ≡ 0
unfolding shape_in shapes_of kinds
past_table k h = ap (λ s. s.3) (get_or-eq_default kinds _ h)

covered_listed : (k : ℕ) → stage_of k ≡ 4 → true ≡ covered k → listed instructions k ≡ true
unfolding covered
covered_listed k e h = sym (rw (eq-eqb (stage_of k) 4 e) at h)

is_listed : (k : ℕ) → stage_of k ≡ 4 → listed instructions k ≡ true
is_listed k e =
    ⊎_elim
    (λ (q : ltb k 45 ≡ true). covered_listed k e (table_covered k (ltb-true k 45 q)))
    (λ (q : ltb k 45 ≡ false). let z = past_table k (ltb-false k 45 q) in absurd (omega arith))
    (decide (ltb k 45))

pub by_kind : (P : ℕ → Type 0) → Each P instructions → (k : ℕ) → stage_of k ≡ 4 → P k
by_kind P ps k e = find P instructions ps k (is_listed k e)

-- Fitting

ends : (x : Bool) (after : List ℕ) → x ≡ (x && lands after 0 0)
ends true after = sym (lands_here after)
ends false after = refl

-- no or yes
below_two : (x : ℕ) (after : List ℕ) → ltb 1 x ≡ false → true ≡ (ltb x 2 && lands after 0 0)
below_two x after h = rw (lt-ltb x 2 (let l = ltb-false 1 x h in omega arith)) (ends true after)

-- the distance in the bytes behind a kind
distance_in : ℕ → List ℕ → ℕ
distance_in form r = cond (eqb form 7) (big_endian 2 r 0) (cond (eqb form 8) (big_endian 2 r 1) 0)

module _ (code : List ℕ) (at : ℕ) where
  byte_behind : (i j : ℕ) → at + 1 + i ≡ j → get_or (drop (at + 1) code) i 0 ≡ get_or code j 0
  byte_behind i j e = get_or-drop (at + 1) code i 0 ∙ ap (λ (x : ℕ). get_or code x 0) e

  distance_behind : (i e : ℕ) → at + 2 + i ≡ e → big_endian 2 (drop (at + 1) code) i ≡ distance_at code e
  unfolding big_endian distance_at
  distance_behind i e q =
      let x = byte_behind (i + 0) (e - 1) (omega arith) in
      let y = byte_behind (i + 1) e (omega arith) in
      omega arith

  distance_is_lem : (form : ℕ) → distance_in form (drop (at + 1) code) ≡ distance_of form code at
  unfolding distance_in distance_of
  distance_is_lem form = rw (distance_behind 0 (at + 2) (omega arith), distance_behind 1 (at + 3) (omega arith))

module _ (earlier : List Block) (b : Block) where
  abbrev Parts : ℕ → Type 0
  Parts k =
      (r after : List ℕ) → invalid k r ≡ false
      → fits earlier b (instruction_of k r) after ≡ (named (form_of k) (get_or r 0 0) (get_or r 1 0) (length b.variables) (length b.sub_scopes)
      (length (variables_of earlier (get_or b.sub_scopes (get_or r 0 0) 0)))
      && lands after 0 (distance_in (form_of k) r))

  parts : Each Parts instructions
  unfolding fits instruction_of named form_of distance_in invalid
  parts = (λ r a h. below_two (get_or r 0 0) a h, (λ r a h. ends true a, (λ r a h. ends _ a, (λ r a h. ends _ a, (λ r a h. ends true a, (λ r a h. ends true a, (λ r a h. ends true a, (λ r a h. ends true a, (λ r a h. ends true a, (λ r a h. ends true a, (λ r a h. ends true a, (λ r a h. ends true a, (λ r a h. ends true a, (λ r a h. refl, (λ r a h. refl, (λ r a h. refl, (λ r a h. ends true a, (λ r a h. ends true a, (λ r a h. ends true a, (λ r a h. refl, (λ r a h. ends _ a, (λ r a h. ends _ a, (λ r a h. ends _ a, (λ r a h. refl, tt))))))))))))))))))))))))

  pub fits_parts : (k : ℕ) → stage_of k ≡ 4 → (code : List ℕ) (at : ℕ) (after : List ℕ) → invalid k (drop (at + 1) code) ≡ false
      → fits earlier b (instruction_of k (drop (at + 1) code)) after
      ≡ (named (form_of k) (get_or code (at + 1) 0) (get_or code (at + 2) 0) (length b.variables) (length b.sub_scopes)
      (length (variables_of earlier (get_or b.sub_scopes (get_or code (at + 1) 0) 0)))
      && lands after 0 (distance_of (form_of k) code at))
  fits_parts k e code at after valid =
      rw (← byte_behind code at 0 (at + 1) (omega arith), ← byte_behind code at 1 (at + 2) (omega arith), ← distance_is_lem code at (form_of k))
      (by_kind Parts parts k e (drop (at + 1) code) after valid)

-- The form of a kind

agrees : ℕ → Bool
agrees k =
    not (eqb (stage_of k) 4) || ((eqb (body_length k) (length_of (form_of k)) && not (eqb (form_of k) 0)) && eqb (form_by k (body_length k)) (form_of k))

table_agrees : (k : ℕ) → k < 45 → true ≡ agrees k
unfolding agrees over is_any form_of form_by length_of shape_in shapes_of kinds
table_agrees k h = by_range agrees (λ a b. a && b) both_true [] true 0 45 tt k tt (omega arith) (omega arith)

agreed : (k : ℕ) → stage_of k ≡ 4 → ((eqb (body_length k) (length_of (form_of k)) && not (eqb (form_of k) 0)) && eqb (form_by k (body_length k)) (form_of k)) ≡ true
unfolding agrees
agreed k e =
    ⊎_elim
    (λ (q : ltb k 45 ≡ true). sym (rw (eq-eqb (stage_of k) 4 e) at (table_agrees k (ltb-true k 45 q))))
    (λ (q : ltb k 45 ≡ false). let z = past_table k (ltb-false k 45 q) in absurd (omega arith))
    (decide (ltb k 45))

agreed_form : (k : ℕ) → stage_of k ≡ 4 → (eqb (body_length k) (length_of (form_of k)) ≡ true) × (not (eqb (form_of k) 0) ≡ true)
agreed_form k e =
    both (eqb (body_length k) (length_of (form_of k))) (not (eqb (form_of k) 0))
    (both (eqb (body_length k) (length_of (form_of k)) && not (eqb (form_of k) 0)) (eqb (form_by k (body_length k)) (form_of k)) (agreed k e)).0

pub form_length : (k : ℕ) → stage_of k ≡ 4 → body_length k ≡ length_of (form_of k)
form_length k e = eqb-true (body_length k) (length_of (form_of k)) (agreed_form k e).0

pub form_some : (k : ℕ) → stage_of k ≡ 4 → form_of k ≡ 0 → ⊥
form_some k e = eqb-false (form_of k) 0 (not-true (eqb (form_of k) 0) (agreed_form k e).1)

pub form_by_lem : (k : ℕ) → stage_of k ≡ 4 → form_by k (body_length k) ≡ form_of k
form_by_lem k e =
    eqb-true (form_by k (body_length k)) (form_of k)
    (both (eqb (body_length k) (length_of (form_of k)) && not (eqb (form_of k) 0)) (eqb (form_by k (body_length k)) (form_of k)) (agreed k e)).1

-- an instruction whose numbers are good has no invalid byte
pub form_valid : (k : ℕ) → stage_of k ≡ 4 → (rest : List ℕ) (a b v s c : ℕ) → a ≡ get_or rest 0 0 → named (form_of k) a b v s c ≡ true → invalid k rest ≡ false
unfolding shape_in shapes_of kinds form_of named invalid
form_valid k e rest a b v s c ea h =
    ⊎_elim
    (λ (q : eqb k 4 ≡ true).
    let four = eqb-true k 4 q in
    let t = ltb-true a 2 (rw four at h) in
    rw (four, ← ea) (le-ltb 1 a (omega arith)))
    (λ (q : eqb k 4 ≡ false).
    no_byte k rest (λ z. omega arith) (λ z. let y : stage_of k ≡ 2 = ap (λ (x : ℕ). (shape_in Code x).stage) z in omega arith) (eqb-false k 4 q))
    (decide (eqb k 4))

-- the body

abbrev Local : ℕ → Type 0
Local k = (r s : List ℕ) → ((i : ℕ) → i < body_length k → get_or r i 0 ≡ get_or s i 0) → instruction_of k r ≡ instruction_of k s

locals : Each Local instructions
unfolding instruction_of shape_in shapes_of kinds number_at big_endian
locals = (
  λ r s h. rw (h 0 (omega arith)),
  (
    λ r s h. rw (h 0 (omega arith), h 1 (omega arith), h 2 (omega arith), h 3 (omega arith)),
    (
      λ r s h. rw (h 0 (omega arith)),
      (
        λ r s h. rw (h 0 (omega arith), h 1 (omega arith)),
        (
          λ r s h. refl,
          (
            λ r s h. refl,
            (
              λ r s h. refl,
              (
                λ r s h. refl,
                (
                  λ r s h. refl,
                  (
                    λ r s h. refl,
                    (
                      λ r s h. refl,
                      (
                        λ r s h. refl,
                        (
                          λ r s h. refl,
                          (
                            λ r s h. rw (h 0 (omega arith), h 1 (omega arith)),
                            (
                              λ r s h. rw (h 0 (omega arith), h 1 (omega arith)),
                              (
                                λ r s h. rw (h 0 (omega arith), h 1 (omega arith)),
                                (
                                  λ r s h. refl,
                                  (
                                    λ r s h. refl,
                                    (
                                      λ r s h. refl,
                                      (
                                        λ r s h. rw (h 0 (omega arith), h 1 (omega arith)),
                                        (
                                          λ r s h. rw (h 0 (omega arith)),
                                          (
                                            λ r s h. rw (h 0 (omega arith), h 1 (omega arith)),
                                            (
                                              λ r s h. rw (h 0 (omega arith)),
                                              (λ r s h. rw (h 0 (omega arith), h 1 (omega arith), h 2 (omega arith)), tt),
                                            ),
                                          ),
                                        ),
                                      ),
                                    ),
                                  ),
                                ),
                              ),
                            ),
                          ),
                        ),
                      ),
                    ),
                  ),
                ),
              ),
            ),
          ),
        ),
      ),
    ),
  ),
)

pub local : (k : ℕ) → stage_of k ≡ 4 → Local k
local k e = by_kind Local locals k e
