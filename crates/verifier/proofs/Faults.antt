-- The faults 1 to 5 of a record of code, each as the pass tests it.
--     variable_more, sub_more, none_more                                  limits
--     fault_kind, fault-length, fault-order, fault-limit, fault-byte,
--     fault_none                                                          one law for each way through `is_faulty`
--     no_byte, fault-free                                                 an instruction
-- Assumes nothing.
use Prim.Native.Nat.{ℕ, suc, ◌+◌, ◌-◌, ◌<◌, ◌≤◌}
use mathlib.Core.Path.{◌≡◌, refl, sym, ap, ◌∙◌}
use mathlib.Core.Bool.{Bool, true, false, not, ◌||◌, or-false}
use mathlib.Core.List.{List}
use mathlib.Core.Logic.{◌⊎◌, inl, inr, ⊎_elim}
use native.Mathlib.Omega.{arith}
use lib.ListN.{length, get_or, take, drop, length-drop}
use lib.Seq.{get_or-take}
use lib.Dec.{eqb, ltb}
use borrow.Author.Tests.{eq-eqb, ne_eqb, lt-ltb, le-ltb, le-leb, ltb-true, ltb-false, eqb-true, eqb-false}
use Rattle.laws.proofs.Booleans.{decide}
use Rattle.book.specs.Records.{follows, invalid}
use Rattle.book.proofs.Shapes.{in_order_lem}
use Rattle.machine.specs.Acceptance.{counted, faulty}
use Rattle.record.specs.Kinds.{shape_in, shapes_of, kinds}
use Rattle.record.specs.Record.{body_at}
use Rattle.record.specs.declared.Shape.{Shape}
use Rattle.record.specs.declared.Medium.TheVariants.{Code}
use Rattle.verifier.specs.Pass.{count_of, faulty_at, exceeds_with, Limited}
use Rattle.verifier.specs.declared.Progress.{Progress}

shift : (a b : ℕ) → ltb (suc a) (b + 1) ≡ ltb a b
shift a b =
    ⊎_elim
    (λ (q : ltb a b ≡ true). rw q (lt-ltb (suc a) (b + 1) (let h = ltb-true a b q in omega arith)))
    (λ (q : ltb a b ≡ false). rw q (le-ltb (suc a) (b + 1) (let h = ltb-false a b q in omega arith)))
    (decide (ltb a b))

module _ (s : ℕ) (u : Progress) where
  pub variable_more : s ≡ 2 → Limited u → ltb 31 u.variables ≡ exceeds_with s u
  unfolding exceeds_with counted
  variable_more e l = rw e (sym (rw (shift 31 u.variables, le-ltb 8 u.subs l.subs) (or-false (ltb 31 u.variables))))

  pub sub_more : s ≡ 3 → Limited u → ltb 7 u.subs ≡ exceeds_with s u
  unfolding exceeds_with counted
  sub_more e l = rw e (sym (rw (le-ltb 32 u.variables l.variables) (shift 7 u.subs)))

  pub none_more : (s ≡ 2 → ⊥) → (s ≡ 3 → ⊥) → Limited u → false ≡ exceeds_with s u
  unfolding exceeds_with counted
  none_more a b l =
      rw (ne_eqb s 2 a, ne_eqb s 3 b)
      (⊎_elim
      (λ (q : eqb s 1 ≡ true). rw q refl)
      (λ (q : eqb s 1 ≡ false). rw (q, le-ltb 32 u.variables l.variables, le-ltb 8 u.subs l.subs) refl)
      (decide (eqb s 1)))

-- the tests of a record of a shape, in their order
tests : List ℕ → ℕ → Progress → Shape → Bool
tests code at u s =
    eqb s.stage 0
    || (ltb (length (drop (at + 1) code)) s.length
    || (not (follows u.stage s.stage)
    || (ltb 32 (counted s.stage (count_of u)).variables ||
    (ltb 8 (counted s.stage (count_of u)).sub_scopes || invalid (get_or code at 0) (drop (at + 1) code)))))

or_group : (a b d : Bool) → (a || (b || d)) ≡ ((a || b) || d)
or_group true b d = refl
or_group false b d = refl

-- 8, 9 and 20 are unknown in code
pub no_byte : (k : ℕ) (body : List ℕ) → ((shape_in Code k).stage ≡ 0 → ⊥) → (k ≡ 2 → ⊥) → (k ≡ 4 → ⊥) → invalid k body ≡ false
unfolding invalid shape_in shapes_of kinds
no_byte k body zero two four =
    rw (
      ne_eqb k 2 two,
      ne_eqb k 8 (λ e. zero (ap (λ (x : ℕ). (shape_in Code x).stage) e)),
      ne_eqb k 9 (λ e. zero (ap (λ (x : ℕ). (shape_in Code x).stage) e)),
      ne_eqb k 4 four,
      ne_eqb k 20 (λ e. zero (ap (λ (x : ℕ). (shape_in Code x).stage) e)),
    )

-- the kinds with such a byte look at no byte past their body
one_byte : (k : ℕ) (rest : List ℕ) → (k ≡ 2) ⊎ (k ≡ 4) → invalid k (take (shape_in Code k).length rest) ≡ invalid k rest
unfolding invalid shape_in shapes_of kinds
one_byte k rest (inl e) = rw (e, get_or-take 1 rest 0 0 (omega arith))
one_byte k rest (inr e) = rw (e, get_or-take 1 rest 0 0 (omega arith))

same_byte : (k : ℕ) (rest : List ℕ) → ((shape_in Code k).stage ≡ 0 → ⊥) → invalid k (take (shape_in Code k).length rest) ≡ invalid k rest
same_byte k rest known =
    ⊎_elim
    (λ (q : eqb k 2 ≡ true). one_byte k rest (inl (eqb-true k 2 q)))
    (λ (q : eqb k 2 ≡ false).
    ⊎_elim
    (λ (p : eqb k 4 ≡ true). one_byte k rest (inr (eqb-true k 4 p)))
    (λ (p : eqb k 4 ≡ false).
    no_byte k (take (shape_in Code k).length rest) known (eqb-false k 2 q) (eqb-false k 4 p)
    ∙ sym (no_byte k rest known (eqb-false k 2 q) (eqb-false k 4 p)))
    (decide (eqb k 4)))
    (decide (eqb k 2))

module _ (code : List ℕ) (at : ℕ) (u : Progress) (s : Shape) (es : s ≡ shape_in Code (get_or code at 0)) where
  tests_are : tests code at u s ≡ faulty_at code at u
  unfolding faulty_at faulty tests
  tests_are = ap (tests code at u) es

  grouped : tests code at u s ≡ (eqb s.stage 0 ||
      (ltb (length code - (at + 1)) s.length ||
      (not (follows u.stage s.stage) || (exceeds_with s.stage u || invalid (get_or code at 0) (drop (at + 1) code)))))
  unfolding tests exceeds_with
  grouped =
      rw (
        length-drop (at + 1) code,
        or_group (ltb 32 (counted s.stage (count_of u)).variables)
            (ltb 8 (counted s.stage (count_of u)).sub_scopes) (invalid (get_or code at 0) (drop (at + 1) code)),
      )

  pub fault_kind : s.stage ≡ 0 → true ≡ faulty_at code at u
  fault_kind h = sym (grouped ∙ rw (eq-eqb s.stage 0 h)) ∙ tests_are

  module _ (known : s.stage ≡ 0 → ⊥) where
    pub fault_length : length code - (at + 1) < s.length → true ≡ faulty_at code at u
    fault_length h = sym (grouped ∙ rw (ne_eqb s.stage 0 known, lt-ltb (length code - (at + 1)) s.length h)) ∙ tests_are

    module _ (fits : s.length ≤ length code - (at + 1)) (f : Bool) (ef : f ≡ follows u.stage s.stage) where
      pub fault_order : f ≡ false → true ≡ faulty_at code at u
      fault_order h =
          sym (grouped ∙ rw (ne_eqb s.stage 0 known, le-ltb (length code - (at + 1)) s.length fits, ← ef, h)) ∙ tests_are

      module _ (ok : f ≡ true) (c : Bool) (ec : c ≡ exceeds_with s.stage u) where
        rest_is : (c || invalid (get_or code at 0) (drop (at + 1) code)) ≡ faulty_at code at u
        rest_is =
            sym (grouped ∙ rw (ne_eqb s.stage 0 known, le-ltb (length code - (at + 1)) s.length fits, ← ef, ok, ← ec)) ∙ tests_are

        pub fault_limit : c ≡ true → true ≡ faulty_at code at u
        fault_limit h = rw h at rest_is

        stage_at : s.stage ≡ (shape_in Code (get_or code at 0)).stage
        stage_at = ap (λ (x : Shape). x.stage) es

        pub fault_byte : c ≡ false → (kind : ℕ) → kind ≡ get_or code at 0 → (body : List ℕ) → body ≡ body_at code at s.length → (m : Bool)
            → m ≡ invalid kind body
            → m ≡ faulty_at code at u
        unfolding body_at
        fault_byte h kind ek body eb m em =
            em
            ∙ ap (invalid kind) eb
            ∙ ap (λ (k : ℕ). invalid k (take s.length (drop (at + 1) code))) ek
            ∙ ap (λ (x : Shape). invalid (get_or code at 0) (take x.length (drop (at + 1) code))) es
            ∙ same_byte (get_or code at 0) (drop (at + 1) code) (λ z. known (stage_at ∙ z))
            ∙ rw h at rest_is

        -- a kind that is not of stage 2 has no such byte where it is no instruction, or one before any block
        pub fault_none : c ≡ false → (s.stage ≡ 2 → ⊥) → ((shape_in Code (get_or code at 0)).stage ≡ 4 → u.stage ≡ 0) → false ≡ faulty_at code at u
        unfolding shape_in shapes_of kinds
        fault_none h two none =
            sym (no_byte (get_or code at 0) (drop (at + 1) code) (λ z. known (stage_at ∙ z))
            (λ z. two (stage_at ∙ ap (λ (x : ℕ). (shape_in Code x).stage) z))
            (λ z.
            let four : (shape_in Code (get_or code at 0)).stage ≡ 4 = ap (λ (x : ℕ). (shape_in Code x).stage) z in
            let e = stage_at in
            let n = none four in
            let o = (in_order_lem u.stage s.stage (sym ef ∙ ok) (omega arith)).0 in
            omega arith)) ∙ rw h at rest_is

-- an instruction of a block that is whole, with a byte that it may have, has no fault
pub fault_free : (code : List ℕ) (at : ℕ) (u : Progress) → Limited u → 1 ≤ u.stage → (shape_in Code (get_or code at 0)).stage ≡ 4
    → (shape_in Code (get_or code at 0)).length ≤ length (drop (at + 1) code) → invalid (get_or code at 0) (drop (at + 1) code) ≡ false → faulty_at code at u ≡ false
unfolding faulty_at faulty counted follows
fault_free code at u l opened four whole valid =
    rw (
      four,
      le-ltb (length (drop (at + 1) code)) (shape_in Code (get_or code at 0)).length whole,
      le-leb 1 u.stage opened,
      le-leb u.stage 4 l.stage,
      le-ltb 32 u.variables l.variables,
      le-ltb 8 u.subs l.subs,
      valid,
    )
