-- The ways of a record that is no instruction, as the code takes them.
--     makes_kind, next-within                               its kind and shape; its end
--     makes_beginning, makes-variable-room, makes-sub-room  what the functions of the kinds 1 to 3 ask
--     variable_stepped, is-sub, sub-stepped                 what they give
-- Assumes nothing.
use Prim.Native.Nat.{ℕ, ◌+◌, ◌<◌, ◌≤◌}
use mathlib.Core.Path.{◌≡◌, refl, sym, ap, ◌∙◌}
use mathlib.Core.Bool.{Bool, true, false}
use mathlib.Core.List.{List}
use mathlib.Core.Logic.{⊎_elim}
use native.Mathlib.Omega.{arith}
use lib.ListN.{length, get_or, drop}
use lib.Seq.{get_or-drop}
use lib.Dec.{eqb}
use borrow.Author.Tests.{eqb-true, eqb-false}
use Rattle.std.specs.Prelude.{Some}
use Rattle.laws.proofs.Booleans.{decide}
use Rattle.machine.specs.Blocks.{stage_of}
use Rattle.record.specs.Kinds.{shape_in}
use Rattle.record.specs.declared.Shape.{Shape}
use Rattle.record.specs.declared.Medium.TheVariants.{Code}
use Rattle.directory.specs.Layout.{place_in}
use Rattle.verifier.specs.Pass.{faulty_at, AtKind, VariableRoom, VariableNoted, Reading, AtHeading, Beginning, SubRoom, SubRead, Step, Stepped}
use Rattle.verifier.specs.declared.Progress.{Progress}
use Rattle.book.proofs.Shapes.{in_order_lem}
use Rattle.verifier.proofs.Reading.{stage_below}
use Rattle.verifier.proofs.Turns.{next_at, is_clean, next_inside}
use Rattle.verifier.proofs.Heads.{variable_room, variable_turn, sub_room, sub_refused, sub_turn}

module _ (code : List ℕ) (at : ℕ) (u : Progress) (directory ring : List ℕ)
    (r : Reading code at u directory ring) (here : at < length code)
    (x : Bool) (ex : x ≡ faulty_at code at u) (fine : x ≡ false) (s : Shape) (es : s ≡ shape_in Code (get_or code at 0)) where
  ok : faulty_at code at u ≡ false
  ok = sym ex ∙ fine

  next_is_lem : at + 1 + s.length ≡ next_at code at
  next_is_lem = ap (λ (y : Shape). at + 1 + y.length) es

  stage_is : s.stage ≡ stage_of (get_or code at 0)
  stage_is = ap (λ (y : Shape). y.stage) es

  pub next_within : at + 1 + s.length ≤ length code
  next_within = rw next_is_lem (next_inside code at u directory ring r here ok)

  module _ (b : ℕ) (eb : b ≡ get_or code (at + 1) 0) where
    first_is : b ≡ get_or (drop (at + 1) code) 0 0
    first_is = let z : at + 1 + 0 ≡ at + 1 = omega arith in eb ∙ sym (get_or-drop (at + 1) code 0 0 ∙ ap (λ (i : ℕ). get_or code i 0) z)

    pub makes_beginning : s.stage ≡ 1 → Beginning code at (at + 1 + s.length) b u directory ring
    makes_beginning e = record { reading = r; here = here; fine = ok; stage = sym stage_is ∙ e; next_is = next_is_lem; scope_is = first_is }

    pub variable_stepped : s.stage ≡ 2 → (directory' : List ℕ) (y : Progress) → VariableNoted b (at + 1 + s.length) u directory directory' y
        → Stepped code at directory' ring (Some (at + 1 + s.length, y))
    variable_stepped e directory' y h =
        rw (h.0, h.1, next_is_lem, first_is) (omega arith, variable_turn code at u directory ring r here ok (sym stage_is ∙ e) (rw first_is at h.2))

    pub makes_sub_room : s.stage ≡ 3 → SubRoom b u directory
    makes_sub_room e = rw first_is (sub_room code at u directory ring r here ok (sym stage_is ∙ e))

    pub sub_stepped : s.stage ≡ 3 → (directory' : List ℕ) (y : Step) → SubRead b (at + 1 + s.length) u directory directory' y
        → Stepped code at directory' ring y
    sub_stepped e directory' y h =
        ⊎_elim
        (λ (q : eqb (place_in directory b) 0 ≡ true).
        let z = eqb-true (place_in directory b) 0 q in
        rw (h.missing z) (sub_refused code at u directory ring r here ok (sym stage_is ∙ e) (rw first_is at z)))
        (λ (q : eqb (place_in directory b) 0 ≡ false).
        let z = eqb-false (place_in directory b) 0 q in
        let t = h.read z in
        rw (t.0, t.1, next_is_lem, first_is)
        (omega arith, sub_turn code at u directory ring r here ok (sym stage_is ∙ e) (rw first_is at z)))
        (decide (eqb (place_in directory b) 0))

  pub makes_variable_room : s.stage ≡ 2 → VariableRoom u directory
  makes_variable_room e = variable_room code at u directory ring r here ok (sym stage_is ∙ e)

  -- a sub-scope is what is left
  pub is_sub : (stage_of (get_or code at 0) ≡ 4 → u.stage ≡ 0) → (s.stage ≡ 1 → ⊥) → (s.stage ≡ 2 → ⊥) → s.stage ≡ 3
  is_sub none one two =
      let c = is_clean code at u directory ring r here ok in
      left s.stage (λ z. c.known (sym stage_is ∙ z)) one two
      (λ z.
      let four : stage_of (get_or code at 0) ≡ 4 = sym stage_is ∙ z in
      let o = (in_order_lem u.stage (stage_of (get_or code at 0)) c.ordered (rw four (omega arith))).0 in
      let n = none four in
      omega arith)
      (rw stage_is (stage_below (get_or code at 0)))
    where
      left : (n : ℕ) → (n ≡ 0 → ⊥) → (n ≡ 1 → ⊥) → (n ≡ 2 → ⊥) → (n ≡ 4 → ⊥) → n ≤ 4 → n ≡ 3
      left n a b c d h = omega arith

pub makes_kind : (code : List ℕ) (at : ℕ) (u : Progress) (directory ring : List ℕ) → AtHeading code at u directory ring → (s : Shape)
    → s ≡ shape_in Code (get_or code at 0) → AtKind code at (get_or code at 0) s u
makes_kind code at u directory ring h s es =
    record { here = h.here; limited = h.reading.limited; kind_is = refl; shape_is = es; no_instruction = h.no_instruction }
