-- The values of cells.
--     held_fits                     a cell holds a number of 32 bits
--     decoded_values                cells that hold what a list says have its values
--     typed_values, typed_length    cells of the variables' types have values of their types, and results of their length
-- Assumes nothing.
use Prim.Native.Nat.{ℕ, suc, ◌+◌, ◌<◌}
use mathlib.Core.Bool.{true, false≢true}
use mir.Syntax.{w32}
use mir.Val.{SFits}
use Rattle.std.specs.Prelude.{Option, None, Some}
use Rattle.calculus.specs.Values.{number_of}
use Rattle.cells.specs.Cells.{given_at, held}
use Rattle.cells.proofs.Variables.{held_is, value_fits}
use mathlib.Core.Path.{◌≡◌, refl, sym, ap, ◌∙◌}
use mathlib.Core.List.{List, [], ◌∷◌, map}
use native.Mathlib.Omega.{arith}
use lib.ListN.{length, get_or}
use Rattle.calculus.specs.declared.Value.TheVariants.{Truth, Number}
use Rattle.book.specs.declared.ValueType.{ValueType}
use Rattle.book.specs.declared.ValueType.TheVariants.{YesNo, Numeric}
use Rattle.book.specs.declared.Variable.{Variable}
use Rattle.lists.specs.Results.{result_length, results}
use Rattle.lists.specs.Writing.{values_from, values_of, value_type, is_of, Typed}
use Rattle.lists.proofs.Lengths.{results_length}
use Rattle.calculus.specs.declared.Value.{Value}

pub held_fits : (cells : List ℕ) (v : ℕ) → SFits w32 (number_of (held (given_at cells v)))
unfolding given_at
held_fits cells v = rw (held_is (get_or cells v 0)) (value_fits (get_or cells v 0))

values_decoded : (cells : List ℕ) (k : ℕ) (gs : List (Option Value)) → ((v : ℕ) → given_at cells (k + v) ≡ get_or gs v None) → map held gs ≡ values_from cells k (length gs)
unfolding values_from
values_decoded cells k [] d = refl
values_decoded cells k (g ∷ gs) d =
    let z : k + 0 ≡ k = omega arith in
    let here : given_at cells k ≡ g = ap (given_at cells) (sym z) ∙ d 0 in
    let more : (v : ℕ) → given_at cells (suc k + v) ≡ get_or gs v None = λ v. let e : suc k + v ≡ k + suc v = omega arith in ap (given_at cells) e ∙ d (suc v) in
    rw (here, values_decoded cells (suc k) gs more)

pub decoded_values : (cells : List ℕ) (gs : List (Option Value)) → ((v : ℕ) → given_at cells v ≡ get_or gs v None) → map held gs ≡ values_of cells (length gs)
unfolding values_of
decoded_values cells gs d = values_decoded cells 0 gs (λ v. let e : 0 + v ≡ v = omega arith in ap (given_at cells) e ∙ d v)

type_held : (t : ValueType) (g : Option Value) → is_of t g ≡ true → value_type (held g) ≡ t
type_held t None e = absurd (false≢true e)
type_held YesNo (Some (Truth b)) e = refl
type_held YesNo (Some (Number z)) e = absurd (false≢true e)
type_held Numeric (Some (Truth b)) e = absurd (false≢true e)
type_held Numeric (Some (Number z)) e = refl

values_typed : (cells : List ℕ) (k : ℕ) (variables : List Variable)
    → ((v : ℕ) → v < length variables → is_of (get_or variables v (record { holds = YesNo })).holds (given_at cells (k + v)) ≡ true)
    → map value_type (values_from cells k (length variables)) ≡ map (λ v. v.holds) variables
unfolding values_from
values_typed cells k [] d = refl
values_typed cells k (x ∷ xs) d =
    let z : k + 0 ≡ k = omega arith in
    let here : is_of x.holds (given_at cells k) ≡ true = ap (λ (n : ℕ). is_of x.holds (given_at cells n)) (sym z) ∙ d 0 (omega arith) in
    let more : (v : ℕ) → v < length xs → is_of (get_or xs v (record { holds = YesNo })).holds (given_at cells (suc k + v)) ≡ true =
    λ v h. let e : suc k + v ≡ k + suc v = omega arith in ap (λ (n : ℕ). is_of (get_or xs v (record { holds = YesNo })).holds (given_at cells n)) e ∙ d (suc v) (omega arith) in
    rw (type_held x.holds (given_at cells k) here, values_typed cells (suc k) xs more)

module _ (variables : List Variable) (cells : List ℕ) (typed : Typed variables cells) where
  pub typed_values : map value_type (values_of cells (length variables)) ≡ map (λ v. v.holds) variables
  unfolding values_of
  typed_values =
      values_typed cells 0 variables
      (λ v h. let e : 0 + v ≡ v = omega arith in ap (λ (n : ℕ). is_of (get_or variables v (record { holds = YesNo })).holds (given_at cells n)) e ∙ typed.typed v h)

  pub typed_length : length (results (values_of cells (length variables))) ≡ result_length variables
  typed_length = results_length variables (values_of cells (length variables)) typed_values
