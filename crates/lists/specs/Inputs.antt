-- Input lists: which variables of a scope are given, and with what.
use Rattle.std.specs.Prelude.{ℕ, zero, suc, Bool, true, false, not, cond, ◌&&◌, ◌||◌, List, [], ◌∷◌, map, length, get_or, set, eqb, ltb, Option, None, Some}
use Rattle.calculus.specs.declared.Value.{Value}
use Rattle.calculus.specs.declared.Value.TheVariants.{Truth, Number}
use Rattle.slices.specs.Bytes.{number_at}
use Rattle.book.specs.Syntax.{same_type}
use Rattle.book.specs.declared.ValueType.{ValueType}
use Rattle.book.specs.declared.ValueType.TheVariants.{YesNo, Numeric}
use Rattle.book.specs.declared.Variable.{Variable}

-- what a list comes to: for each variable whether it is given; or the list is bad
pub data Inputs : Type 0 where
  bad : Inputs
  good : List (Option Value) → Inputs

-- "kind 1 (variable, 0 or 1) and kind 2 (variable, 4 bytes as above)"; 0: no such kind
abbrev pub input_length : ℕ → ℕ
input_length k = cond (eqb k 1) 2 (cond (eqb k 2) 5 0)

-- the type and the value of an input record, its body given
abbrev pub input_type : ℕ → ValueType
input_type k = cond (eqb k 1) YesNo Numeric

abbrev pub input_value : ℕ → List ℕ → Value
input_value k body = cond (eqb k 1) (Truth (eqb (get_or body 1 0) 1)) (Number (number_at body 1))

abbrev pub is_given : Option Value → Bool
is_given None = false
is_given (Some v) = true

-- variable v cannot be given a value of this type: "unknown, of wrong type or repeated"
unfoldable pub cannot_give : List Variable → List (Option Value) → ValueType → ℕ → Bool
cannot_give variables given t v =
    not (ltb v (length variables))
    || (not (same_type t (get_or variables v (record { holds = YesNo })).holds)
    || is_given (get_or given v None))

-- "input record cut, strange, misprinted, unknown, of wrong type or repeated": rest are the bytes after the kind
unfoldable pub bad_record : List Variable → List (Option Value) → ℕ → List ℕ → Bool
bad_record variables given k rest =
    eqb (input_length k) 0
    || (ltb (length rest) (input_length k)
    || ((eqb k 1 && ltb 1 (get_or rest 1 0))
    || cannot_give variables given (input_type k) (get_or rest 0 0)))

-- the list from here on, n bytes of a body left to pass
unfoldable pub inputs_from : List Variable → List ℕ → ℕ → List (Option Value) → Inputs
inputs_from variables [] n given = good given
inputs_from variables (k ∷ rest) zero given =
    let more = inputs_from variables rest (input_length k) (set given (get_or rest 0 0) (Some (input_value k rest))) in
    cond (bad_record variables given k rest) bad more
inputs_from variables (b ∷ rest) (suc n) given = inputs_from variables rest n given

-- nothing is given at first
unfoldable pub inputs : List Variable → List ℕ → Inputs
inputs variables bytes = inputs_from variables bytes 0 (map (λ v. None) variables)
