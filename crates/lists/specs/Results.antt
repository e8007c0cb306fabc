-- Results: "the same records, all variables of the scope in number order".
use Rattle.std.specs.Prelude.{ℕ, suc, ◌+◌, Bool, true, false, List, [], ◌∷◌, ◌++◌}
use Rattle.calculus.specs.declared.Value.{Value}
use Rattle.calculus.specs.declared.Value.TheVariants.{Truth, Number}
use Rattle.slices.specs.Bytes.{number_bytes}
use Rattle.book.specs.declared.ValueType.{ValueType}
use Rattle.book.specs.declared.ValueType.TheVariants.{YesNo, Numeric}
use Rattle.book.specs.declared.Variable.{Variable}

-- "3 bytes a yes/no, 6 a number"
abbrev pub result_size : ValueType → ℕ
result_size YesNo = 3
result_size Numeric = 6

-- "The result's length is known before the run"
unfoldable pub result_length : List Variable → ℕ
result_length [] = 0
result_length (v ∷ vs) = result_size v.holds + result_length vs

abbrev pub bit : Bool → ℕ
bit false = 0
bit true = 1

-- the record of variable n
abbrev pub result_record : ℕ → Value → List ℕ
result_record n (Truth b) = 1 ∷ n ∷ bit b ∷ []
result_record n (Number z) = 2 ∷ n ∷ number_bytes z

unfoldable pub results_from : ℕ → List Value → List ℕ
results_from n [] = []
results_from n (v ∷ vs) = result_record n v ++ results_from (suc n) vs

unfoldable pub results : List Value → List ℕ
results vs = results_from 0 vs
