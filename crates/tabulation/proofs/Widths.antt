-- How wide a table can be: a chosen variable is a yes/no, which takes half of the bytes that a number takes in the results.
--     results_narrow    the results and 3 bytes for each chosen variable have room in 6 bytes a variable
--     rows_most         so the rows of 12 chosen variables are the longest, 4,096 rows of 157 bytes
-- Assumes nothing.
use Prim.Native.Nat.{ℕ, zero, suc, ◌+◌, ◌-◌, ◌*◌, ◌≤◌}
use mathlib.Core.Path.{◌≡◌, sym, ap, ◌∙◌}
use mathlib.Core.Bool.{true, false, false≢true}
use mathlib.Core.List.{List, [], ◌∷◌}
use mathlib.Core.Logic.{⊎_elim}
use native.Mathlib.Omega.{arith}
use native.Mathlib.Nat.{mul-le-mul_left, mul_left_comm, mul_assoc}
use lib.ListN.{length, get_or}
use Rattle.std.specs.Prelude.{Option}
use Rattle.laws.proofs.Booleans.{decide}
use Rattle.order.specs.Order.{among}
use Rattle.book.specs.Syntax.{same_type}
use Rattle.book.specs.declared.ValueType.{ValueType}
use Rattle.book.specs.declared.ValueType.TheVariants.{YesNo, Numeric}
use Rattle.book.specs.declared.Variable.{Variable}
use Rattle.lists.specs.Results.{result_size, result_length}
use Rattle.lists.proofs.Lengths.{size_most}
use Rattle.tabulation.specs.Chosen.{bad_choice, chosen_from}
use Rattle.tabulation.specs.Assignments.{power}
use Rattle.tabulation.proofs.Chosen.{chosen_fit, chosen_count}
use Rattle.calculus.specs.declared.Value.{Value}

yes_no_size : (t : ValueType) → same_type YesNo t ≡ true → result_size t ≤ 3
yes_no_size YesNo e = omega arith
yes_no_size Numeric e = absurd (false≢true e)

module _ (chosen : List ℕ) where
  -- the variables from v on, those chosen being yes/nos
  narrow_from : (v : ℕ) (xs : List Variable)
      → ((j : ℕ) → among chosen (v + j) ≡ true → same_type YesNo (get_or xs j (record { holds = YesNo })).holds ≡ true)
      → result_length xs + 3 * length (chosen_from chosen v xs) ≤ 6 * length xs
  unfolding result_length chosen_from
  narrow_from v [] typed = omega arith
  narrow_from v (x ∷ xs) typed =
      let next : (j : ℕ) → suc v + j ≡ v + suc j = λ j. omega arith in
      let here : v + 0 ≡ v = omega arith in
      let rest = narrow_from (suc v) xs (λ j q. typed (suc j) (ap (among chosen) (sym (next j)) ∙ q)) in
      ⊎_elim
      (λ (q : among chosen v ≡ true). let s = yes_no_size x.holds (typed 0 (ap (among chosen) here ∙ q)) in rw q (omega (arith, s, rest)))
      (λ (q : among chosen v ≡ false). let s = size_most x.holds in rw q (omega (arith, s, rest)))
      (decide (among chosen v))

pub results_narrow : (variables : List Variable) (fixed : List (Option Value)) (chosen : List ℕ) → bad_choice variables fixed chosen ≡ false
    → result_length variables + 3 * length chosen ≤ 6 * length variables
results_narrow variables fixed chosen ok =
    let all = narrow_from chosen 0 variables (λ j q. let e : 0 + j ≡ j = omega arith in (chosen_fit variables fixed chosen ok j (ap (among chosen) (sym e) ∙ q)).typed) in
    omega (arith, all, chosen_count variables fixed chosen ok)

-- one chosen variable more: twice the rows, and each 3 bytes shorter at most
pub rows_most : (more k width : ℕ) → k + more ≡ 12 → width + 3 * k ≤ 193 → power k * width ≤ 643072
unfolding power
rows_most zero k width all narrow = let last : k ≡ 12 = omega arith in rw last (omega arith)
rows_most (suc more) k width all narrow =
    let next = rows_most more (suc k) (190 - 3 * k) (omega arith) (omega arith) in
    let wide : power k * width ≤ power k * (2 * (190 - 3 * k)) = mul-le-mul_left (power k) (omega arith) in
    omega (arith, next, wide, mul_left_comm (power k) 2 (190 - 3 * k), mul_assoc 2 (power k) (190 - 3 * k))
