-- Laws of the results' length.
--     size_most, length_most   at most 6 bytes a variable
--     length_sum               by type bytes it is a sum
--     results_length           values of the variables' types have it
-- Assumes nothing.
use Prim.Native.Nat.{ℕ, suc, ◌*◌, ◌≤◌}
use mathlib.Core.Path.{◌≡◌, refl, sym, ◌∙◌}
use mathlib.Core.List.{List, [], ◌∷◌, map}
use native.Mathlib.Omega.{arith}
use lib.ListN.{length, length-append}
use lib.IntN.{ℤ}
use mir.Syntax.{w32}
use mir.Val.{of_z}
use Rattle.std.specs.List.{sum}
use Rattle.std.proofs.lemmas.List.Recursion.{is_sum_by}
use Rattle.std.proofs.lemmas.List.Sums.{sum-map}
use Rattle.calculus.specs.declared.Value.{Value}
use Rattle.calculus.specs.declared.Value.TheVariants.{Truth, Number}
use Rattle.slices.specs.Bytes.{number_bytes}
use Rattle.integers.proofs.Endian.{length_bytes}
use Rattle.book.specs.Syntax.{type_of}
use Rattle.book.specs.declared.ValueType.{ValueType}
use Rattle.book.specs.declared.ValueType.TheVariants.{YesNo, Numeric}
use Rattle.book.specs.declared.Variable.{Variable}
use Rattle.lists.specs.Results.{result_size, result_length, result_record, results_from, results}
use Rattle.lists.specs.Reading.{typed}
use Rattle.lists.specs.Writing.{value_type}

pub size_most : (t : ValueType) → result_size t ≤ 6
size_most YesNo = omega arith
size_most Numeric = omega arith

pub length_most : (vs : List Variable) → result_length vs ≤ 6 * length vs
unfolding result_length
length_most [] = omega arith
length_most (v ∷ vs) = let a = size_most v.holds in let b = length_most vs in omega arith

pub length_sum : (types : List ℕ) → result_length (typed types) ≡ sum (map (λ b. result_size (type_of b)) types)
unfolding result_length typed
length_sum types =
    is_sum_by (λ (bs : List ℕ). result_length (typed bs)) (λ b. result_size (type_of b)) refl (λ b bs. refl) types
    ∙ sym (sum-map (λ b. result_size (type_of b)) types)

pub number_length : (z : ℤ) → length (number_bytes z) ≡ 4
unfolding number_bytes
number_length z = length_bytes 4 (of_z w32 z)

pub record_length : (n : ℕ) (v : Value) → length (result_record n v) ≡ result_size (value_type v)
record_length n (Truth b) = refl
record_length n (Number z) = let l = number_length z in omega arith

lengths : (n : ℕ) (vs : List Variable) (xs : List Value) → map value_type xs ≡ map (λ v. v.holds) vs → length (results_from n xs) ≡ result_length vs
unfolding result_length results_from
lengths n [] [] e = refl
lengths n [] (x ∷ xs) e = cc
lengths n (v ∷ vs) [] e = cc
lengths n (v ∷ vs) (x ∷ xs) e =
    let t : value_type x ≡ v.holds = cc in
    let ts : map value_type xs ≡ map (λ v. v.holds) vs = cc in
    length-append (result_record n x) (results_from (suc n) xs)
    ∙ rw (record_length n x, lengths (suc n) vs xs ts, t)

pub results_length : (variables : List Variable) (vs : List Value) → map value_type vs ≡ map (λ v. v.holds) variables
    → length (results vs) ≡ result_length variables
unfolding results
results_length variables vs e = lengths 0 variables vs e
