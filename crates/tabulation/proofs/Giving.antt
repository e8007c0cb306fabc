-- What the input records of an assignment give, behind a fixed input list.
--     unfit_record       a variable is unfit exactly where its input record would be bad
--     fit_after          giving one variable makes no other unfit
--     assigned_inputs    a good list with the records of an assignment is good, and gives what `giving` says
--     giving_length      one for each variable, as before
-- Assumes nothing.
use Prim.Native.Nat.{ℕ, suc}
use mathlib.Core.Path.{◌≡◌, refl, sym, ◌∙◌}
use mathlib.Core.Bool.{Bool, true, false}
use mathlib.Core.List.{List, [], ◌∷◌, ◌++◌}
use native.Mathlib.Omega.{arith}
use lib.ListN.{length, get_or, set, length-set}
use lib.Seq.{get_or-set_other}
use lib.Dec.{eqb}
use borrow.Author.Tests.{le-ltb, eqb-false}
use Rattle.std.specs.Prelude.{Option, None, Some}
use Rattle.laws.proofs.Booleans.{neither}
use Rattle.calculus.specs.declared.Value.TheVariants.{Truth}
use Rattle.book.specs.Lists.{any}
use Rattle.book.specs.declared.Variable.{Variable}
use Rattle.lists.specs.Inputs.{good, cannot_give, bad_record, inputs_from, inputs}
use Rattle.lists.specs.Results.{bit}
use Rattle.lists.proofs.Givens.{good_more}
use Rattle.order.specs.Order.{among}
use Rattle.book.specs.Sharing.{repeats}
use Rattle.tabulation.specs.Chosen.{unfit}
use Rattle.tabulation.specs.Assignments.{assigned}
use Rattle.tabulation.specs.Giving.{giving}
use Rattle.calculus.specs.declared.Value.{Value}

pub unfit_record : (variables : List Variable) (gs : List (Option Value)) (v : ℕ) (b : Bool) (rest : List ℕ)
    → unfit variables gs v ≡ bad_record variables gs 1 (v ∷ bit b ∷ rest)
unfolding bad_record
unfit_record variables gs v false rest = rw (le-ltb (suc (suc (length rest))) 2 (omega arith))
unfit_record variables gs v true rest = rw (le-ltb (suc (suc (length rest))) 2 (omega arith))

pub fit_after : (variables : List Variable) (gs : List (Option Value)) (v : ℕ) (g : Option Value) (vs : List ℕ) → among vs v ≡ false
    → any (unfit variables gs) vs ≡ false → any (unfit variables (set gs v g)) vs ≡ false
unfolding any among cannot_give
fit_after variables gs v g [] other ok = refl
fit_after variables gs v g (w ∷ vs) other ok =
    let o = neither (eqb v w) (among vs v) other in
    let k = neither (unfit variables gs w) (any (unfit variables gs) vs) ok in
    let same : get_or (set gs v g) w None ≡ get_or gs w None = get_or-set_other gs v w g None (λ e. eqb-false v w o.0 (sym e)) in
    rw (same, k.0) (fit_after variables gs v g vs o.1 k.1)

assigned_from : (variables : List Variable) (gs : List (Option Value)) (vs : List ℕ) (a : List Bool) → repeats vs ≡ false
    → any (unfit variables gs) vs ≡ false → length a ≡ length vs → inputs_from variables (assigned vs a) 0 gs ≡ good (giving gs vs a)
unfolding repeats any assigned giving inputs_from
assigned_from variables gs [] [] once ok long = refl
assigned_from variables gs [] (b ∷ bs) once ok long = absurd (omega arith)
assigned_from variables gs (v ∷ vs) [] once ok long = absurd (omega arith)
assigned_from variables gs (v ∷ vs) (b ∷ bs) once ok long =
    let o = neither (among vs v) (repeats vs) once in
    let k = neither (unfit variables gs v) (any (unfit variables gs) vs) ok in
    let g = Some (Truth b) in
    let fine : bad_record variables gs 1 (v ∷ bit b ∷ assigned vs bs) ≡ false = sym (unfit_record variables gs v b (assigned vs bs)) ∙ k.0 in
    rw (fine, bit_back b) (assigned_from variables (set gs v g) vs bs o.1 (fit_after variables gs v g vs o.0 k.1) (omega arith))
  where
    bit_back : (b : Bool) → eqb (bit b) 1 ≡ b
    bit_back false = refl
    bit_back true = refl

pub assigned_inputs : (variables : List Variable) (fixed : List ℕ) (gs : List (Option Value)) (vs : List ℕ) (a : List Bool) → inputs variables fixed ≡ good gs
    → repeats vs ≡ false → any (unfit variables gs) vs ≡ false → length a ≡ length vs → inputs variables (fixed ++ assigned vs a) ≡ good (giving gs vs a)
assigned_inputs variables fixed gs vs a e once ok long =
    good_more variables fixed (assigned vs a) gs e ∙ assigned_from variables gs vs a once ok long

pub giving_length : (gs : List (Option Value)) (vs : List ℕ) (a : List Bool) → length (giving gs vs a) ≡ length gs
unfolding giving
giving_length gs [] bs = refl
giving_length gs (v ∷ vs) [] = refl
giving_length gs (v ∷ vs) (b ∷ bs) = giving_length (set gs v (Some (Truth b))) vs bs ∙ length-set gs v (Some (Truth b))
