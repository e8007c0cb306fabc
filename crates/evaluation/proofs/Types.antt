-- The types of what is given, and of what a run ends in.
--     inputs_fitting      what a good input list gives fits the scope's variables
--     results_size        the results of one value for each variable, of its type, have the length known before the run
--     values_typed        of an accepted book: a run that ends in values ends in one for each variable, of its type
--     values_length       and so its results have the length known before the run
-- Assumes nothing.
use Prim.Native.Nat.{ℕ, suc, ◌<◌}
use mathlib.Core.Path.{◌≡◌, refl, sym, subst}
use mathlib.Core.List.{List, [], ◌∷◌, map}
use native.Mathlib.Omega.{arith}
use lib.ListN.{length, get_or}
use Rattle.std.specs.Prelude.{Option, None, Some, Ok}
use Rattle.calculus.specs.declared.Value.{Value}
use Rattle.book.specs.Decode.{scopes_of}
use Rattle.book.specs.References.{scope_at}
use Rattle.book.specs.Judge.{judge}
use Rattle.book.specs.declared.ValueType.{ValueType}
use Rattle.book.specs.declared.ValueType.TheVariants.{YesNo}
use Rattle.book.specs.declared.Variable.{Variable}
use Rattle.lists.specs.Inputs.{good, inputs}
use Rattle.lists.specs.Results.{result_length, results}
use Rattle.lists.specs.Writing.{value_type}
use Rattle.lists.proofs.Givens.{good_number, good_typed}
use Rattle.lists.proofs.Lengths.{results_length}
use Rattle.evaluation.specs.Run.{values, run_scope}
use Rattle.evaluation.specs.Types.{MayHold, Fitting, ValuesFit, EnteredFits}
use Rattle.evaluation.proofs.Readiness.{accepted_fit}

may_hold : (t : ValueType) (g : Option Value) → ((y : Value) → g ≡ Some y → value_type y ≡ t) → MayHold t g
may_hold t None h = tt
may_hold t (Some y) h = h y refl

each_fits : (xs : List Variable) (gs : List (Option Value)) → length gs ≡ length xs
    → ((v : ℕ) (y : Value) → get_or gs v None ≡ Some y → value_type y ≡ (get_or xs v (record { holds = YesNo })).holds) → Fitting xs gs
each_fits [] [] e h = tt
each_fits [] (g ∷ gs) e h = absurd (omega arith)
each_fits (x ∷ xs) [] e h = absurd (omega arith)
each_fits (x ∷ xs) (g ∷ gs) e h = (may_hold x.holds g (h 0), each_fits xs gs (omega arith) (λ v. h (suc v)))

pub inputs_fitting : (variables : List Variable) (bytes : List ℕ) (given : List (Option Value)) → inputs variables bytes ≡ good given
    → Fitting variables given
inputs_fitting variables bytes given e =
    each_fits variables given (good_number variables bytes given e) (good_typed variables bytes given e)

value_types : (xs : List Variable) (vs : List Value) → ValuesFit xs vs → map value_type vs ≡ map (λ v. v.holds) xs
value_types [] [] h = refl
value_types [] (v ∷ vs) h = absurd h
value_types (x ∷ xs) [] h = absurd h
value_types (x ∷ xs) (v ∷ vs) h = rw (h.0, value_types xs vs h.1)

pub results_size : (variables : List Variable) (vs : List Value) → ValuesFit variables vs → result_length variables ≡ length (results vs)
results_size variables vs h = sym (results_length variables vs (value_types variables vs h))

module _ (bytes : List ℕ) (n : ℕ) (accepted : judge bytes ≡ Ok n) (i : ℕ) (l : i < n) (given : List (Option Value))
    (fitting : Fitting (scope_at (scopes_of bytes) i).variables given) (vs : List Value) (c : ℕ)
    (run : run_scope (scopes_of bytes) i given ≡ values vs c) where
  pub values_typed : ValuesFit (scope_at (scopes_of bytes) i).variables vs
  values_typed = subst (EnteredFits (scope_at (scopes_of bytes) i).variables) run (accepted_fit bytes n accepted i l given fitting)

  pub values_length : result_length (scope_at (scopes_of bytes) i).variables ≡ length (results vs)
  values_length = results_size (scope_at (scopes_of bytes) i).variables vs values_typed
