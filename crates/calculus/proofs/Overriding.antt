-- A variable's step is the default of figure 7 whose one exception is what the caller provides.
--     step_default    by evaluation
--     step_reduces    by the reduction rules
-- Assumes nothing.
use mathlib.Core.Path.{◌≡◌, refl, sym, subst}
use Rattle.std.specs.Prelude.{Result, Option, None, Some}
use Rattle.calculus.specs.Terms.{Term}
use Rattle.calculus.specs.Evaluation.{Env, eval, exceptions, step}
use Rattle.calculus.specs.Reduction.{result, ReducesTo}
use Rattle.calculus.specs.Overriding.{overridable}
use Rattle.calculus.proofs.Reduction.{reduces_to_eval}
use Rattle.answers.specs.declared.Cause.{Cause}
use Rattle.calculus.specs.declared.Value.{Value}

pub step_default : (g : Option Value) (e : Env) (t : Term) → step g e t ≡ eval e (overridable g t)
unfolding eval exceptions
step_default None e t = refl
step_default (Some v) e t = refl

pub step_reduces : (g : Option Value) (e : Env) (t : Term) → ReducesTo e (overridable g t) (result (step g e t))
step_reduces g e t =
    subst (λ (o : Result Value Cause). ReducesTo e (overridable g t) (result o)) (sym (step_default g e t)) (reduces_to_eval e (overridable g t))
