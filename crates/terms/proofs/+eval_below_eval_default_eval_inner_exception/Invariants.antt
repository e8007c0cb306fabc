-- `terms::eval_below`, `eval_inner`, `eval_default` and `exception` meet their contracts.
use Prim.Native.Nat.{◌+◌, ◌*◌}
use mathlib.Core.Bool.{cond}
use lib.Dec.{eqb}
use Rattle.terms.proofs.+eval_below_eval_default_eval_inner_exception.Given as goal

abbrev pub decreases-eval_below : goal.decreases-eval_below
decreases-eval_below l = 4 * l.n + 3

abbrev pub decreases-eval_default : goal.decreases-eval_default
decreases-eval_default l = 4 * l.n + 1

abbrev pub decreases-eval_inner : goal.decreases-eval_inner
decreases-eval_inner l = 4 * l.n + 2

abbrev pub decreases-exception : goal.decreases-exception
decreases-exception l = cond (eqb l.x 255) 0 (4 * l.x + 4)
