-- `emitter::put_outcome` meets its contract.
use native.Mathlib.Omega.{arith}
use Rattle.emitter.proofs.Terms.{told, size_truth, size_error, outcome_ruled, outcome_unruled, emits_error}
use mathlib.Core.Path.{refl}
use Rattle.emitter.proofs.put_outcome.Goals as goal

pub put_truth-requires : goal.put_truth-requires
put_truth-requires c =
    omega (arith, size_truth (outcome_ruled c.args.ruled c.if-ruled.true), c.requires)

pub put_one-requires : goal.put_one-requires
put_one-requires c =
    omega (arith, size_error (outcome_unruled c.args.ruled c.if-ruled.false), c.requires)

pub returns-then-ruled : goal.returns-then-ruled
returns-then-ruled c =
    told (outcome_ruled _ c.if-ruled.true) c.put_truth.ensures

pub returns-else-ruled : goal.returns-else-ruled
returns-else-ruled c =
    emits_error (outcome_unruled _ c.if-ruled.false) refl c.put_one.ensures
