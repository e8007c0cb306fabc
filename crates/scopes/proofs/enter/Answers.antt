-- `scopes::enter` meets its contract.
use native.Mathlib.Omega.{arith}
use Rattle.scopes.proofs.Entering.{runs_steps, called_few}
use Rattle.scopes.proofs.enter.Goals as goal

pub run_steps-requires : goal.run_steps-requires
run_steps-requires c = runs_steps c.requires 1 c.requires.room c.requires.kept (omega (arith, c.sub_scope_count.ensures, c.if-sub_scope_count-eq0.true))

pub run_steps-requires-2 : goal.run_steps-requires-2
run_steps-requires-2 c = runs_steps c.requires 256 c.requires.room c.requires.kept (omega (arith, c.sub_scope_count.ensures, called_few c.requires))
