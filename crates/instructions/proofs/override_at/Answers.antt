-- `instructions::override_at` meets its contract.
use native.Mathlib.Omega.{arith}
use Rattle.instructions.proofs.override_at.Goals as goal

pub type_at-requires : goal.type_at-requires
type_at-requires c = let small = c.requires.inside.variable in rw (c.block_of-q.ensures, c.first-k.ensures, c.second-x.ensures) (c.requires.callee, omega arith)

pub returns : goal.returns
returns c = rw (← c.first-k.ensures, ← c.second-x.ensures, ← c.block_of-q.ensures, ← c.type_at.ensures) c.hand_over.ensures
