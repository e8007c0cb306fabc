-- `instructions::raise` meets its contract.
use Rattle.instructions.proofs.Tries.{Passed}
use Rattle.instructions.proofs.raise.Given as goal

abbrev pub invariant-loop-i : goal.invariant-loop-i
invariant-loop-i l = Passed l.left l.tr l.t l.i
