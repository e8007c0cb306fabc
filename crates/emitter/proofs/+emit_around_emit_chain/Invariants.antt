-- `emitter::emit_around` and `emit_chain` meet their contracts. The numbers of clauses rise along the calls.
use Prim.Native.Nat.{◌+◌, ◌-◌, ◌*◌}
use Rattle.emitter.proofs.+emit_around_emit_chain.Given as goal

abbrev pub decreases-emit_around : goal.decreases-emit_around
decreases-emit_around l = 2 * (256 - l.first) + 1

abbrev pub decreases-emit_chain : goal.decreases-emit_chain
decreases-emit_chain l = 2 * (256 - l.c)
