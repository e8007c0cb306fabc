-- `emitter::emit_below`, `emit_branches`, `emit_default` and `emit_exception` meet their contracts.
use Prim.Native.Nat.{◌+◌, ◌*◌}
use Rattle.emitter.proofs.+emit_below_emit_branches_emit_default_emit_exception.Given as goal

abbrev pub decreases-emit_below : goal.decreases-emit_below
decreases-emit_below l = 3 * l.limit

abbrev pub decreases-emit_branches : goal.decreases-emit_branches
decreases-emit_branches l = 3 * l.limit + 1

abbrev pub decreases-emit_default : goal.decreases-emit_default
decreases-emit_default l = 3 * l.limit + 2

abbrev pub decreases-emit_exception : goal.decreases-emit_exception
decreases-emit_exception l = 3 * l.limit + 1
