-- `blocks::enter`, `run_block`, `run_frame` and `enter_sub` meet their contracts. A block enters only blocks of lower numbers.
use Prim.Native.Nat.{◌+◌, ◌-◌, ◌*◌}
use mathlib.Core.Path.{◌≡◌}
use lib.ListN.{length}
use Rattle.instructions.specs.Views.{givens_at}
use Rattle.blocks.specs.Entries.{run_at, variables_at, Known}
use Rattle.blocks.specs.Running.{Running}
use Rattle.blocks.proofs.+enter_enter_sub_run_block_run_frame.Given as goal

abbrev pub decreases-enter : goal.decreases-enter
decreases-enter l = 4 * l.p + 3

abbrev pub decreases-enter_sub : goal.decreases-enter_sub
decreases-enter_sub l = 4 * l.p

abbrev pub decreases-run_block : goal.decreases-run_block
decreases-run_block l = 4 * l.p + 2

abbrev pub decreases-run_frame : goal.decreases-run_frame
decreases-run_frame l = 4 * l.p + 1

abbrev pub invariant-run_frame-loop-s : goal.invariant-run_frame-loop-s
invariant-run_frame-loop-s l =
    Running l.code l.directory l.p l.initial.st l.initial.tr (run_at l.code l.p (givens_at l.initial.own 0 (variables_at l.code l.p))) l.body l.st l.tr l.own l.frame l.s × Known l.code l.memo × (length l.frame ≡ length l.initial.frame)

abbrev pub decreases-run_frame-loop-s : goal.decreases-run_frame-loop-s
decreases-run_frame-loop-s l = length l.body - l.s.at
