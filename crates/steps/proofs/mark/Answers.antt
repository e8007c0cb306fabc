-- `steps::mark` meets its contract.
use Prim.Native.Nat.{◌+◌}
use native.Mathlib.Omega.{arith}
use Rattle.steps.proofs.Marking.{no_row, no_column, zeroed, one_kept, one_lower}
use Rattle.steps.proofs.mark.Goals as goal
use Rattle.steps.proofs.mark.Goals.{Start}

pub returns-then-v-ge-WIDTH : goal.returns-then-v-ge-WIDTH
returns-then-v-ge-WIDTH c = no_row _ _ _ c.if-v-ge-WIDTH.true

pub returns-then-w-ge-WIDTH : goal.returns-then-w-ge-WIDTH
returns-then-w-ge-WIDTH c = no_column _ _ _ c.if-w-ge-WIDTH.true

pub bounds-deps-v-2 : goal.bounds-deps-v-2
bounds-deps-v-2 c = let s = (goal.at.bounds-deps-v-2 c).Start in omega (arith, zeroed s.args.deps.now s.args.v s.args.w)

pub overflow_cast-deps : goal.overflow_cast-deps
overflow_cast-deps c = omega (arith, c.type_inv.deps (1600 + c.args.v))

pub bounds-deps-v-then-w-deps : goal.bounds-deps-v-then-w-deps
bounds-deps-v-then-w-deps c = let s = (goal.at.bounds-deps-v-then-w-deps c).Start in omega (arith, zeroed s.args.deps.now s.args.v s.args.w)

pub returns-then-w-deps : goal.returns-then-w-deps
returns-then-w-deps c = one_lower _ _ _ c.requires (omega arith) (omega arith) c.if-w-deps.true

pub returns-else-w-deps : goal.returns-else-w-deps
returns-else-w-deps c = one_kept _ _ _ c.requires (omega arith) (omega arith) (omega arith)
