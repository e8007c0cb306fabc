-- `instructions::read_own` meets its contract.
use Rattle.instructions.proofs.Memory.{read_unset, read_set}
use Rattle.instructions.specs.Views.{entries, opened}
use Rattle.instructions.proofs.read_own.Goals as goal

pub returns-then-c-eq-NOTHING : goal.returns-then-c-eq-NOTHING
returns-then-c-eq-NOTHING c = λ flags tr m o. read_unset _ flags _ _ _ m c.if-c-eq-NOTHING.true

pub returns : goal.returns
returns c = λ flags tr m o. rw (read_set c.args.own.now flags c.args.x (entries c.args.st.now c.args.h) (opened tr c.args.t) m c.if-c-eq-NOTHING.false, ← c.value_cell.ensures) (c.push.ensures tr m o)
