-- `instructions::read_called` meets its contract.
use Rattle.instructions.specs.Views.{entries, opened}
use Rattle.instructions.proofs.Memory.{read_waiting, read_entered}
use Rattle.instructions.proofs.read_called.Goals as goal

pub returns-then-frame-k-eq0 : goal.returns-then-frame-k-eq0
returns-then-frame-k-eq0 c = λ n tr m l o. read_waiting _ n _ _ _ _ m c.if-frame-k-eq0.true

pub returns : goal.returns
returns c = λ n tr m l o. rw (read_entered c.args.frame.now n c.args.k c.args.x (entries c.args.st.now c.args.h) (opened tr c.args.t) m c.if-frame-k-eq0.false l, ← c.value_cell.ensures) (c.push.ensures tr m o)
