-- `slices::put_byte` meets its contract.
use Rattle.std.proofs.Common.{[], ◌∷◌, sym, arith}
use Rattle.slices.proofs.Overwrite.{stores, unfit}
use Rattle.slices.proofs.put_byte.Goals as goal

pub returns-then-at-s : goal.returns-then-at-s
returns-then-at-s c = stores c.args.s.now c.args.at (_ ∷ []) (omega arith)

pub returns-else-at-s : goal.returns-else-at-s
returns-else-at-s c = sym (unfit c.args.s.now c.args.at (_ ∷ []) (omega arith))
