-- `order::fill_order` meets its contract: each of the three tests refuses what does not fit, and what fits is written.
use native.Mathlib.Omega.{arith}
use Rattle.order.proofs.Answer.{unfit_many, unfit_rows, unfit_room, filled_unfit}
use Rattle.order.proofs.fill_order.Goals as goal

pub returns-then-n-gt-WIDTH : goal.returns-then-n-gt-WIDTH
returns-then-n-gt-WIDTH c = filled_unfit _ _ _ (unfit_many _ _ _ (omega arith))

pub returns-then-deps : goal.returns-then-deps
returns-then-deps c = filled_unfit _ _ _ (unfit_rows _ _ _ (omega arith) (omega arith))

pub returns-then-out-n : goal.returns-then-out-n
returns-then-out-n c = filled_unfit _ _ _ (unfit_room _ _ _ (omega arith) (omega arith) (omega arith))
