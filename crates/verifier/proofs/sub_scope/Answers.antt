-- `verifier::sub_scope` meets its contract.
use native.Mathlib.Omega.{arith}
use Rattle.verifier.proofs.Heads.{sub_missing, sub_block_below, weight_room_lem, sub_read}
use Rattle.verifier.proofs.sub_scope.Goals as goal

pub weight_of-weight-requires : goal.weight_of-weight-requires
weight_of-weight-requires c = sub_block_below _ 0 _ _ _ (rw c.from.ensures at c.in_ok-block.ensures) c.requires

pub overflow_add-v-2 : goal.overflow_add-v-2
overflow_add-v-2 c = let h = weight_room_lem _ 0 _ _ _ (rw c.from.ensures at c.in_ok-block.ensures) _ c.weight_of-weight.ensures c.requires in omega arith

pub returns-in_err-block : goal.returns-in_err-block
returns-in_err-block c = rw c.from_residual.ensures (sub_missing _ _ _ _ (rw c.from.ensures at c.in_err-block.ensures))

pub returns : goal.returns
returns c = sub_read _ _ _ _ _ (rw c.from.ensures at c.in_ok-block.ensures) _ c.weight_of-weight.ensures
