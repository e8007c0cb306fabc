-- `blocks::finish` meets its contract.
use Rattle.std.proofs.lemmas.Bool.{not_from_true, not_from_false}
use Rattle.blocks.proofs.Ends.{mark_room, end_unset, end_waiting, end_values}
use Rattle.blocks.proofs.finish.Goals as goal

pub returns-then-not-all_set : goal.returns-then-not-all_set
returns-then-not-all_set c = end_unset _ _ _ _ _ c.variables_in.ensures c.all_set.ensures (not_from_false _ c.if-not-all_set.true)

pub all_set-requires-2 : goal.all_set-requires-2
all_set-requires-2 c = mark_room _ _ _ _ _ c.variables_in.ensures _ c.sub_scopes_in.ensures c.requires

pub returns-then-not-all_set-2 : goal.returns-then-not-all_set-2
returns-then-not-all_set-2 c = end_waiting _ _ _ _ _ c.variables_in.ensures _ c.sub_scopes_in.ensures _ _ _ c.all_set.ensures (not_from_true _ c.if-not-all_set.false) c.all_set-2.ensures (not_from_false _ c.if-not-all_set-2.true)

pub returns : goal.returns
returns c = end_values _ _ _ _ _ c.variables_in.ensures _ c.sub_scopes_in.ensures _ _ _ c.all_set.ensures (not_from_true _ c.if-not-all_set.false) c.all_set-2.ensures (not_from_true _ c.if-not-all_set-2.false)
