-- `trees::has_clause` meets its contract.
use Rattle.trees.proofs.Targets.{target_claused}
use Rattle.trees.proofs.has_clause.Goals as goal

pub returns : goal.returns
returns c = target_claused _ _ _ _ c.requires _ _ _ c.slot_of-slot.ensures _ c.byte_at.ensures
