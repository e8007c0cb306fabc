-- `instructions::store_at` meets its contract.
use Rattle.instructions.proofs.store_at.Goals as goal

pub returns : goal.returns
returns c = rw (← c.first-x.ensures, ← c.type_at.ensures) c.store.ensures
