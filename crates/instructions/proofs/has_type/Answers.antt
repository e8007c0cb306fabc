-- `instructions::has_type` meets its contract.
use borrow.Author.Rules.{rules}
use Rattle.instructions.proofs.has_type.Goals as goal

pub returns : goal.returns
returns c = rw (← c.type_in.ensures) (search rules)
