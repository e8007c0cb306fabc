-- `verifier::has_names` meets its contract.
use borrow.Author.Tests.{ne_eqb}
use Rattle.verifier.proofs.has_names.Goals as goal

pub returns-else-kind-eq-KIND_CALLED : goal.returns-else-kind-eq-KIND_CALLED
returns-else-kind-eq-KIND_CALLED c = rw (ne_eqb c.args.kind 7 c.if-kind-eq-KIND_CALLED.false)
