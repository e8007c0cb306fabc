-- `evaluator::evaluate` meets its contract.
use Rattle.scan.proofs.Beginnings.{few_rows, all_rows}
use Rattle.evaluator.proofs.evaluate.Goals as goal

pub evaluate_in-requires : goal.evaluate_in-requires
evaluate_in-requires c = few_rows _ (c.has_few_scopes.ensures c.if-has_few_scopes.true)

pub evaluate_in-requires-2 : goal.evaluate_in-requires-2
evaluate_in-requires-2 c = all_rows _
