-- `judge::judge` meets its contract.
use Rattle.scan.proofs.Beginnings.{few_rows, all_rows}
use Rattle.judge.proofs.judge.Goals as goal

pub judge_in-requires : goal.judge_in-requires
judge_in-requires c = few_rows _ (c.has_few_scopes.ensures c.if-has_few_scopes.true)

pub judge_in-requires-2 : goal.judge_in-requires-2
judge_in-requires-2 c = all_rows _
