-- `results::length_by` meets its contract.
use Rattle.std.proofs.Common.{rules, tests}
use Rattle.lists.proofs.Lengths.{length_sum}
use Rattle.results.proofs.length_by.Goals as goal

pub returns : goal.returns
returns c = rw (length_sum c.args.types.now) (search (rules, tests))
