-- Of the measure: what is left of the results gets shorter with each record.
use Rattle.std.proofs.Common.{length}
use Rattle.rulerun.proofs.print_results.Given as goal

abbrev pub decreases-loop-rest : goal.decreases-loop-rest
decreases-loop-rest g l = length l.rest
