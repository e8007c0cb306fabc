-- `verifier::judge_long` meets its contract. The measure is how often it calls itself.
use Rattle.verifier.proofs.+judge_long.Given as goal

abbrev pub decreases-judge_long : goal.decreases-judge_long
decreases-judge_long l = l.again
