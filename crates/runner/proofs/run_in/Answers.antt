-- `runner::run_in` meets its contract.
use Rattle.runner.proofs.Service.{ready, refused_code}
use Rattle.runner.proofs.run_in.Goals as goal

pub run_accepted-requires : goal.run_accepted-requires
run_accepted-requires c = ready _ c.in-Some.is c.verify.ensures

pub returns-in-None : goal.returns-in-None
returns-in-None c = refused_code _ _ _ _ _ c.in-None.is c.verify.ensures
