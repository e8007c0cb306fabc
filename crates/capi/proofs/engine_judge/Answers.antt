-- `capi::engine_judge` meets its contract.
use Rattle.answers.specs.Numbers.{judged_numbers}
use Rattle.engine.proofs.Placed.{judge_placed}
use Rattle.capi.proofs.Packed.{said}
use Rattle.capi.proofs.engine_judge.Goals as goal

pub returns : goal.returns
returns c = said judged_numbers (judge_placed _) c.judge.ensures c.pack_judged.ensures
