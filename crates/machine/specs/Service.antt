-- The service: what running code answers, and what every byte of the result memory holds afterwards.
use Rattle.std.specs.Prelude.{ℕ, cond, List, leb}
use Rattle.lists.specs.Inputs.{Inputs, bad, good, inputs}
use Rattle.lists.specs.Results.{result_length}
use Rattle.evaluation.specs.Evaluate.{Reply, refuse, reply_of}
use Rattle.answers.specs.declared.Refusal.TheVariants.{NoSuchScope, BadInput, BufferTooSmall, BadCode, Stuck}
use Rattle.machine.specs.Blocks.{Block, blocks_of, has_block, variables_of}
use Rattle.machine.specs.Acceptance.{accepted}
use Rattle.machine.specs.Machine.{Ran, ran, stuck}
use Rattle.machine.specs.Run.{run_in}

-- 17, the paper's "stuck"; else "an evaluation or a run its outcome, its count and the length of the results"
abbrev pub reply : Ran → Reply
reply (ran e) = reply_of e
reply stuck = refuse Stuck

-- 14, then 15: "code or result longer than the memory lent"
abbrev pub on_inputs : Inputs → ℕ → List Block → ℕ → Reply
on_inputs bad room blocks i = refuse BadInput
on_inputs (good given) room blocks i =
    cond (leb (result_length (variables_of blocks i)) room) (reply (run_in blocks i given)) (refuse BufferTooSmall)

-- 13, then 14 and on
unfoldable pub asked : List Block → ℕ → List ℕ → ℕ → Reply
asked blocks i bytes room =
    cond (has_block blocks i) (on_inputs (inputs (variables_of blocks i) bytes) room blocks i) (refuse NoSuchScope)

-- "For code: 16, 13, 14, 15, 17": running scope i of code with an input list, for a result memory of this length
unfoldable pub run : List ℕ → ℕ → List ℕ → ℕ → Reply
run code i bytes room = cond (accepted code) (asked (blocks_of code) i bytes room) (refuse BadCode)
