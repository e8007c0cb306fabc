-- What each answer of running means.
use Rattle.std.specs.Prelude.{ℕ, ◌<◌, ◌≤◌, ◌≡◌, true, false, List, [], ◌++◌, length, drop, Option, Ok}
use Rattle.calculus.specs.declared.Value.{Value}
use Rattle.answers.specs.declared.Cause.{Cause}
use Rattle.answers.specs.declared.Refusal.TheVariants.{NoSuchScope, BadInput, BufferTooSmall, BadCode, Stuck}
use Rattle.answers.specs.declared.Answer.TheVariants.{Values, Ended}
use Rattle.lists.specs.Inputs.{bad, good, inputs}
use Rattle.lists.specs.Results.{result_length, results}
use Rattle.evaluation.specs.Run.{values, ended}
use Rattle.evaluation.specs.Types.{Fitting, ValuesFit}
use Rattle.evaluation.specs.Evaluate.{Reply, refuse}
use Rattle.machine.specs.Blocks.{blocks_of, has_block, variables_of}
use Rattle.machine.specs.Acceptance.{accepted, weight_in}
use Rattle.machine.specs.Machine.{ran, stuck}
use Rattle.machine.specs.Run.{run_in}

-- the scope asked for has a block in accepted code
pub record Sought (code : List ℕ) (i : ℕ) : Type 0 where
  pub accepts : accepted code ≡ true
  pub present : has_block (blocks_of code) i ≡ true

-- and the input list is good, and the result memory long enough
pub record Entering (code : List ℕ) (i : ℕ) (list : List ℕ) (room : ℕ) : Type 0 where
  pub asked : Sought code i
  pub given : List (Option Value)
  pub read : inputs (variables_of (blocks_of code) i) list ≡ good given
  pub fitting : Fitting (variables_of (blocks_of code) i) given
  pub enough : result_length (variables_of (blocks_of code) i) ≤ room

-- "For code: 16, 13, 14, 15, 17": the cases of running scope i of code with an input list, for a result memory of this length
pub data Answered (code : List ℕ) (i : ℕ) (list : List ℕ) (room : ℕ) : Reply → Type 0 where
  unsound : accepted code ≡ false → Answered code i list room (refuse BadCode)
  absent : accepted code ≡ true → has_block (blocks_of code) i ≡ false → Answered code i list room (refuse NoSuchScope)
  malformed : Sought code i → inputs (variables_of (blocks_of code) i) list ≡ bad → Answered code i list room (refuse BadInput)
  short : Sought code i → (given : List (Option Value)) → inputs (variables_of (blocks_of code) i) list ≡ good given
      → room < result_length (variables_of (blocks_of code) i) → Answered code i list room (refuse BufferTooSmall)
  jammed : (e : Entering code i list room) → run_in (blocks_of code) i e.given ≡ stuck → Answered code i list room (refuse Stuck)
  stopped : (e : Entering code i list room) (cause : Cause) (count : ℕ) → run_in (blocks_of code) i e.given ≡ ran (ended cause count)
      → Answered code i list room (record { answer = Ok (Ended cause count); written = [] })
  finished : (e : Entering code i list room) (vs : List Value) (count : ℕ) → run_in (blocks_of code) i e.given ≡ ran (values vs count)
      → Answered code i list room (record { answer = Ok (Values count (length (results vs))); written = results vs })

-- where the answer is values, with a count and a length: the memory before and after
pub record InValues (code : List ℕ) (i : ℕ) (list memory : List ℕ) (count size : ℕ) (after : List ℕ) : Type 0 where
  pub entering : Entering code i list (length memory)
  pub finals : List Value
  pub run : run_in (blocks_of code) i entering.given ≡ ran (values finals count)
  pub typed : ValuesFit (variables_of (blocks_of code) i) finals
  -- "in a run that ends with values it equals the weight"
  pub weighs : count ≡ weight_in (blocks_of code) i
  pub long : size ≡ result_length (variables_of (blocks_of code) i)
  pub fits : size ≤ length memory
  pub whole : length (results finals) ≡ size
  pub written : after ≡ results finals ++ drop size memory

-- where it is an end, with a cause and a count
pub record InEnd (code : List ℕ) (i : ℕ) (list memory : List ℕ) (cause : Cause) (count : ℕ) (after : List ℕ) : Type 0 where
  pub entering : Entering code i list (length memory)
  pub run : run_in (blocks_of code) i entering.given ≡ ran (ended cause count)
  pub some : 1 ≤ count
  pub most : count ≤ weight_in (blocks_of code) i
  pub unchanged : after ≡ memory
