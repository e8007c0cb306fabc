-- Runs of code, each with its answer, in one table: all hold by computing. Assumes nothing.
use Prim.Native.Nat.{ℕ}
use mathlib.Core.Path.{◌≡◌, refl}
use mathlib.Core.List.{List, [], ◌∷◌}
use lib.ListN.{length}
use Rattle.std.specs.Prelude.{Ok}
use Rattle.slices.specs.Bytes.{big_endian, bytes_of, number_at, number_bytes}
use Rattle.record.specs.Kinds.{shape_in, shapes_of, kinds}
use Rattle.answers.specs.declared.Cause.{Cause}
use Rattle.answers.specs.declared.Side.TheVariants.{Above, Below}
use Rattle.answers.specs.declared.Cause.TheVariants.{Empty, Conflict, OutOfRange}
use Rattle.book.specs.Lists.{any}
use Rattle.book.specs.Records.{follows, invalid}
use Rattle.book.specs.Scopes.{sum}
use Rattle.lists.specs.Inputs.{cannot_give, bad_record, inputs_from, inputs}
use Rattle.lists.specs.Results.{result_length, results_from, results}
use Rattle.evaluation.specs.Evaluate.{Reply, refuse}
use Rattle.answers.specs.declared.Refusal.TheVariants.{NoSuchScope, Stuck}
use Rattle.answers.specs.declared.Answer.TheVariants.{Values, Ended}
use Rattle.machine.specs.Instructions.{instruction_of}
use Rattle.machine.specs.Blocks.{in_front, parse, blocks_of, has_block, variables_of}
use Rattle.machine.specs.Acceptance.{counted, faulty, sound, lands, fits, all_fit, weight_in, well_formed, all_well_formed, accepted}
use Rattle.machine.specs.Machine.{raised, effect}
use Rattle.machine.specs.Run.{exec, run_in}
use Rattle.machine.specs.Service.{asked, run}

-- with a result memory of 192 bytes, enough for every scope
abbrev asking : List ℕ → ℕ → List ℕ → Reply
asking code i inputs = run code i inputs 192

abbrev gives : ℕ → List ℕ → Reply
gives n bytes = record { answer = Ok (Values n (length bytes)); written = bytes }

abbrev ends : Cause → ℕ → Reply
ends c n = record { answer = Ok (Ended c n); written = [] }

-- what a run answers, and what it is to answer
pub data Row : Type 0 where
  row : Reply → Reply → Row

abbrev pub runs : List Row
runs =
    -- a scope without variables, by a number of its own
    row (asking (1 ∷ 7 ∷ []) 7 []) (gives 1 [])
    -- empty code has no scope
    ∷ row (asking [] 0 []) (refuse NoSuchScope)
    -- an empty lands at the block's end
    ∷ row (asking (1 ∷ 0 ∷ 36 ∷ 0 ∷ 1 ∷ 32 ∷ []) 0 []) (gives 1 [])
    -- conflict ends the run
    ∷ row (asking (1 ∷ 0 ∷ 2 ∷ 1 ∷ 33 ∷ []) 0 []) (ends Conflict 1)
    -- an end of try with none open
    ∷ row (asking (1 ∷ 0 ∷ 2 ∷ 1 ∷ 37 ∷ 33 ∷ []) 0 []) (refuse Stuck)
    -- a try that lands at once stays open
    ∷ row (asking (1 ∷ 0 ∷ 36 ∷ 0 ∷ 0 ∷ 37 ∷ []) 0 []) (gives 1 [])
    -- the latest try that lands further on
    ∷ row (asking (1 ∷ 0 ∷ 36 ∷ 0 ∷ 5 ∷ 36 ∷ 0 ∷ 0 ∷ 37 ∷ 32 ∷ []) 0 []) (gives 1 [])
    -- the stack below the height of the try
    ∷ row (asking (1 ∷ 0 ∷ 2 ∷ 1 ∷ 36 ∷ 0 ∷ 9 ∷ 4 ∷ 1 ∷ 36 ∷ 0 ∷ 3 ∷ 41 ∷ 0 ∷ 32 ∷ 38 ∷ []) 0 []) (refuse Stuck)
    -- two values of different types join to many
    ∷ row (asking (1 ∷ 0 ∷ 4 ∷ 1 ∷ 5 ∷ 0 ∷ 0 ∷ 0 ∷ 1 ∷ 39 ∷ 40 ∷ 0 ∷ 0 ∷ []) 0 []) (ends Conflict 1)
    -- equal of two types
    ∷ row (asking (1 ∷ 0 ∷ 4 ∷ 1 ∷ 5 ∷ 0 ∷ 0 ∷ 0 ∷ 1 ∷ 15 ∷ []) 0 []) (refuse Stuck)
    -- a store of another type
    ∷ row (asking (1 ∷ 0 ∷ 2 ∷ 1 ∷ 5 ∷ 0 ∷ 0 ∷ 0 ∷ 1 ∷ 41 ∷ 0 ∷ []) 0 []) (refuse Stuck)
    -- a given variable is read
    ∷ row (asking (1 ∷ 0 ∷ 2 ∷ 1 ∷ 6 ∷ 0 ∷ []) 0 (1 ∷ 0 ∷ 1 ∷ [])) (gives 1 (1 ∷ 0 ∷ 1 ∷ []))
    -- a stored variable is not given
    ∷ row (asking (1 ∷ 0 ∷ 2 ∷ 1 ∷ 4 ∷ 1 ∷ 41 ∷ 0 ∷ 44 ∷ 0 ∷ 0 ∷ 1 ∷ 33 ∷ []) 0 []) (ends Conflict 1)
    -- an entered scope that ends empty
    ∷ row (asking (1 ∷ 0 ∷ 32 ∷ 1 ∷ 1 ∷ 3 ∷ 0 ∷ 36 ∷ 0 ∷ 2 ∷ 43 ∷ 0 ∷ []) 1 []) (ends Empty 2)
    -- a stack that is not empty at the end
    ∷ row (asking (1 ∷ 0 ∷ 4 ∷ 1 ∷ []) 0 []) (gives 1 [])
    -- subtract takes the right operand from the top
    ∷ row (asking (1 ∷ 0 ∷ 2 ∷ 2 ∷ 5 ∷ 0 ∷ 0 ∷ 0 ∷ 5 ∷ 5 ∷ 0 ∷ 0 ∷ 0 ∷ 2 ∷ 14 ∷ 41 ∷ 0 ∷ []) 0 []) (gives 1 (2 ∷ 0 ∷ 0 ∷ 0 ∷ 0 ∷ 3 ∷ []))
    -- negate, add, less, not, and, equal
    ∷ row (asking (1 ∷ 0 ∷ 2 ∷ 1 ∷ 5 ∷ 0 ∷ 0 ∷ 0 ∷ 1 ∷ 11 ∷ 5 ∷ 0 ∷ 0 ∷ 0 ∷ 1 ∷ 13 ∷ 5 ∷ 0 ∷ 0 ∷ 0 ∷ 1 ∷ 16 ∷ 10 ∷ 4 ∷ 0 ∷ 12 ∷ 4 ∷ 0 ∷ 15
    ∷ 41 ∷ 0 ∷ []) 0 []) (gives 1 (1 ∷ 0 ∷ 1 ∷ []))
    -- out of range ends the run: add above and below, subtract above and below, negate above
    ∷ row (asking (1 ∷ 0 ∷ 2 ∷ 2 ∷ 5 ∷ 127 ∷ 255 ∷ 255 ∷ 255 ∷ 5 ∷ 0 ∷ 0 ∷ 0 ∷ 1 ∷ 13 ∷ 41 ∷ 0 ∷ []) 0 []) (ends (OutOfRange Above) 1)
    ∷ row (asking (1 ∷ 0 ∷ 2 ∷ 2 ∷ 5 ∷ 128 ∷ 0 ∷ 0 ∷ 0 ∷ 5 ∷ 255 ∷ 255 ∷ 255 ∷ 255 ∷ 13 ∷ 41 ∷ 0 ∷ []) 0 []) (ends (OutOfRange Below) 1)
    ∷ row (asking (1 ∷ 0 ∷ 2 ∷ 2 ∷ 5 ∷ 0 ∷ 0 ∷ 0 ∷ 0 ∷ 5 ∷ 128 ∷ 0 ∷ 0 ∷ 0 ∷ 14 ∷ 41 ∷ 0 ∷ []) 0 []) (ends (OutOfRange Above) 1)
    ∷ row (asking (1 ∷ 0 ∷ 2 ∷ 2 ∷ 5 ∷ 128 ∷ 0 ∷ 0 ∷ 0 ∷ 5 ∷ 0 ∷ 0 ∷ 0 ∷ 1 ∷ 14 ∷ 41 ∷ 0 ∷ []) 0 []) (ends (OutOfRange Below) 1)
    ∷ row (asking (1 ∷ 0 ∷ 2 ∷ 2 ∷ 5 ∷ 128 ∷ 0 ∷ 0 ∷ 0 ∷ 11 ∷ 41 ∷ 0 ∷ []) 0 []) (ends (OutOfRange Above) 1)
    -- −2,147,483,648 and 2,147,483,647 themselves are in range
    ∷ row (asking (1 ∷ 0 ∷ 2 ∷ 2 ∷ 5 ∷ 128 ∷ 0 ∷ 0 ∷ 1 ∷ 5 ∷ 0 ∷ 0 ∷ 0 ∷ 1 ∷ 14 ∷ 41 ∷ 0 ∷ []) 0 []) (gives 1 (2 ∷ 0 ∷ 128 ∷ 0 ∷ 0 ∷ 0 ∷ []))
    ∷ row (asking (1 ∷ 0 ∷ 2 ∷ 2 ∷ 5 ∷ 127 ∷ 255 ∷ 255 ∷ 254 ∷ 5 ∷ 0 ∷ 0 ∷ 0 ∷ 1 ∷ 13 ∷ 41 ∷ 0 ∷ []) 0 []) (gives 1 (2 ∷ 0 ∷ 127 ∷ 255 ∷ 255 ∷ 255 ∷ []))
    -- out of range passes an open try
    ∷ row (asking (1 ∷ 0 ∷ 2 ∷ 2 ∷ 36 ∷ 0 ∷ 11 ∷ 5 ∷ 128 ∷ 0 ∷ 0 ∷ 0 ∷ 5 ∷ 0 ∷ 0 ∷ 0 ∷ 1 ∷ 14 ∷ 5 ∷ 0 ∷ 0 ∷ 0 ∷ 7 ∷ 41 ∷ 0 ∷ []) 0 [])
    (ends (OutOfRange Below) 1)
    -- no jumps
    ∷ row (asking (1 ∷ 0 ∷ 2 ∷ 1 ∷ 4 ∷ 0 ∷ 35 ∷ 0 ∷ 5 ∷ 4 ∷ 1 ∷ 34 ∷ 0 ∷ 2 ∷ 4 ∷ 0 ∷ 41 ∷ 0 ∷ []) 0 []) (gives 1 (1 ∷ 0 ∷ 0 ∷ []))
    -- settle keeps a value and jumps
    ∷ row (asking (1 ∷ 0 ∷ 2 ∷ 1 ∷ 4 ∷ 1 ∷ 38 ∷ 39 ∷ 40 ∷ 0 ∷ 1 ∷ 33 ∷ 41 ∷ 0 ∷ []) 0 []) (gives 1 (1 ∷ 0 ∷ 1 ∷ []))
    -- settle removes nothing
    ∷ row (asking (1 ∷ 0 ∷ 2 ∷ 1 ∷ 4 ∷ 1 ∷ 38 ∷ 40 ∷ 0 ∷ 1 ∷ 12 ∷ 41 ∷ 0 ∷ []) 0 []) (refuse Stuck)
    -- a raise cuts the stack
    ∷ row (asking (1 ∷ 0 ∷ 2 ∷ 1 ∷ 4 ∷ 1 ∷ 36 ∷ 0 ∷ 6 ∷ 4 ∷ 0 ∷ 4 ∷ 0 ∷ 32 ∷ 37 ∷ 41 ∷ 0 ∷ []) 0 []) (gives 1 (1 ∷ 0 ∷ 1 ∷ []))
    -- a raise closes the try
    ∷ row (asking (1 ∷ 0 ∷ 36 ∷ 0 ∷ 1 ∷ 32 ∷ 37 ∷ []) 0 []) (refuse Stuck)
    -- an outer try takes what is raised behind the inner one's landing
    ∷ row (asking (1 ∷ 0 ∷ 2 ∷ 1 ∷ 36 ∷ 0 ∷ 5 ∷ 36 ∷ 0 ∷ 1 ∷ 32 ∷ 32 ∷ 4 ∷ 1 ∷ 41 ∷ 0 ∷ []) 0 []) (gives 1 (1 ∷ 0 ∷ 1 ∷ []))
    -- an override, an entry, a read of what was entered
    ∷ row (asking (1 ∷ 0 ∷ 2 ∷ 1 ∷ 1 ∷ 1 ∷ 2 ∷ 1 ∷ 3 ∷ 0 ∷ 4 ∷ 1 ∷ 42 ∷ 0 ∷ 0 ∷ 43 ∷ 0 ∷ 7 ∷ 0 ∷ 0 ∷ 41 ∷ 0 ∷ []) 1 []) (gives 2 (1 ∷ 0 ∷ 1 ∷ []))
    -- a read of a sub-scope not entered
    ∷ row (asking (1 ∷ 0 ∷ 2 ∷ 1 ∷ 4 ∷ 1 ∷ 41 ∷ 0 ∷ 1 ∷ 1 ∷ 2 ∷ 1 ∷ 3 ∷ 0 ∷ 7 ∷ 0 ∷ 0 ∷ 41 ∷ 0 ∷ []) 1 []) (refuse Stuck)
    -- a second store
    ∷ row (asking (1 ∷ 0 ∷ 2 ∷ 1 ∷ 4 ∷ 1 ∷ 41 ∷ 0 ∷ 4 ∷ 1 ∷ 41 ∷ 0 ∷ []) 0 []) (refuse Stuck)
    -- a store to what is given
    ∷ row (asking (1 ∷ 0 ∷ 2 ∷ 1 ∷ 4 ∷ 1 ∷ 41 ∷ 0 ∷ []) 0 (1 ∷ 0 ∷ 1 ∷ [])) (refuse Stuck)
    -- a second store to a variable of a sub-scope
    ∷ row (asking (1 ∷ 0 ∷ 2 ∷ 1 ∷ 1 ∷ 1 ∷ 3 ∷ 0 ∷ 4 ∷ 1 ∷ 42 ∷ 0 ∷ 0 ∷ 4 ∷ 1 ∷ 42 ∷ 0 ∷ 0 ∷ 43 ∷ 0 ∷ []) 1 []) (refuse Stuck)
    -- a second entry
    ∷ row (asking (1 ∷ 0 ∷ 1 ∷ 1 ∷ 3 ∷ 0 ∷ 43 ∷ 0 ∷ 43 ∷ 0 ∷ []) 1 []) (refuse Stuck)
    -- an override after the entry
    ∷ row (asking (1 ∷ 0 ∷ 2 ∷ 1 ∷ 4 ∷ 1 ∷ 41 ∷ 0 ∷ 1 ∷ 1 ∷ 3 ∷ 0 ∷ 43 ∷ 0 ∷ 4 ∷ 1 ∷ 42 ∷ 0 ∷ 0 ∷ []) 1 []) (refuse Stuck)
    -- a block's end with a variable neither given nor stored
    ∷ row (asking (1 ∷ 0 ∷ 2 ∷ 1 ∷ []) 0 []) (refuse Stuck)
    -- a block's end with a sub-scope not entered
    ∷ row (asking (1 ∷ 0 ∷ 1 ∷ 1 ∷ 3 ∷ 0 ∷ []) 1 []) (refuse Stuck)
    ∷ []

abbrev pub answers : List Row → List Reply
answers [] = []
answers (row a b ∷ rows) = a ∷ answers rows

abbrev pub expected : List Row → List Reply
expected [] = []
expected (row a b ∷ rows) = b ∷ expected rows

-- every run answers what it is to answer
pub runs_hold : answers runs ≡ expected runs
unfolding run accepted sound faulty counted follows invalid any blocks_of parse in_front has_block variables_of all_well_formed well_formed all_fit fits lands weight_in sum asked run_in exec effect raised instruction_of shape_in shapes_of kinds big_endian bytes_of number_at number_bytes inputs inputs_from cannot_give bad_record result_length results results_from
runs_hold = refl
