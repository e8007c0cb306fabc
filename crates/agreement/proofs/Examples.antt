-- Examples, in one table: what running code answers, and what is expected; and the code of the paper's book.
use Prim.Native.Nat.{ℕ}
use mathlib.Core.Path.{◌≡◌, refl}
use mathlib.Core.List.{List, [], ◌∷◌}
use Rattle.std.specs.Prelude.{Ok}
use Rattle.record.specs.Kinds.{shape_in, shapes_of, kinds}
use Rattle.slices.specs.Bytes.{big_endian, bytes_of, number_at, number_bytes}
use Rattle.order.specs.Order.{unmet, ready, next, among, taken, order}
use Rattle.order.specs.Search.{lowest_from, lowest, none}
use Rattle.book.specs.Lists.{any}
use Rattle.book.specs.Syntax.{node_of, clause_of}
use Rattle.book.specs.Records as records
use Rattle.book.specs.Records.{records_from, follows, invalid}
use Rattle.book.specs.Decode as decode
use Rattle.book.specs.Decode.{scopes_of}
use Rattle.book.specs.Trees.{term_below, term_of, select, clause_terms, bases, has_rule, tree}
use Rattle.book.specs.Scopes.{calls, blocks, sum}
use Rattle.book.specs.Steps.{step_count, reads, reads_any, step_of, clause_reads, depends_on, step_order}
use Rattle.lists.specs.Inputs.{cannot_give, bad_record, inputs_from, inputs}
use Rattle.lists.specs.Results.{result_length, results_from, results}
use Rattle.answers.specs.declared.Cause.TheVariants.{Empty, Conflict}
use Rattle.evaluation.specs.Evaluate.{Reply}
use Rattle.answers.specs.declared.Answer.TheVariants.{Values, Ended}
use Rattle.translation.specs.Code.{size, sizes, code, codes}
use Rattle.translation.specs.Blocks.{variable_code, overrides_code, call_code, step_code, steps_code, variables_code, sub_scopes_code, block_code, blocks_code, code_of}
use Rattle.machine.specs.Instructions.{instruction_of}
use Rattle.machine.specs.Blocks.{in_front, parse, blocks_of, has_block, variables_of}
use Rattle.machine.specs.Acceptance.{counted, faulty, sound, lands, fits, all_fit, weight_in, well_formed, all_well_formed, accepted}
use Rattle.machine.specs.Machine.{raised, effect}
use Rattle.machine.specs.Run.{exec, run_in}
use Rattle.machine.specs.Service.{asked, run}

abbrev pub paper_book : List ℕ
paper_book =
    1 ∷ 2 ∷ 2 ∷ 2 ∷ 1 ∷ 5 ∷ 0 ∷ 69 ∷ 147 ∷ 192 ∷ 6 ∷ 1 ∷ 5 ∷ 0 ∷ 34 ∷ 201 ∷ 224 ∷ 19 ∷ 255 ∷ 0 ∷ 255 ∷ 255 ∷ 0 ∷ 19 ∷ 255 ∷ 0 ∷ 0 ∷ 1 ∷ 2 ∷ []

-- "Book, hexadecimal, 29 bytes", as code
pub paper_code : code_of (scopes_of paper_book)
    ≡ 1 ∷ 0 ∷ 2 ∷ 2 ∷ 2 ∷ 1 ∷ 44 ∷ 1 ∷ 0 ∷ 3 ∷ 32 ∷ 41 ∷ 1 ∷ 44 ∷ 0 ∷ 0 ∷ 43 ∷ 38 ∷ 36 ∷ 0 ∷ 18 ∷ 6 ∷ 1 ∷ 35 ∷ 0 ∷ 8 ∷ 5 ∷ 0 ∷ 34 ∷ 201 ∷ 224 ∷ 34 ∷ 0 ∷ 1 ∷ 32 ∷ 37 ∷ 34 ∷ 0 ∷ 1 ∷ 38 ∷ 39 ∷ 40 ∷ 0 ∷ 14 ∷ 4 ∷ 1 ∷ 35 ∷ 0 ∷ 8 ∷ 5 ∷ 0 ∷ 69 ∷ 147 ∷ 192 ∷ 34 ∷ 0 ∷ 1 ∷ 32 ∷ 41 ∷ 0 ∷ []
unfolding run asked accepted all_well_formed well_formed weight_in sum has_block any variables_of blocks_of parse in_front all_fit fits lands sound faulty counted follows invalid instruction_of shape_in shapes_of kinds exec effect run_in raised inputs inputs_from cannot_give bad_record result_length results results_from number_at number_bytes big_endian bytes_of code_of blocks_code block_code sub_scopes_code variables_code steps_code step_code call_code overrides_code variable_code code codes size sizes scopes_of decode.parse decode.in_front records.records records_from records.counted node_of clause_of term_below term_of select clause_terms bases has_rule tree blocks calls among order taken next ready unmet lowest lowest_from none step_order step_count depends_on clause_reads step_of reads reads_any
paper_code = refl

-- what a run answers and writes, and what it is to answer and write
pub data Row : Type 0 where
  row : Reply → Reply → Row

abbrev pub examples : List Row
examples =
    -- the paper's book of 29 bytes, with variable 1 given
    row (run (code_of (scopes_of paper_book)) 0 (1 ∷ 1 ∷ 1 ∷ []) 9) (record { answer = Ok (Values 1 9); written = (2 ∷ 0 ∷ 0 ∷ 34 ∷ 201 ∷ 224 ∷ 1 ∷ 1 ∷ 1 ∷ []) })
    -- without inputs
    ∷ row (run (code_of (scopes_of paper_book)) 0 [] 9) (record { answer = Ok (Ended Empty 1); written = [] })
    -- a sub-scope's variable overridden
    ∷ row (run (code_of (scopes_of (1 ∷ 2 ∷ 2 ∷ 5 ∷ 0 ∷ 0 ∷ 0 ∷ 7 ∷ 19 ∷ 255 ∷ 0 ∷ 255 ∷ 255 ∷ 0 ∷ 1 ∷ 2 ∷ 2 ∷ 3 ∷ 0 ∷ 5 ∷ 0 ∷ 0 ∷ 0 ∷ 9 ∷ 7 ∷ 0 ∷ 0 ∷ 19 ∷ 0 ∷ 0 ∷ 255 ∷ 255 ∷ 0 ∷ 19 ∷ 255 ∷ 0 ∷ 255 ∷ 255 ∷ 1 ∷ []))) 1 [] 6) (record { answer = Ok (Values 2 6); written = (2 ∷ 0 ∷ 0 ∷ 0 ∷ 0 ∷ 9 ∷ []) })
    -- an empty override, beside the sub-scope's own 9
    ∷ row (run (code_of (scopes_of (1 ∷ 2 ∷ 2 ∷ 5 ∷ 0 ∷ 0 ∷ 0 ∷ 9 ∷ 19 ∷ 255 ∷ 0 ∷ 255 ∷ 255 ∷ 0 ∷ 1 ∷ 2 ∷ 2 ∷ 3 ∷ 0 ∷ 8 ∷ 2 ∷ 7 ∷ 0 ∷ 0 ∷ 19 ∷ 0 ∷ 0 ∷ 255 ∷ 255 ∷ 0 ∷ 19 ∷ 255 ∷ 0 ∷ 255 ∷ 255 ∷ 1 ∷ []))) 1 [] 6) (record { answer = Ok (Values 2 6); written = (2 ∷ 0 ∷ 0 ∷ 0 ∷ 0 ∷ 9 ∷ []) })
    -- the same book's code without the try, as it was before No. 5 of paper 02: it runs as it did
    ∷ row (run (1 ∷ 0 ∷ 2 ∷ 2 ∷ 44 ∷ 0 ∷ 0 ∷ 16 ∷ 4 ∷ 1 ∷ 35 ∷ 0 ∷ 8 ∷ 5 ∷ 0 ∷ 0 ∷ 0 ∷ 9 ∷ 34 ∷ 0 ∷ 1 ∷ 32 ∷ 41 ∷ 0 ∷ 1 ∷ 1 ∷ 2 ∷ 2 ∷ 3 ∷ 0 ∷ 4 ∷ 1 ∷ 35 ∷ 0 ∷ 4 ∷ 32 ∷ 34 ∷ 0 ∷ 1 ∷ 32 ∷ 42 ∷ 0 ∷ 0 ∷ 43 ∷ 0 ∷ 44 ∷ 0 ∷ 0 ∷ 14 ∷ 4 ∷ 1 ∷ 35 ∷ 0 ∷ 6 ∷ 7 ∷ 0 ∷ 0 ∷ 34 ∷ 0 ∷ 1 ∷ 32 ∷ 41 ∷ 0 ∷ []) 1 [] 6) (record { answer = Ok (Ended Empty 1); written = [] })
    -- an empty operand deep inside the override
    ∷ row (run (code_of (scopes_of (1 ∷ 2 ∷ 2 ∷ 5 ∷ 0 ∷ 0 ∷ 0 ∷ 9 ∷ 19 ∷ 255 ∷ 0 ∷ 255 ∷ 255 ∷ 0 ∷ 1 ∷ 2 ∷ 2 ∷ 3 ∷ 0 ∷ 5 ∷ 0 ∷ 0 ∷ 0 ∷ 4 ∷ 8 ∷ 2 ∷ 13 ∷ 0 ∷ 1 ∷ 7 ∷ 0 ∷ 0 ∷ 19 ∷ 0 ∷ 0 ∷ 255 ∷ 255 ∷ 2 ∷ 19 ∷ 255 ∷ 0 ∷ 255 ∷ 255 ∷ 3 ∷ []))) 1 [] 6) (record { answer = Ok (Values 2 6); written = (2 ∷ 0 ∷ 0 ∷ 0 ∷ 0 ∷ 9 ∷ []) })
    -- an override in conflict: the scope is not entered
    ∷ row (run (code_of (scopes_of (1 ∷ 2 ∷ 2 ∷ 5 ∷ 0 ∷ 0 ∷ 0 ∷ 9 ∷ 19 ∷ 255 ∷ 0 ∷ 255 ∷ 255 ∷ 0 ∷ 1 ∷ 2 ∷ 2 ∷ 3 ∷ 0 ∷ 9 ∷ 2 ∷ 7 ∷ 0 ∷ 0 ∷ 19 ∷ 0 ∷ 0 ∷ 255 ∷ 255 ∷ 0 ∷ 19 ∷ 255 ∷ 0 ∷ 255 ∷ 255 ∷ 1 ∷ []))) 1 [] 6) (record { answer = Ok (Ended Conflict 1); written = [] })
    -- an empty override, then one in conflict
    ∷ row (run (code_of (scopes_of (1 ∷ 2 ∷ 2 ∷ 2 ∷ 2 ∷ 5 ∷ 0 ∷ 0 ∷ 0 ∷ 9 ∷ 5 ∷ 0 ∷ 0 ∷ 0 ∷ 8 ∷ 19 ∷ 255 ∷ 0 ∷ 255 ∷ 255 ∷ 0 ∷ 19 ∷ 255 ∷ 1 ∷ 255 ∷ 255 ∷ 1 ∷ 1 ∷ 2 ∷ 2 ∷ 3 ∷ 0 ∷ 8 ∷ 2 ∷ 9 ∷ 2 ∷ 7 ∷ 0 ∷ 0 ∷ 19 ∷ 0 ∷ 0 ∷ 255 ∷ 255 ∷ 0 ∷ 19 ∷ 0 ∷ 1 ∷ 255 ∷ 255 ∷ 1 ∷ 19 ∷ 255 ∷ 0 ∷ 255 ∷ 255 ∷ 2 ∷ []))) 1 [] 6) (record { answer = Ok (Ended Conflict 1); written = [] })
    -- an empty override of a variable without clauses
    ∷ row (run (code_of (scopes_of (1 ∷ 2 ∷ 2 ∷ 1 ∷ 2 ∷ 2 ∷ 3 ∷ 0 ∷ 8 ∷ 2 ∷ 7 ∷ 0 ∷ 0 ∷ 19 ∷ 0 ∷ 0 ∷ 255 ∷ 255 ∷ 0 ∷ 19 ∷ 255 ∷ 0 ∷ 255 ∷ 255 ∷ 1 ∷ []))) 1 [] 6) (record { answer = Ok (Ended Empty 2); written = [] })
    -- a rule whose condition is empty, as an override: no is handed over
    ∷ row (run (code_of (scopes_of (1 ∷ 2 ∷ 1 ∷ 4 ∷ 1 ∷ 19 ∷ 255 ∷ 0 ∷ 255 ∷ 255 ∷ 0 ∷ 1 ∷ 2 ∷ 1 ∷ 3 ∷ 0 ∷ 8 ∷ 1 ∷ 7 ∷ 0 ∷ 0 ∷ 20 ∷ 0 ∷ 0 ∷ 255 ∷ 0 ∷ 1 ∷ 19 ∷ 255 ∷ 0 ∷ 255 ∷ 255 ∷ 1 ∷ []))) 1 [] 3) (record { answer = Ok (Values 2 3); written = (1 ∷ 0 ∷ 0 ∷ []) })
    -- an override that gives a value, of a scope that ends empty itself
    ∷ row (run (code_of (scopes_of (1 ∷ 2 ∷ 2 ∷ 2 ∷ 2 ∷ 5 ∷ 0 ∷ 0 ∷ 0 ∷ 1 ∷ 19 ∷ 255 ∷ 1 ∷ 255 ∷ 255 ∷ 0 ∷ 1 ∷ 2 ∷ 2 ∷ 3 ∷ 0 ∷ 5 ∷ 0 ∷ 0 ∷ 0 ∷ 5 ∷ 7 ∷ 0 ∷ 0 ∷ 19 ∷ 0 ∷ 1 ∷ 255 ∷ 255 ∷ 0 ∷ 19 ∷ 255 ∷ 0 ∷ 255 ∷ 255 ∷ 1 ∷ []))) 1 [] 6) (record { answer = Ok (Ended Empty 2); written = [] })
    -- an exception to an exception
    ∷ row (run (code_of (scopes_of (1 ∷ 2 ∷ 2 ∷ 5 ∷ 0 ∷ 0 ∷ 0 ∷ 1 ∷ 4 ∷ 1 ∷ 5 ∷ 0 ∷ 0 ∷ 0 ∷ 2 ∷ 4 ∷ 1 ∷ 5 ∷ 0 ∷ 0 ∷ 0 ∷ 3 ∷ 19 ∷ 255 ∷ 0 ∷ 255 ∷ 255 ∷ 0 ∷ 19 ∷ 255 ∷ 0 ∷ 0 ∷ 1 ∷ 2 ∷ 19 ∷ 255 ∷ 0 ∷ 1 ∷ 3 ∷ 4 ∷ []))) 0 [] 6) (record { answer = Ok (Values 1 6); written = (2 ∷ 0 ∷ 0 ∷ 0 ∷ 0 ∷ 3 ∷ []) })
    ∷ []

abbrev pub answers : List Row → List Reply
answers [] = []
answers (row a b ∷ rows) = a ∷ answers rows

abbrev pub expected : List Row → List Reply
expected [] = []
expected (row a b ∷ rows) = b ∷ expected rows

-- every example answers what it is to answer
pub examples_hold : answers examples ≡ expected examples
unfolding run asked accepted all_well_formed well_formed weight_in sum has_block any variables_of blocks_of parse in_front all_fit fits lands sound faulty counted follows invalid instruction_of shape_in shapes_of kinds exec effect run_in raised inputs inputs_from cannot_give bad_record result_length results results_from number_at number_bytes big_endian bytes_of code_of blocks_code block_code sub_scopes_code variables_code steps_code step_code call_code overrides_code variable_code code codes size sizes scopes_of decode.parse decode.in_front records.records records_from records.counted node_of clause_of term_below term_of select clause_terms bases has_rule tree blocks calls among order taken next ready unmet lowest lowest_from none step_order step_count depends_on clause_reads step_of reads reads_any
examples_hold = refl
