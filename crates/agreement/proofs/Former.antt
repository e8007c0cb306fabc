-- What paper 02, No. 5 left and what it changed.
--     code_kept                     of an accepted book: running its code, as it is now, answers what evaluating did, where no empty override is met
--     former_runs, amended-runs     books with overrides, each with what entering its second scope came to and comes to now, by computing
-- Assumes nothing.
use Prim.Native.Nat.{ℕ}
use mathlib.Core.Path.{◌≡◌, refl, sym, ◌∙◌}
use mathlib.Core.Bool.{false}
use mathlib.Core.List.{List, [], ◌∷◌, map}
use lib.IntN.{pos}
use Rattle.std.specs.Prelude.{Ok}
use Rattle.record.specs.Kinds.{shape_in, shapes_of, kinds}
use Rattle.slices.specs.Bytes.{big_endian, number_at}
use Rattle.calculus.specs.Evaluation.{eval, exceptions}
use Rattle.calculus.specs.declared.Value.TheVariants.{Truth, Number}
use Rattle.answers.specs.declared.Cause.TheVariants.{Empty, Conflict, OutOfRange}
use Rattle.answers.specs.declared.Side.TheVariants.{Above, Below}
use Rattle.order.specs.Search.{lowest_from, lowest, none}
use Rattle.order.specs.Order.{unmet, ready, next, among, taken, order}
use Rattle.book.specs.Lists.{any}
use Rattle.book.specs.Syntax.{node_of, clause_of}
use Rattle.book.specs.Records.{counted, records_from, records}
use Rattle.book.specs.Decode.{in_front, parse, scopes_of}
use Rattle.book.specs.Trees.{term_below, term_of, select, clause_terms, bases, has_rule, tree}
use Rattle.book.specs.Scopes.{calls, blocks}
use Rattle.book.specs.Judge.{judge}
use Rattle.book.specs.Steps.{step_count, reads, reads_any, step_of, clause_reads, depends_on, step_order}
use Rattle.evaluation.specs.Handing.{handing_by}
use Rattle.evaluation.specs.Run.{Entered, values, ended, run_steps_by, enter_by, run_scope}
use Rattle.evaluation.specs.Former.{former_run_scope, former_evaluate, EvaluationMeets}
use Rattle.evaluation.proofs.Former.{answers_kept}
use Rattle.translation.specs.Blocks.{code_of}
use Rattle.machine.specs.Service.{run}
use Rattle.agreement.proofs.Agreement.{run_agrees}

pub code_kept : (bytes : List ℕ) (n : ℕ) → judge bytes ≡ Ok n → (i : ℕ) (list : List ℕ) (room : ℕ) → (EvaluationMeets bytes i list room → ⊥)
    → run (code_of (scopes_of bytes)) i list room ≡ former_evaluate bytes i list room
code_kept bytes n accepted i list room never = run_agrees bytes n accepted i list room ∙ sym (answers_kept bytes i list room never)

abbrev books : List (List ℕ)
books =
    -- an empty override, beside the callee's own 9
    (1 ∷ 2 ∷ 2 ∷ 5 ∷ 0 ∷ 0 ∷ 0 ∷ 9 ∷ 19 ∷ 255 ∷ 0 ∷ 255 ∷ 255 ∷ 0 ∷ 1 ∷ 2 ∷ 2 ∷ 3 ∷ 0 ∷ 8 ∷ 2 ∷ 7 ∷ 0 ∷ 0 ∷ 19 ∷ 0 ∷ 0 ∷ 255 ∷ 255 ∷ 0 ∷ 19 ∷ 255 ∷ 0 ∷ 255 ∷ 255 ∷ 1 ∷ [])
    -- an empty operand deep inside the override
    ∷ (1 ∷ 2 ∷ 2 ∷ 5 ∷ 0 ∷ 0 ∷ 0 ∷ 9 ∷ 19 ∷ 255 ∷ 0 ∷ 255 ∷ 255 ∷ 0 ∷ 1 ∷ 2 ∷ 2 ∷ 3 ∷ 0 ∷ 5 ∷ 0 ∷ 0 ∷ 0 ∷ 4 ∷ 8 ∷ 2 ∷ 13 ∷ 0 ∷ 1 ∷ 7 ∷ 0 ∷ 0 ∷ 19 ∷ 0 ∷ 0 ∷ 255 ∷ 255 ∷ 2 ∷ 19 ∷ 255 ∷ 0 ∷ 255 ∷ 255 ∷ 3 ∷ [])
    -- an override in conflict
    ∷ (1 ∷ 2 ∷ 2 ∷ 5 ∷ 0 ∷ 0 ∷ 0 ∷ 9 ∷ 19 ∷ 255 ∷ 0 ∷ 255 ∷ 255 ∷ 0 ∷ 1 ∷ 2 ∷ 2 ∷ 3 ∷ 0 ∷ 9 ∷ 2 ∷ 7 ∷ 0 ∷ 0 ∷ 19 ∷ 0 ∷ 0 ∷ 255 ∷ 255 ∷ 0 ∷ 19 ∷ 255 ∷ 0 ∷ 255 ∷ 255 ∷ 1 ∷ [])
    -- an empty override, then one in conflict
    ∷ (1 ∷ 2 ∷ 2 ∷ 2 ∷ 2 ∷ 5 ∷ 0 ∷ 0 ∷ 0 ∷ 9 ∷ 5 ∷ 0 ∷ 0 ∷ 0 ∷ 8 ∷ 19 ∷ 255 ∷ 0 ∷ 255 ∷ 255 ∷ 0 ∷ 19 ∷ 255 ∷ 1 ∷ 255 ∷ 255 ∷ 1 ∷ 1 ∷ 2 ∷ 2 ∷ 3 ∷ 0 ∷ 8 ∷ 2 ∷ 9 ∷ 2 ∷ 7 ∷ 0 ∷ 0 ∷ 19 ∷ 0 ∷ 0 ∷ 255 ∷ 255 ∷ 0 ∷ 19 ∷ 0 ∷ 1 ∷ 255 ∷ 255 ∷ 1 ∷ 19 ∷ 255 ∷ 0 ∷ 255 ∷ 255 ∷ 2 ∷ [])
    -- an empty override of a variable without clauses
    ∷ (1 ∷ 2 ∷ 2 ∷ 1 ∷ 2 ∷ 2 ∷ 3 ∷ 0 ∷ 8 ∷ 2 ∷ 7 ∷ 0 ∷ 0 ∷ 19 ∷ 0 ∷ 0 ∷ 255 ∷ 255 ∷ 0 ∷ 19 ∷ 255 ∷ 0 ∷ 255 ∷ 255 ∷ 1 ∷ [])
    -- a rule whose condition is empty, as an override
    ∷ (1 ∷ 2 ∷ 1 ∷ 4 ∷ 1 ∷ 19 ∷ 255 ∷ 0 ∷ 255 ∷ 255 ∷ 0 ∷ 1 ∷ 2 ∷ 1 ∷ 3 ∷ 0 ∷ 8 ∷ 1 ∷ 7 ∷ 0 ∷ 0 ∷ 20 ∷ 0 ∷ 0 ∷ 255 ∷ 0 ∷ 1 ∷ 19 ∷ 255 ∷ 0 ∷ 255 ∷ 255 ∷ 1 ∷ [])
    -- an override with a value, of a scope that ends empty itself
    ∷ (1 ∷ 2 ∷ 2 ∷ 2 ∷ 2 ∷ 5 ∷ 0 ∷ 0 ∷ 0 ∷ 1 ∷ 19 ∷ 255 ∷ 1 ∷ 255 ∷ 255 ∷ 0 ∷ 1 ∷ 2 ∷ 2 ∷ 3 ∷ 0 ∷ 5 ∷ 0 ∷ 0 ∷ 0 ∷ 5 ∷ 7 ∷ 0 ∷ 0 ∷ 19 ∷ 0 ∷ 1 ∷ 255 ∷ 255 ∷ 0 ∷ 19 ∷ 255 ∷ 0 ∷ 255 ∷ 255 ∷ 1 ∷ [])
    -- an empty variable of the caller's own
    ∷ (1 ∷ 2 ∷ 2 ∷ 5 ∷ 0 ∷ 0 ∷ 0 ∷ 9 ∷ 19 ∷ 255 ∷ 0 ∷ 255 ∷ 255 ∷ 0 ∷ 1 ∷ 2 ∷ 2 ∷ 3 ∷ 0 ∷ 8 ∷ 2 ∷ 8 ∷ 2 ∷ 19 ∷ 0 ∷ 0 ∷ 255 ∷ 255 ∷ 0 ∷ 19 ∷ 255 ∷ 0 ∷ 255 ∷ 255 ∷ 1 ∷ [])
    -- an override above the range
    ∷ (1 ∷ 2 ∷ 2 ∷ 5 ∷ 0 ∷ 0 ∷ 0 ∷ 9 ∷ 19 ∷ 255 ∷ 0 ∷ 255 ∷ 255 ∷ 0 ∷ 1 ∷ 2 ∷ 2 ∷ 3 ∷ 0 ∷ 5 ∷ 127 ∷ 255 ∷ 255 ∷ 255 ∷ 5 ∷ 0 ∷ 0 ∷ 0 ∷ 1 ∷ 13 ∷ 0 ∷ 1 ∷ 7 ∷ 0 ∷ 0 ∷ 19 ∷ 0 ∷ 0 ∷ 255 ∷ 255 ∷ 2 ∷ 19 ∷ 255 ∷ 0 ∷ 255 ∷ 255 ∷ 3 ∷ [])
    -- an override below it
    ∷ (1 ∷ 2 ∷ 2 ∷ 5 ∷ 0 ∷ 0 ∷ 0 ∷ 9 ∷ 19 ∷ 255 ∷ 0 ∷ 255 ∷ 255 ∷ 0 ∷ 1 ∷ 2 ∷ 2 ∷ 3 ∷ 0 ∷ 5 ∷ 128 ∷ 0 ∷ 0 ∷ 0 ∷ 5 ∷ 255 ∷ 255 ∷ 255 ∷ 255 ∷ 13 ∷ 0 ∷ 1 ∷ 7 ∷ 0 ∷ 0 ∷ 19 ∷ 0 ∷ 0 ∷ 255 ∷ 255 ∷ 2 ∷ 19 ∷ 255 ∷ 0 ∷ 255 ∷ 255 ∷ 3 ∷ [])
    -- an empty override in a scope that is called
    ∷ (1 ∷ 2 ∷ 2 ∷ 5 ∷ 0 ∷ 0 ∷ 0 ∷ 9 ∷ 19 ∷ 255 ∷ 0 ∷ 255 ∷ 255 ∷ 0 ∷ 1 ∷ 2 ∷ 2 ∷ 3 ∷ 2 ∷ 7 ∷ 0 ∷ 0 ∷ 19 ∷ 255 ∷ 0 ∷ 255 ∷ 255 ∷ 0 ∷ 1 ∷ 2 ∷ 2 ∷ 3 ∷ 0 ∷ 8 ∷ 2 ∷ 7 ∷ 0 ∷ 0 ∷ 19 ∷ 0 ∷ 0 ∷ 255 ∷ 255 ∷ 0 ∷ 19 ∷ 255 ∷ 0 ∷ 255 ∷ 255 ∷ 1 ∷ [])
    ∷ []

abbrev formerly : List Entered
formerly =
    ended Empty 1
    ∷ ended Empty 1
    ∷ ended Conflict 1
    ∷ ended Empty 1
    ∷ ended Empty 1
    ∷ values (Truth false ∷ []) 2
    ∷ ended Empty 2
    ∷ ended Empty 1
    ∷ ended (OutOfRange Above) 1
    ∷ ended (OutOfRange Below) 1
    ∷ ended Empty 2
    ∷ []

abbrev amended : List Entered
amended =
    values (Number (pos 9) ∷ []) 2
    ∷ values (Number (pos 9) ∷ []) 2
    ∷ ended Conflict 1
    ∷ ended Conflict 1
    ∷ ended Empty 2
    ∷ values (Truth false ∷ []) 2
    ∷ ended Empty 2
    ∷ ended Empty 1
    ∷ ended (OutOfRange Above) 1
    ∷ ended (OutOfRange Below) 1
    ∷ values (Number (pos 9) ∷ []) 3
    ∷ []

pub former_runs : map (λ b. former_run_scope (scopes_of b) 1 []) books ≡ formerly
unfolding scopes_of parse in_front records records_from counted shape_in shapes_of kinds node_of clause_of number_at big_endian blocks calls among order taken next lowest lowest_from ready unmet none step_order step_count depends_on step_of clause_reads reads reads_any any tree bases has_rule clause_terms select term_of term_below eval exceptions handing_by run_steps_by enter_by
former_runs = refl

pub amended_runs : map (λ b. run_scope (scopes_of b) 1 []) books ≡ amended
unfolding scopes_of parse in_front records records_from counted shape_in shapes_of kinds node_of clause_of number_at big_endian blocks calls among order taken next lowest lowest_from ready unmet none step_order step_count depends_on step_of clause_reads reads reads_any any tree bases has_rule clause_terms select term_of term_below eval exceptions handing_by run_steps_by enter_by
amended_runs = refl
