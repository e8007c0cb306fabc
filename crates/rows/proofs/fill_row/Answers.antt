-- `rows::fill_row` meets its contract.
use mathlib.Core.Path.{◌∙◌}
use native.Mathlib.Omega.{arith}
use Rattle.rows.proofs.Clearing.{cleared_so}
use Rattle.rows.proofs.Row.{runs, same_size, short, row_so}
use Rattle.rows.proofs.fill_row.Goals as goal

pub run_loaded-answer-requires : goal.run_loaded-answer-requires
run_loaded-answer-requires c = runs c.requires

pub overflow_add-answer_length : goal.overflow_add-answer_length
overflow_add-answer_length c = omega (arith, short c.requires c.run_loaded-answer.ensures.replied c.answer_length.ensures)

pub slice_bounds-fill-count : goal.slice_bounds-fill-count
slice_bounds-fill-count c =
    rw (same_size c.requires c.run_loaded-answer.ensures.replied c.answer_outcome.result c.run_loaded-answer.auto.results)
    (short c.requires c.run_loaded-answer.ensures.replied c.answer_length.ensures)

pub slice_bounds-fill-start : goal.slice_bounds-fill-start
slice_bounds-fill-start c =
    rw (same_size c.requires c.run_loaded-answer.ensures.replied c.answer_outcome.result c.run_loaded-answer.auto.results)
    (short c.requires c.run_loaded-answer.ensures.replied c.answer_length.ensures)

pub returns-clause-row_after : goal.returns-clause-row_after
returns-clause-row_after c =
    cleared_so _ c.fill.new.self _ (c.fill.ensures.after (λ y e. e))
    ∙ row_so c.requires c.run_loaded-answer.ensures.replied c.answer_outcome.ensures c.answer_length.ensures
