-- `steps::own_clauses` meets its contract. The loop's invariant is `Rooting`.
use native.Mathlib.Omega.{arith}
use Rattle.steps.proofs.Reading.{few_rows}
use Rattle.steps.proofs.Roots.{rooting_start, rooting_turn, rooting_done}
use Rattle.steps.proofs.own_clauses.Goals as goal

pub loop-c-init : goal.loop-c-init
loop-c-init c = rooting_start _ _ (c.args.book.now.laid.within.nodes c.args.i) c.requires.0.sound _ c.requires.1

pub step_with-row-requires : goal.step_with-row-requires
step_with-row-requires c = rw c.variable_count-variables.ensures (c.args.book.now.laid.within.variables c.args.i)

pub overflow_cast-row : goal.overflow_cast-row
overflow_cast-row c =
    let few =
    few_rows _ _ _ c.requires.0.sound c.args.book.now.laid.within (rw (← c.clause_count-c-end.ensures) c.loop-c-test.true)
    _ c.clause_at-clause.ensures _ c.variable_count-variables.ensures in
    omega (arith, c.step_with-row.ensures)

pub loop-c-preserved : goal.loop-c-preserved
loop-c-preserved c =
    rooting_turn _ _ (c.args.book.now.laid.within.nodes c.args.i) c.requires.0.sound c.requires.0.single _ _ c.loop-c.invariant _ _ _ _
    (rw (← c.clause_count-c-end.ensures) c.loop-c-test.true) c.clause_at-clause.ensures c.variable_count-variables.ensures
    c.step_with-row.ensures c.own_clause.ensures

pub returns : goal.returns
returns c =
    rooting_done _ _ (c.args.book.now.laid.within.nodes c.args.i) c.requires.0.sound c.requires.0.single _ _ c.loop-c.invariant
    (rw (← c.clause_count-c-end.ensures) c.loop-c-test.false)
