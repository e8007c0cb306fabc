-- `checks::check_clauses` meets its contract. The invariant of its loop is `Clauses`.
use mathlib.Core.Path.{refl}
use Rattle.checks.proofs.Passes.{clauses_start, clause_dangles_lem, clause_turn, clauses_end}
use Rattle.checks.proofs.check_clauses.Goals as goal

pub loop-n-init : goal.loop-n-init
loop-n-init c = clauses_start _ _ _ _ _

pub returns-then-not-of_clause : goal.returns-then-not-of_clause
returns-then-not-of_clause c =
    clause_dangles_lem c.loop-n.invariant (rw (← c.clause_count-n-end.ensures) c.loop-n-test.true) c.clause_at-clause.ensures c.check_clause-of_clause.ensures
    c.if-not-of_clause.true

pub loop-n-preserved : goal.loop-n-preserved
loop-n-preserved c =
    clause_turn c.loop-n.invariant (rw (← c.clause_count-n-end.ensures) c.loop-n-test.true) c.clause_at-clause.ensures c.check_clause-of_clause.ensures
    c.if-not-of_clause.false c.requires

pub returns : goal.returns
returns c = clauses_end c.loop-n.invariant (rw (← c.clause_count-n-end.ensures) c.loop-n-test.false) _ refl refl
