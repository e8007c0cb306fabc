-- `checks::check_scope` meets its contract.
use mathlib.Core.Path.{refl}
use Rattle.checks.proofs.Passes.{sub_scope_wrong, node_wrong, scope_passed}
use Rattle.checks.proofs.check_scope.Goals as goal

pub returns-then-sub_scope_dangles : goal.returns-then-sub_scope_dangles
returns-then-sub_scope_dangles c = sub_scope_wrong _ c.sub_scope_dangles.ensures c.if-sub_scope_dangles.true

pub returns-in_err-found : goal.returns-in_err-found
returns-in_err-found c =
    rw c.from_residual.ensures (node_wrong _ c.sub_scope_dangles.ensures c.if-sub_scope_dangles.false c.check_nodes.ensures c.in_err-found.was)

pub check_clauses-requires : goal.check_clauses-requires
check_clauses-requires c = c.check_nodes.ensures.typed _ c.in_ok-found.was

pub returns : goal.returns
returns c =
    scope_passed _ c.sub_scope_dangles.ensures c.if-sub_scope_dangles.false c.check_nodes.ensures c.in_ok-found.was refl c.check_clauses.ensures
