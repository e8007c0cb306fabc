-- `checks::check_clause` meets its contract.
use Rattle.sharing.proofs.Marks.{marked_unless}
use Rattle.checks.proofs.Clause.{clause_named, clause_fits_lem}
use Rattle.checks.proofs.check_clause.Goals as goal

pub returns : goal.returns
returns c =
    let owner = c.target_scope-owner.ensures in
    let first = c.check_condition-first.ensures in
    let second = c.check_consequence-second.ensures in
    record {
      named =
          clause_named _ _ _ _ owner c.sub_scope_count.ensures c.none_or_below.ensures c.variable_count.ensures
          c.below.ensures c.names_parent-follows.ensures c.node_count-nodes.ensures first.named second.named;
      shared = marked_unless c.args.clause.condition first.shared second.shared;
      fitting = clause_fits_lem _ _ _ _ owner c.own_type-wanted.ensures first.fitting second.fitting;
    }
