-- `checks::check_node` meets its contract.
use mathlib.Core.Path.{refl, ap}
use Rattle.book.specs.References.{node_names}
use Rattle.typing.specs.Types.{own_type, called_type}
use Rattle.checks.specs.Findings.{byte_of, type_byte, node_suits}
use Rattle.checks.proofs.Passes.{leaf_told}
use Rattle.checks.proofs.check_node.Goals as goal

pub returns-in-Constant : goal.returns-in-Constant
unfolding node_names node_suits type_byte
returns-in-Constant c = rw c.in-Constant.is (leaf_told _ _ _ c.check_leaf.ensures refl refl refl refl)

pub returns-in-Number : goal.returns-in-Number
unfolding node_names node_suits type_byte
returns-in-Number c = rw c.in-Number.is (leaf_told _ _ _ c.check_leaf-in-Number.ensures refl refl refl refl)

pub returns-in-Own : goal.returns-in-Own
unfolding node_names node_suits type_byte own_type
returns-in-Own c =
    rw c.in-Own.is
    (leaf_told _ _ _ c.check_leaf-in-Own.ensures (rw (← c.variable_count.ensures) c.below-names.ensures) refl refl (ap byte_of c.own_type.ensures))

pub returns-in-Called : goal.returns-in-Called
unfolding node_names node_suits type_byte called_type
returns-in-Called c =
    rw c.in-Called.is (leaf_told _ _ _ c.check_leaf-in-Called.ensures c.names_called-names.ensures refl refl (ap byte_of c.called_type.ensures))

pub returns-in-Empty : goal.returns-in-Empty
unfolding node_names node_suits type_byte
returns-in-Empty c = rw c.in-Empty.is (leaf_told _ _ _ c.check_leaf-in-Empty.ensures refl refl refl refl)

pub returns-in-Conflict : goal.returns-in-Conflict
unfolding node_names node_suits type_byte
returns-in-Conflict c = rw c.in-Conflict.is (leaf_told _ _ _ c.check_leaf-in-Conflict.ensures refl refl refl refl)

pub returns-in-Unary : goal.returns-in-Unary
returns-in-Unary c = rw c.in-Unary.is (c.check_unary.ensures.told _ _)

pub returns-in-Binary : goal.returns-in-Binary
returns-in-Binary c = rw c.in-Binary.is (c.check_binary.ensures.told _ _)

pub returns-in-Choice : goal.returns-in-Choice
returns-in-Choice c = rw c.in-Choice.is (c.check_choice.ensures.told _ _)

pub returns-in-Default : goal.returns-in-Default
returns-in-Default c = rw c.in-Default.is (c.check_default.ensures.told _ _)
