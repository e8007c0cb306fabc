-- `instructions::suits` meets its contract.
use mathlib.Core.Path.{◌∙◌}
use Rattle.std.proofs.lemmas.Bool.{not_from_true, not_from_false}
use Rattle.instructions.proofs.Stack.{suits_not, suits_both}
use Rattle.instructions.proofs.suits.Goals as goal

pub returns-else-has_type : goal.returns-else-has_type
returns-else-has_type c = c.if-has_type.false ∙ suits_not c.args.op c.args.v c.args.w c.type_in.ensures c.operand_type-wanted.ensures c.has_type.ensures (not_from_false _ c.if-has_type.false)

pub returns-then-has_type : goal.returns-then-has_type
returns-then-has_type c = suits_both c.args.op c.args.v c.args.w c.type_in.ensures c.operand_type-wanted.ensures c.has_type.ensures (not_from_true _ c.if-has_type.true) c.has_type-then-has_type.ensures
