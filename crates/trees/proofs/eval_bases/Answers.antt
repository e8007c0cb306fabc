-- `trees::eval_bases` meets its contract.
use Prim.Native.Nat.{◌+◌}
use mathlib.Core.Path.{refl, sym, ◌∙◌}
use native.Mathlib.Omega.{arith}
use lib.ListN.{get_or}
use Rattle.trees.proofs.Walks.{begin, clause_inside, readable_clause, single}
use Rattle.trees.proofs.eval_bases.Goals as goal

pub overflow_cast-c : goal.overflow_cast-c
overflow_cast-c c = omega (arith, c.type_inv.links c.args.cell)

pub bounds-row-c : goal.bounds-row-c
bounds-row-c c = clause_inside _ _ _ _ _ _ _ c.requires _ _ (begin _ _ _ _ _ _ _ c.requires _ refl) c.if-c-lt128.true

pub overflow_cast-at : goal.overflow_cast-at
overflow_cast-at c = omega (arith, c.type_inv.row (250 + get_or c.args.links.now c.args.cell 0))

pub settle_clause-o-requires : goal.settle_clause-o-requires
settle_clause-o-requires c = readable_clause _ _ _ _ _ _ _ c.requires _ _ (begin _ _ _ _ _ _ _ c.requires _ refl) c.if-c-lt128.true

pub returns-then-is_alone : goal.returns-then-is_alone
returns-then-is_alone c = single _ _ _ _ _ _ _ c.requires _ refl c.if-c-lt128.true (sym c.is_alone.ensures ∙ c.if-is_alone.true) _ _ c.settle_clause-o.ensures c.gather.ensures
