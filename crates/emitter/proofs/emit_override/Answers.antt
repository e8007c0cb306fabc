-- `emitter::emit_override` meets its contract.
use mathlib.Core.Path.{refl, sym, ◌∙◌}
use native.Mathlib.Omega.{arith}
use Rattle.emitter.proofs.Pieces.{override_none, override_size_lem, override_some}
use Rattle.emitter.proofs.emit_override.Goals as goal

pub returns-then-not-has_clause : goal.returns-then-not-has_clause
returns-then-not-has_clause c = override_none _ _ _ _ (sym c.has_clause.ensures ∙ c.if-not-has_clause.true)

pub put_two-p-requires : goal.put_two-p-requires
put_two-p-requires c = omega (arith, override_size_lem c.args.book.now.bytes.now c.args.i c.args.k c.args.v (sym c.has_clause.ensures ∙ c.if-not-has_clause.false), c.requires.1)

pub put_two-q-requires : goal.put_two-q-requires
put_two-q-requires c = omega (arith, override_size_lem c.args.book.now.bytes.now c.args.i c.args.k c.args.v (sym c.has_clause.ensures ∙ c.if-not-has_clause.false), c.requires.1, c.put_two-p.ensures.next)

pub emit_tree-r-requires : goal.emit_tree-r-requires
emit_tree-r-requires c = (c.requires.0, omega (arith, override_size_lem c.args.book.now.bytes.now c.args.i c.args.k c.args.v (sym c.has_clause.ensures ∙ c.if-not-has_clause.false), c.requires.1, c.put_two-p.ensures.next, c.put_two-q.ensures.next))

pub put_far-requires : goal.put_far-requires
put_far-requires c = omega (arith, override_size_lem c.args.book.now.bytes.now c.args.i c.args.k c.args.v (sym c.has_clause.ensures ∙ c.if-not-has_clause.false), c.requires.1, c.put_two-p.ensures.next, c.put_two-q.ensures.next, c.emit_tree-r.ensures.next)

pub returns : goal.returns
returns c =
    override_some _ _ _ _ (sym c.has_clause.ensures ∙ c.if-not-has_clause.false) c.put_two-p.ensures c.put_two-q.ensures c.emit_tree-r.ensures refl c.put_far.ensures
