-- `emitter::emit_rest` meets its contract.
use native.Mathlib.Omega.{arith}
use Rattle.emitter.proofs.Terms.{told, rest_same, rest_size, emits_rest, emits_branches}
use mathlib.Core.Path.{refl, ◌∙◌}
use Rattle.emitter.proofs.emit_rest.Goals as goal

pub put_one-p-requires : goal.put_one-p-requires
put_one-p-requires c =
    omega (arith, rest_size c.args.book.now.bytes.now c.args.i c.args.c _ c.clause_at-clause.ensures, c.requires)

pub put_far-q-requires : goal.put_far-q-requires
put_far-q-requires c =
    omega (arith, rest_size c.args.book.now.bytes.now c.args.i c.args.c _ c.clause_at-clause.ensures, c.requires, c.put_one-p.ensures.next)

pub emit_consequence-r-requires : goal.emit_consequence-r-requires
emit_consequence-r-requires c =
    omega (arith, rest_size c.args.book.now.bytes.now c.args.i c.args.c _ c.clause_at-clause.ensures, c.requires, c.put_one-p.ensures.next, c.put_far-q.ensures.next)

pub overflow_sub-r : goal.overflow_sub-r
overflow_sub-r c =
    omega (arith, c.emit_consequence-r.ensures.next)

pub overflow_add-r : goal.overflow_add-r
overflow_add-r c =
    omega (arith, rest_size c.args.book.now.bytes.now c.args.i c.args.c _ c.clause_at-clause.ensures, c.requires, c.put_one-p.ensures.next, c.put_far-q.ensures.next, c.emit_consequence-r.ensures.next)

pub put_far-s-requires : goal.put_far-s-requires
put_far-s-requires c =
    omega (arith, rest_size c.args.book.now.bytes.now c.args.i c.args.c _ c.clause_at-clause.ensures, c.requires, c.put_one-p.ensures.next, c.put_far-q.ensures.next, c.emit_consequence-r.ensures.next)

pub emit_condition-requires : goal.emit_condition-requires
emit_condition-requires c =
    omega (arith, rest_size c.args.book.now.bytes.now c.args.i c.args.c _ c.clause_at-clause.ensures, c.requires, c.put_one-p.ensures.next, c.put_far-q.ensures.next, c.emit_consequence-r.ensures.next, c.put_far-s.ensures.next)

pub shape_of-out : goal.shape_of-out
shape_of-out c =
    c.emit_condition.ensures.same ∙ c.put_far-s.ensures.same ∙ c.emit_consequence-r.ensures.same ∙ c.put_far-q.ensures.same ∙ c.put_one-p.ensures.same

pub returns : goal.returns
returns c =
    told (rest_same _ _ _ _ c.clause_at-clause.ensures) (emits_rest _ _ c.put_one-p.ensures (emits_branches _ _ _ _ c.put_far-q.ensures c.emit_consequence-r.ensures refl c.put_far-s.ensures c.emit_condition.ensures))
