-- `emitter::emit_around` and `emit_chain` meet their contracts. The numbers of clauses rise along the calls.
use mathlib.Core.Path.{refl, ◌∙◌}
use native.Mathlib.Omega.{arith}
use Rattle.emitter.proofs.Terms.{size_also, size_around, around_none, around_also, emits_none, emits_also}
use Rattle.emitter.proofs.Chains.{few, siblings_past, siblings_here, next_higher, first_higher, clause_size, emits_clause}
use Rattle.emitter.proofs.+emit_around_emit_chain.Goals as goal

pub emit_around-returns-then-clause_count-first : goal.emit_around-returns-then-clause_count-first
emit_around-returns-then-clause_count-first t c =
    around_none _ (siblings_past _ _ _ (omega (arith, c.clause_count.ensures, c.if-clause_count-first.true)))

pub emit_around-put_far-p-requires : goal.emit_around-put_far-p-requires
emit_around-put_far-p-requires t c =
    omega (arith, size_around (siblings_here _ _ _ c.args.i c.requires.0 c.args.first (omega (arith, c.clause_count.ensures, c.if-clause_count-first.false)) _ refl), c.requires.1)

pub emit_around-emit_chain-q-requires : goal.emit_around-emit_chain-q-requires
emit_around-emit_chain-q-requires t c =
    (omega (arith, c.decreases), (c.requires.0, omega (arith, size_around (siblings_here _ _ _ c.args.i c.requires.0 c.args.first (omega (arith, c.clause_count.ensures, c.if-clause_count-first.false)) _ refl), c.requires.1, c.put_far-p.ensures.next)))

pub emit_around-put_one-requires : goal.emit_around-put_one-requires
emit_around-put_one-requires t c =
    omega (arith, size_around (siblings_here _ _ _ c.args.i c.requires.0 c.args.first (omega (arith, c.clause_count.ensures, c.if-clause_count-first.false)) _ refl), c.requires.1, c.put_far-p.ensures.next, c.emit_chain-q.ensures.next)

pub emit_around-shape_of-out : goal.emit_around-shape_of-out
emit_around-shape_of-out t c =
    c.put_one.ensures.same ∙ c.emit_chain-q.ensures.same ∙ c.put_far-p.ensures.same

pub emit_around-returns : goal.emit_around-returns
emit_around-returns t c =
    around_also _ (siblings_here _ _ _ c.args.i c.requires.0 c.args.first (omega (arith, c.clause_count.ensures, c.if-clause_count-first.false)) _ refl) c.put_far-p.ensures c.emit_chain-q.ensures c.put_one.ensures

pub emit_chain-returns-then-clause_count-c : goal.emit_chain-returns-then-clause_count-c
emit_chain-returns-then-clause_count-c t c =
    emits_none (siblings_past _ _ _ (omega (arith, c.clause_count.ensures, c.if-clause_count-c.true)))

pub emit_chain-overflow_add-c : goal.emit_chain-overflow_add-c
emit_chain-overflow_add-c t c =
    omega (arith, few _ _ _ c.args.i c.requires.0, c.clause_count.ensures, c.if-clause_count-c.false)

pub emit_chain-overflow_add-c-2 : goal.emit_chain-overflow_add-c-2
emit_chain-overflow_add-c-2 t c =
    omega (arith, few _ _ _ c.args.i c.requires.0, c.clause_count.ensures, c.if-clause_count-c.false)

pub emit_chain-emit_chain-p-requires : goal.emit_chain-emit_chain-p-requires
emit_chain-emit_chain-p-requires t c =
    (omega (arith, next_higher _ _ _ c.args.i c.requires.0 c.args.c (omega (arith, c.clause_count.ensures, c.if-clause_count-c.false)) _ c.byte_at-next.ensures, few _ _ _ c.args.i c.requires.0, c.clause_count.ensures, c.if-clause_count-c.false, c.decreases), (c.requires.0, omega (arith, size_also (siblings_here _ _ _ c.args.i c.requires.0 c.args.c (omega (arith, c.clause_count.ensures, c.if-clause_count-c.false)) _ c.byte_at-next.ensures), clause_size _ _ _ c.args.i c.requires.0 c.args.c (omega (arith, c.clause_count.ensures, c.if-clause_count-c.false)) _ c.byte_at-first.ensures, c.requires.1)))

pub emit_chain-put_caught-q-requires : goal.emit_chain-put_caught-q-requires
emit_chain-put_caught-q-requires t c =
    omega (arith, size_also (siblings_here _ _ _ c.args.i c.requires.0 c.args.c (omega (arith, c.clause_count.ensures, c.if-clause_count-c.false)) _ c.byte_at-next.ensures), clause_size _ _ _ c.args.i c.requires.0 c.args.c (omega (arith, c.clause_count.ensures, c.if-clause_count-c.false)) _ c.byte_at-first.ensures, c.requires.1, c.emit_chain-p.ensures.next)

pub emit_chain-emit_rest-r-requires : goal.emit_chain-emit_rest-r-requires
emit_chain-emit_rest-r-requires t c =
    omega (arith, size_also (siblings_here _ _ _ c.args.i c.requires.0 c.args.c (omega (arith, c.clause_count.ensures, c.if-clause_count-c.false)) _ c.byte_at-next.ensures), clause_size _ _ _ c.args.i c.requires.0 c.args.c (omega (arith, c.clause_count.ensures, c.if-clause_count-c.false)) _ c.byte_at-first.ensures, c.requires.1, c.emit_chain-p.ensures.next, c.put_caught-q.ensures.next)

pub emit_chain-overflow_sub-r : goal.emit_chain-overflow_sub-r
emit_chain-overflow_sub-r t c =
    omega (arith, c.emit_rest-r.ensures.next)

pub emit_chain-emit_around-s-requires : goal.emit_chain-emit_around-s-requires
emit_chain-emit_around-s-requires t c =
    (omega (arith, first_higher _ _ _ c.args.i c.requires.0 c.args.c (omega (arith, c.clause_count.ensures, c.if-clause_count-c.false)) _ c.byte_at-first.ensures, few _ _ _ c.args.i c.requires.0, c.clause_count.ensures, c.if-clause_count-c.false, c.decreases), (c.requires.0, omega (arith, size_also (siblings_here _ _ _ c.args.i c.requires.0 c.args.c (omega (arith, c.clause_count.ensures, c.if-clause_count-c.false)) _ c.byte_at-next.ensures), clause_size _ _ _ c.args.i c.requires.0 c.args.c (omega (arith, c.clause_count.ensures, c.if-clause_count-c.false)) _ c.byte_at-first.ensures, c.requires.1, c.emit_chain-p.ensures.next, c.put_caught-q.ensures.next, c.emit_rest-r.ensures.next)))

pub emit_chain-overflow_sub-s : goal.emit_chain-overflow_sub-s
emit_chain-overflow_sub-s t c =
    omega (arith, c.emit_rest-r.ensures.next, c.emit_around-s.ensures.next)

pub emit_chain-overflow_add-s : goal.emit_chain-overflow_add-s
emit_chain-overflow_add-s t c =
    omega (arith, size_also (siblings_here _ _ _ c.args.i c.requires.0 c.args.c (omega (arith, c.clause_count.ensures, c.if-clause_count-c.false)) _ c.byte_at-next.ensures), clause_size _ _ _ c.args.i c.requires.0 c.args.c (omega (arith, c.clause_count.ensures, c.if-clause_count-c.false)) _ c.byte_at-first.ensures, c.requires.1, c.emit_chain-p.ensures.next, c.put_caught-q.ensures.next, c.emit_rest-r.ensures.next, c.emit_around-s.ensures.next)

pub emit_chain-put_far-requires : goal.emit_chain-put_far-requires
emit_chain-put_far-requires t c =
    omega (arith, size_also (siblings_here _ _ _ c.args.i c.requires.0 c.args.c (omega (arith, c.clause_count.ensures, c.if-clause_count-c.false)) _ c.byte_at-next.ensures), clause_size _ _ _ c.args.i c.requires.0 c.args.c (omega (arith, c.clause_count.ensures, c.if-clause_count-c.false)) _ c.byte_at-first.ensures, c.requires.1, c.emit_chain-p.ensures.next, c.put_caught-q.ensures.next, c.emit_rest-r.ensures.next, c.emit_around-s.ensures.next)

pub emit_chain-shape_of-out : goal.emit_chain-shape_of-out
emit_chain-shape_of-out t c =
    c.put_far.ensures.same ∙ c.emit_around-s.ensures.same ∙ c.emit_rest-r.ensures.same ∙ c.put_caught-q.ensures.same ∙ c.emit_chain-p.ensures.same

pub emit_chain-returns : goal.emit_chain-returns
emit_chain-returns t c =
    emits_also (siblings_here _ _ _ c.args.i c.requires.0 c.args.c (omega (arith, c.clause_count.ensures, c.if-clause_count-c.false)) _ c.byte_at-next.ensures) c.emit_chain-p.ensures c.put_caught-q.ensures
    (emits_clause _ _ _ c.args.i c.requires.0 c.args.c (omega (arith, c.clause_count.ensures, c.if-clause_count-c.false)) _ c.byte_at-first.ensures c.emit_rest-r.ensures refl c.emit_around-s.ensures) refl c.put_far.ensures
