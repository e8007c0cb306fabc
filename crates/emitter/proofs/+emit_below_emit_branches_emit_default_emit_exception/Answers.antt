-- `emitter::emit_below`, `emit_branches`, `emit_default` and `emit_exception` meet their contracts.
-- The limit falls from a node to its parts; at one limit a default comes before an exception and branches, these before a node.
use mathlib.Core.Path.{refl, sym, ◌∙◌}
use native.Mathlib.Omega.{arith}
use mir.Syntax.{w32}
use mir.Val.{SFits}
use mir.Facts.{to_z-of_z}
use Rattle.emitter.proofs.Terms.{below_past, below_here, told, room_same, size_error, size_truth, size_number, size_own, size_called}
use Rattle.emitter.proofs.Terms.{size_unary, size_binary, size_choice, emits_error, emits_own, emits_called, emits_unary, emits_binary}
use Rattle.emitter.proofs.Terms.{emits_choice, emits_branches, emits_also, emits_none, exception_none, exception_some, exception_size}
use Rattle.emitter.proofs.Terms.{default_same, default_size, default_sizes, default_plain, default_full}
use borrow.Author.Rules.{rules}
use Rattle.emitter.proofs.+emit_below_emit_branches_emit_default_emit_exception.Goals as goal

pub emit_below-put_one-requires : goal.emit_below-put_one-requires
emit_below-put_one-requires t c =
    omega (arith, size_error (below_past c.args.book.now.bytes.now c.args.i c.args.limit c.args.n c.if-limit-n.true), c.requires)

pub emit_below-shape_of-out-then-limit-n : goal.emit_below-shape_of-out-then-limit-n
emit_below-shape_of-out-then-limit-n t c =
    c.put_one.ensures.same

pub emit_below-returns-then-limit-n : goal.emit_below-returns-then-limit-n
emit_below-returns-then-limit-n t c =
    emits_error (below_past _ _ _ _ c.if-limit-n.true) refl c.put_one.ensures

pub emit_below-put_truth-requires : goal.emit_below-put_truth-requires
emit_below-put_truth-requires t c =
    omega (arith, size_truth (below_here c.args.book.now.bytes.now c.args.i c.args.limit c.args.n _ _ c.if-limit-n.false c.node_at-node.ensures c.in-Constant.is), c.requires)

pub emit_below-put_number-requires : goal.emit_below-put_number-requires
emit_below-put_number-requires t c =
    omega (arith, size_number (below_here c.args.book.now.bytes.now c.args.i c.args.limit c.args.n _ _ c.if-limit-n.false c.node_at-node.ensures c.in-Number.is), c.requires)

pub emit_below-put_two-requires : goal.emit_below-put_two-requires
emit_below-put_two-requires t c =
    omega (arith, size_own (below_here c.args.book.now.bytes.now c.args.i c.args.limit c.args.n _ _ c.if-limit-n.false c.node_at-node.ensures c.in-Own.is), c.requires)

pub emit_below-put_two-p-requires : goal.emit_below-put_two-p-requires
emit_below-put_two-p-requires t c =
    omega (arith, size_called (below_here c.args.book.now.bytes.now c.args.i c.args.limit c.args.n _ _ c.if-limit-n.false c.node_at-node.ensures c.in-Called.is), c.requires)

pub emit_below-put_one-requires-in-Called : goal.emit_below-put_one-requires-in-Called
emit_below-put_one-requires-in-Called t c =
    omega (arith, size_called (below_here c.args.book.now.bytes.now c.args.i c.args.limit c.args.n _ _ c.if-limit-n.false c.node_at-node.ensures c.in-Called.is), c.requires, c.put_two-p.ensures.next)

pub emit_below-put_one-requires-in-Empty : goal.emit_below-put_one-requires-in-Empty
emit_below-put_one-requires-in-Empty t c =
    omega (arith, size_error (below_here c.args.book.now.bytes.now c.args.i c.args.limit c.args.n _ _ c.if-limit-n.false c.node_at-node.ensures c.in-Empty.is), c.requires)

pub emit_below-put_one-requires-in-Conflict : goal.emit_below-put_one-requires-in-Conflict
emit_below-put_one-requires-in-Conflict t c =
    omega (arith, size_error (below_here c.args.book.now.bytes.now c.args.i c.args.limit c.args.n _ _ c.if-limit-n.false c.node_at-node.ensures c.in-Conflict.is), c.requires)

pub emit_below-put_one-p-requires : goal.emit_below-put_one-p-requires
emit_below-put_one-p-requires t c =
    omega (arith, size_unary (below_here c.args.book.now.bytes.now c.args.i c.args.limit c.args.n _ _ c.if-limit-n.false c.node_at-node.ensures c.in-Unary.is), c.requires)

pub emit_below-emit_below-requires : goal.emit_below-emit_below-requires
emit_below-emit_below-requires t c =
    (omega (arith, c.decreases, c.if-limit-n.false), omega (arith, size_unary (below_here c.args.book.now.bytes.now c.args.i c.args.limit c.args.n _ _ c.if-limit-n.false c.node_at-node.ensures c.in-Unary.is), c.requires, c.put_one-p.ensures.next))

pub emit_below-put_one-p-requires-in-Binary : goal.emit_below-put_one-p-requires-in-Binary
emit_below-put_one-p-requires-in-Binary t c =
    omega (arith, size_binary (below_here c.args.book.now.bytes.now c.args.i c.args.limit c.args.n _ _ c.if-limit-n.false c.node_at-node.ensures c.in-Binary.is), c.requires)

pub emit_below-emit_below-q-requires : goal.emit_below-emit_below-q-requires
emit_below-emit_below-q-requires t c =
    (omega (arith, c.decreases, c.if-limit-n.false), omega (arith, size_binary (below_here c.args.book.now.bytes.now c.args.i c.args.limit c.args.n _ _ c.if-limit-n.false c.node_at-node.ensures c.in-Binary.is), c.requires, c.put_one-p-in-Binary.ensures.next))

pub emit_below-emit_below-requires-in-Binary : goal.emit_below-emit_below-requires-in-Binary
emit_below-emit_below-requires-in-Binary t c =
    (omega (arith, c.decreases, c.if-limit-n.false), omega (arith, size_binary (below_here c.args.book.now.bytes.now c.args.i c.args.limit c.args.n _ _ c.if-limit-n.false c.node_at-node.ensures c.in-Binary.is), c.requires, c.put_one-p-in-Binary.ensures.next, c.emit_below-q.ensures.next))

pub emit_below-emit_below-p-requires : goal.emit_below-emit_below-p-requires
emit_below-emit_below-p-requires t c =
    (omega (arith, c.decreases, c.if-limit-n.false), omega (arith, size_choice (below_here c.args.book.now.bytes.now c.args.i c.args.limit c.args.n _ _ c.if-limit-n.false c.node_at-node.ensures c.in-Choice.is), c.requires))

pub emit_below-overflow_sub-p : goal.emit_below-overflow_sub-p
emit_below-overflow_sub-p t c =
    omega (arith, c.emit_below-p.ensures.next)

pub emit_below-emit_branches-requires : goal.emit_below-emit_branches-requires
emit_below-emit_branches-requires t c =
    (omega (arith, c.decreases, c.if-limit-n.false), omega (arith, size_choice (below_here c.args.book.now.bytes.now c.args.i c.args.limit c.args.n _ _ c.if-limit-n.false c.node_at-node.ensures c.in-Choice.is), c.requires, c.emit_below-p.ensures.next))

pub emit_below-emit_default-requires : goal.emit_below-emit_default-requires
emit_below-emit_default-requires t c =
    (omega (arith, c.decreases, c.if-limit-n.false), room_same _ _ _ (below_here c.args.book.now.bytes.now c.args.i c.args.limit c.args.n _ _ c.if-limit-n.false c.node_at-node.ensures c.in-Default.is ∙ default_same _ _ _ _ _ _ _ _) c.requires)

pub emit_below-shape_of-out-in-Constant : goal.emit_below-shape_of-out-in-Constant
emit_below-shape_of-out-in-Constant t c =
    c.put_truth.ensures.same

pub emit_below-returns-in-Constant : goal.emit_below-returns-in-Constant
emit_below-returns-in-Constant t c =
    told (below_here c.args.book.now.bytes.now c.args.i c.args.limit c.args.n _ _ c.if-limit-n.false c.node_at-node.ensures c.in-Constant.is) c.put_truth.ensures

pub emit_below-shape_of-out-in-Number : goal.emit_below-shape_of-out-in-Number
emit_below-shape_of-out-in-Number t c =
    c.put_number.ensures.same

pub emit_below-returns-in-Number : goal.emit_below-returns-in-Number
emit_below-returns-in-Number t c =
    let f : SFits w32 c.in-Number.z = search rules in
    told (below_here c.args.book.now.bytes.now c.args.i c.args.limit c.args.n _ _ c.if-limit-n.false c.node_at-node.ensures c.in-Number.is) (rw (to_z-of_z f) at c.put_number.ensures)

pub emit_below-shape_of-out-in-Own : goal.emit_below-shape_of-out-in-Own
emit_below-shape_of-out-in-Own t c =
    c.put_two.ensures.same

pub emit_below-returns-in-Own : goal.emit_below-returns-in-Own
emit_below-returns-in-Own t c =
    emits_own (below_here c.args.book.now.bytes.now c.args.i c.args.limit c.args.n _ _ c.if-limit-n.false c.node_at-node.ensures c.in-Own.is) c.put_two.ensures

pub emit_below-shape_of-out-in-Called : goal.emit_below-shape_of-out-in-Called
emit_below-shape_of-out-in-Called t c =
    c.put_one-in-Called.ensures.same ∙ c.put_two-p.ensures.same

pub emit_below-returns-in-Called : goal.emit_below-returns-in-Called
emit_below-returns-in-Called t c =
    emits_called (below_here c.args.book.now.bytes.now c.args.i c.args.limit c.args.n _ _ c.if-limit-n.false c.node_at-node.ensures c.in-Called.is) c.put_two-p.ensures c.put_one-in-Called.ensures

pub emit_below-shape_of-out-in-Empty : goal.emit_below-shape_of-out-in-Empty
emit_below-shape_of-out-in-Empty t c =
    c.put_one-in-Empty.ensures.same

pub emit_below-returns-in-Empty : goal.emit_below-returns-in-Empty
emit_below-returns-in-Empty t c =
    emits_error (below_here c.args.book.now.bytes.now c.args.i c.args.limit c.args.n _ _ c.if-limit-n.false c.node_at-node.ensures c.in-Empty.is) refl c.put_one-in-Empty.ensures

pub emit_below-shape_of-out-in-Conflict : goal.emit_below-shape_of-out-in-Conflict
emit_below-shape_of-out-in-Conflict t c =
    c.put_one-in-Conflict.ensures.same

pub emit_below-returns-in-Conflict : goal.emit_below-returns-in-Conflict
emit_below-returns-in-Conflict t c =
    emits_error (below_here c.args.book.now.bytes.now c.args.i c.args.limit c.args.n _ _ c.if-limit-n.false c.node_at-node.ensures c.in-Conflict.is) refl c.put_one-in-Conflict.ensures

pub emit_below-shape_of-out-in-Unary : goal.emit_below-shape_of-out-in-Unary
emit_below-shape_of-out-in-Unary t c =
    c.emit_below.ensures.same ∙ c.put_one-p.ensures.same

pub emit_below-returns-in-Unary : goal.emit_below-returns-in-Unary
emit_below-returns-in-Unary t c =
    emits_unary (below_here c.args.book.now.bytes.now c.args.i c.args.limit c.args.n _ _ c.if-limit-n.false c.node_at-node.ensures c.in-Unary.is) c.unary_kind.ensures c.put_one-p.ensures c.emit_below.ensures

pub emit_below-shape_of-out-in-Binary : goal.emit_below-shape_of-out-in-Binary
emit_below-shape_of-out-in-Binary t c =
    c.emit_below-in-Binary.ensures.same ∙ c.emit_below-q.ensures.same ∙ c.put_one-p-in-Binary.ensures.same

pub emit_below-returns-in-Binary : goal.emit_below-returns-in-Binary
emit_below-returns-in-Binary t c =
    emits_binary (below_here c.args.book.now.bytes.now c.args.i c.args.limit c.args.n _ _ c.if-limit-n.false c.node_at-node.ensures c.in-Binary.is) c.binary_kind.ensures c.put_one-p-in-Binary.ensures c.emit_below-q.ensures c.emit_below-in-Binary.ensures

pub emit_below-shape_of-out-in-Choice : goal.emit_below-shape_of-out-in-Choice
emit_below-shape_of-out-in-Choice t c =
    c.emit_branches.ensures.same ∙ c.emit_below-p.ensures.same

pub emit_below-returns-in-Choice : goal.emit_below-returns-in-Choice
emit_below-returns-in-Choice t c =
    emits_choice (below_here c.args.book.now.bytes.now c.args.i c.args.limit c.args.n _ _ c.if-limit-n.false c.node_at-node.ensures c.in-Choice.is) c.emit_below-p.ensures refl c.emit_branches.ensures

pub emit_below-shape_of-out-in-Default : goal.emit_below-shape_of-out-in-Default
emit_below-shape_of-out-in-Default t c =
    c.emit_default.ensures.same

pub emit_below-returns-in-Default : goal.emit_below-returns-in-Default
emit_below-returns-in-Default t c =
    told (below_here c.args.book.now.bytes.now c.args.i c.args.limit c.args.n _ _ c.if-limit-n.false c.node_at-node.ensures c.in-Default.is ∙ default_same c.args.book.now.bytes.now c.args.i c.args.n _ _ _ _ _) c.emit_default.ensures

pub emit_branches-put_far-p-requires : goal.emit_branches-put_far-p-requires
emit_branches-put_far-p-requires t c =
    omega (arith, c.requires)

pub emit_branches-emit_below-q-requires : goal.emit_branches-emit_below-q-requires
emit_branches-emit_below-q-requires t c =
    (omega (arith, c.decreases), omega (arith, c.requires, c.put_far-p.ensures.next))

pub emit_branches-overflow_sub-q : goal.emit_branches-overflow_sub-q
emit_branches-overflow_sub-q t c =
    omega (arith, c.emit_below-q.ensures.next)

pub emit_branches-overflow_add-q : goal.emit_branches-overflow_add-q
emit_branches-overflow_add-q t c =
    omega (arith, c.requires, c.put_far-p.ensures.next, c.emit_below-q.ensures.next)

pub emit_branches-put_far-r-requires : goal.emit_branches-put_far-r-requires
emit_branches-put_far-r-requires t c =
    omega (arith, c.requires, c.put_far-p.ensures.next, c.emit_below-q.ensures.next)

pub emit_branches-emit_below-requires : goal.emit_branches-emit_below-requires
emit_branches-emit_below-requires t c =
    (omega (arith, c.decreases), omega (arith, c.requires, c.put_far-p.ensures.next, c.emit_below-q.ensures.next, c.put_far-r.ensures.next))

pub emit_branches-shape_of-out : goal.emit_branches-shape_of-out
emit_branches-shape_of-out t c =
    c.emit_below.ensures.same ∙ c.put_far-r.ensures.same ∙ c.emit_below-q.ensures.same ∙ c.put_far-p.ensures.same

pub emit_branches-returns : goal.emit_branches-returns
emit_branches-returns t c =
    emits_branches _ _ _ _ c.put_far-p.ensures c.emit_below-q.ensures refl c.put_far-r.ensures c.emit_below.ensures

pub emit_default-put_one-p-requires : goal.emit_default-put_one-p-requires
emit_default-put_one-p-requires t c =
    omega (arith, default_size c.args.book.now.bytes.now c.args.i c.args.limit c.args.d.first c.args.d.second c.args.d.third c.args.d.justification c.args.d.consequence, c.requires)

pub emit_default-emit_branches-q-requires : goal.emit_default-emit_branches-q-requires
emit_default-emit_branches-q-requires t c =
    (omega (arith, c.decreases), omega (arith, default_size c.args.book.now.bytes.now c.args.i c.args.limit c.args.d.first c.args.d.second c.args.d.third c.args.d.justification c.args.d.consequence, c.requires, c.put_one-p.ensures.next))

pub emit_default-shape_of-out-then-no_exception : goal.emit_default-shape_of-out-then-no_exception
emit_default-shape_of-out-then-no_exception t c =
    c.emit_branches-q.ensures.same ∙ c.put_one-p.ensures.same

pub emit_default-returns-then-no_exception : goal.emit_default-returns-then-no_exception
emit_default-returns-then-no_exception t c =
    default_plain _ _ _ _ _ _ _ _ (sym c.no_exception.ensures ∙ c.if-no_exception.true) c.put_one-p.ensures c.emit_branches-q.ensures

pub emit_default-overflow_sub-q : goal.emit_default-overflow_sub-q
emit_default-overflow_sub-q t c =
    omega (arith, c.put_one-p.ensures.next, c.emit_branches-q.ensures.next)

pub emit_default-put_far-r-requires : goal.emit_default-put_far-r-requires
emit_default-put_far-r-requires t c =
    omega (arith, default_sizes c.args.book.now.bytes.now c.args.i c.args.limit c.args.d.first c.args.d.second c.args.d.third c.args.d.justification c.args.d.consequence (sym c.no_exception.ensures ∙ c.if-no_exception.false), c.requires, c.put_one-p.ensures.next, c.emit_branches-q.ensures.next)

pub emit_default-emit_exception-s-requires : goal.emit_default-emit_exception-s-requires
emit_default-emit_exception-s-requires t c =
    (omega (arith, c.decreases), omega (arith, default_sizes c.args.book.now.bytes.now c.args.i c.args.limit c.args.d.first c.args.d.second c.args.d.third c.args.d.justification c.args.d.consequence (sym c.no_exception.ensures ∙ c.if-no_exception.false), c.requires, c.put_one-p.ensures.next, c.emit_branches-q.ensures.next, c.put_far-r.ensures.next))

pub emit_default-emit_exception-t-requires : goal.emit_default-emit_exception-t-requires
emit_default-emit_exception-t-requires t c =
    (omega (arith, c.decreases), omega (arith, default_sizes c.args.book.now.bytes.now c.args.i c.args.limit c.args.d.first c.args.d.second c.args.d.third c.args.d.justification c.args.d.consequence (sym c.no_exception.ensures ∙ c.if-no_exception.false), c.requires, c.put_one-p.ensures.next, c.emit_branches-q.ensures.next, c.put_far-r.ensures.next, c.emit_exception-s.ensures.next))

pub emit_default-emit_exception-u-requires : goal.emit_default-emit_exception-u-requires
emit_default-emit_exception-u-requires t c =
    (omega (arith, c.decreases), omega (arith, default_sizes c.args.book.now.bytes.now c.args.i c.args.limit c.args.d.first c.args.d.second c.args.d.third c.args.d.justification c.args.d.consequence (sym c.no_exception.ensures ∙ c.if-no_exception.false), c.requires, c.put_one-p.ensures.next, c.emit_branches-q.ensures.next, c.put_far-r.ensures.next, c.emit_exception-s.ensures.next, c.emit_exception-t.ensures.next))

pub emit_default-put_one-requires : goal.emit_default-put_one-requires
emit_default-put_one-requires t c =
    omega (arith, default_sizes c.args.book.now.bytes.now c.args.i c.args.limit c.args.d.first c.args.d.second c.args.d.third c.args.d.justification c.args.d.consequence (sym c.no_exception.ensures ∙ c.if-no_exception.false), c.requires, c.put_one-p.ensures.next, c.emit_branches-q.ensures.next, c.put_far-r.ensures.next, c.emit_exception-s.ensures.next, c.emit_exception-t.ensures.next, c.emit_exception-u.ensures.next)

pub emit_default-shape_of-out : goal.emit_default-shape_of-out
emit_default-shape_of-out t c =
    c.put_one.ensures.same ∙ c.emit_exception-u.ensures.same ∙ c.emit_exception-t.ensures.same ∙ c.emit_exception-s.ensures.same ∙ c.put_far-r.ensures.same ∙ c.emit_branches-q.ensures.same ∙ c.put_one-p.ensures.same

pub emit_default-returns : goal.emit_default-returns
emit_default-returns t c =
    default_full _ _ _ _ _ _ _ _ (sym c.no_exception.ensures ∙ c.if-no_exception.false) c.put_one-p.ensures c.emit_branches-q.ensures refl c.put_far-r.ensures c.emit_exception-s.ensures c.emit_exception-t.ensures c.emit_exception-u.ensures c.put_one.ensures

pub emit_exception-returns-then-x-eq255 : goal.emit_exception-returns-then-x-eq255
emit_exception-returns-then-x-eq255 t c =
    emits_none (exception_none _ _ _ _ c.if-x-eq255.true)

pub emit_exception-put_caught-p-requires : goal.emit_exception-put_caught-p-requires
emit_exception-put_caught-p-requires t c =
    omega (arith, exception_size c.args.book.now.bytes.now c.args.i c.args.limit c.args.x c.if-x-eq255.false, c.requires)

pub emit_exception-emit_below-q-requires : goal.emit_exception-emit_below-q-requires
emit_exception-emit_below-q-requires t c =
    (omega (arith, c.decreases), omega (arith, exception_size c.args.book.now.bytes.now c.args.i c.args.limit c.args.x c.if-x-eq255.false, c.requires, c.put_caught-p.ensures.next))

pub emit_exception-overflow_sub-q : goal.emit_exception-overflow_sub-q
emit_exception-overflow_sub-q t c =
    omega (arith, c.emit_below-q.ensures.next)

pub emit_exception-overflow_add-q : goal.emit_exception-overflow_add-q
emit_exception-overflow_add-q t c =
    omega (arith, exception_size c.args.book.now.bytes.now c.args.i c.args.limit c.args.x c.if-x-eq255.false, c.requires, c.put_caught-p.ensures.next, c.emit_below-q.ensures.next)

pub emit_exception-put_far-requires : goal.emit_exception-put_far-requires
emit_exception-put_far-requires t c =
    omega (arith, exception_size c.args.book.now.bytes.now c.args.i c.args.limit c.args.x c.if-x-eq255.false, c.requires, c.put_caught-p.ensures.next, c.emit_below-q.ensures.next)

pub emit_exception-shape_of-out : goal.emit_exception-shape_of-out
emit_exception-shape_of-out t c =
    c.put_far.ensures.same ∙ c.emit_below-q.ensures.same ∙ c.put_caught-p.ensures.same

pub emit_exception-returns : goal.emit_exception-returns
emit_exception-returns t c =
    emits_also (exception_some _ _ _ _ c.if-x-eq255.false) (emits_none refl) c.put_caught-p.ensures c.emit_below-q.ensures refl c.put_far.ensures
