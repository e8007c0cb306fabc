-- `emitter::emit_block` meets its contract.
use mathlib.Core.Path.{sym, ◌∙◌}
use native.Mathlib.Omega.{arith}
use Rattle.emitter.proofs.Pieces.{block_size_lem, variables_counted, sub_scopes_counted, emits_block}
use Rattle.emitter.proofs.Book.{blank}
use Rattle.emitter.proofs.emit_block.Goals as goal

pub fill_links-requires : goal.fill_links-requires
fill_links-requires c = blank c.requires.0.sound

pub emit_steps-p-requires : goal.emit_steps-p-requires
emit_steps-p-requires c =
    (record { sound = c.requires.0.sound; linked = c.fill_links.ensures }, c.requires.0.ordered, omega (arith, block_size_lem c.args.book.now.bytes.now c.args.i, c.requires.1))

pub emit_heads-q-requires : goal.emit_heads-q-requires
emit_heads-q-requires c = (
  c.requires.0.called,
  c.sub_scope_count-subs.ensures ∙ sym (sub_scopes_counted _ _),
  omega (arith, block_size_lem c.args.book.now.bytes.now c.args.i, c.requires.1, c.emit_steps-p.ensures.next),
)

pub emit_heads-r-requires : goal.emit_heads-r-requires
emit_heads-r-requires c = (
  c.requires.0.called,
  c.variable_count-variables.ensures ∙ sym (variables_counted _ _),
  omega (arith, block_size_lem c.args.book.now.bytes.now c.args.i, c.requires.1, c.emit_steps-p.ensures.next, c.emit_heads-q.ensures.next),
)

pub overflow_cast-i : goal.overflow_cast-i
overflow_cast-i c = omega (arith, c.requires.0.ordered.few)

pub put_two-requires : goal.put_two-requires
put_two-requires c =
    omega (arith, block_size_lem c.args.book.now.bytes.now c.args.i, c.requires.1, c.emit_steps-p.ensures.next, c.emit_heads-q.ensures.next, c.emit_heads-r.ensures.next)

pub shape_of-out : goal.shape_of-out
shape_of-out c = c.put_two.ensures.same ∙ c.emit_heads-r.ensures.same ∙ c.emit_heads-q.ensures.same ∙ c.emit_steps-p.ensures.same

pub returns : goal.returns
returns c = emits_block _ _ c.emit_steps-p.ensures c.emit_heads-q.ensures c.emit_heads-r.ensures c.put_two.ensures
