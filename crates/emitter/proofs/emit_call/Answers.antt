-- `emitter::emit_call` meets its contract. The loop's invariant: the pieces from its number on are written.
use lib.ListN.{length}
use Prim.Native.Nat.{ℕ}
use Rattle.book.specs.Decode.{scopes_of}
use Rattle.book.specs.References.{scope_at}
use Rattle.book.specs.Positions.{sub_scope_at}
use native.Mathlib.Omega.{arith}
use Rattle.emitter.proofs.Emission.{start, room, turn}
use Rattle.emitter.proofs.Pieces.{call_size_lem, call_stop}
use mathlib.Core.Path.{refl, ap, ◌∙◌}
use Rattle.emitter.proofs.emit_call.Goals as goal

pub overflow_cast-k : goal.overflow_cast-k
overflow_cast-k c =
    omega (arith, c.requires.1, c.requires.0.sound.sub_scopes c.args.i)

pub put_two-p-requires : goal.put_two-p-requires
put_two-p-requires c =
    omega (arith, call_size_lem c.args.book.now.bytes.now c.args.i c.args.k, c.requires.2)

pub loop-v-init : goal.loop-v-init
loop-v-init c =
    start _ _ _ _ (c.variable_count-v.ensures ∙ ap (λ (j : ℕ). length (scope_at (scopes_of c.args.book.now.bytes.now) j).variables) c.sub_scope_at-j.ensures)

pub overflow_cast-k-in-loop-v : goal.overflow_cast-k-in-loop-v
overflow_cast-k-in-loop-v c =
    omega (arith, c.requires.1, c.requires.0.sound.sub_scopes c.args.i)

pub overflow_cast-v : goal.overflow_cast-v
overflow_cast-v c =
    omega (arith, c.loop-v.invariant.below, c.requires.0.sound.variables (sub_scope_at (scopes_of c.args.book.now.bytes.now) c.args.i c.args.k))

pub emit_override-p-requires : goal.emit_override-p-requires
emit_override-p-requires c =
    (c.requires.0, room c.loop-v.invariant _ refl c.loop-v-test.true (omega (arith, call_size_lem c.args.book.now.bytes.now c.args.i c.args.k, c.requires.2, c.put_two-p.ensures.next)))

pub loop-v-preserved : goal.loop-v-preserved
loop-v-preserved c =
    turn c.loop-v.invariant _ refl c.loop-v-test.true c.emit_override-p.ensures

pub shape_of-out : goal.shape_of-out
shape_of-out c =
    c.loop-v.invariant.sofar.same ∙ c.put_two-p.ensures.same

pub returns : goal.returns
returns c =
    call_stop _ _ _ c.put_two-p.ensures c.loop-v.invariant (omega (arith, c.loop-v-test.false))
