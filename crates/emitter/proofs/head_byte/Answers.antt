-- `emitter::head_byte` meets its contract.
use Prim.Native.Nat.{◌<◌}
use native.Mathlib.Omega.{arith}
use lib.ListN.{length}
use Rattle.book.specs.Decode.{scopes_of}
use Rattle.book.specs.References.{scope_at}
use borrow.Author.Tests.{eq-eqb, ne_eqb}
use Rattle.emitter.specs.Pieces.{head_count, head_byte}
use Rattle.emitter.proofs.head_byte.Goals as goal

pub returns-then-kind-eq-KIND_VARIABLE : goal.returns-then-kind-eq-KIND_VARIABLE
unfolding head_byte
returns-then-kind-eq-KIND_VARIABLE c = rw (eq-eqb _ _ c.if-kind-eq-KIND_VARIABLE.true, c.from.ensures, c.variable_at.ensures)

pub overflow_cast-result : goal.overflow_cast-result
unfolding head_count
overflow_cast-result c =
    let below : c.args.n < length (scope_at (scopes_of c.args.book.now.bytes.now) c.args.i).sub_scopes = rw (ne_eqb _ _ c.if-kind-eq-KIND_VARIABLE.false) at c.requires.1 in
    omega (arith, c.sub_scope_at.ensures, c.requires.0.called c.args.n below)

pub returns : goal.returns
unfolding head_byte
returns c = rw (ne_eqb _ _ c.if-kind-eq-KIND_VARIABLE.false) c.sub_scope_at.ensures
