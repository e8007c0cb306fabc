-- `signatures::fill_types` meets its contract. The invariant: the bytes below v are filled in.
use native.Mathlib.Omega.{arith}
use Rattle.book.specs.Positions.{variable_at}
use Prim.Native.Nat.{ℕ}
use mathlib.Core.Path.{◌≡◌}
use Rattle.book.specs.Syntax.{type_of, type_byte}
use Rattle.book.specs.declared.ValueType.{ValueType}
use Rattle.lists.proofs.Types.{type_of_byte, turn, stop}
use Rattle.signatures.proofs.fill_types.Goals as goal

of_byte : (t : ValueType) (b : ℕ) → b ≡ type_byte t → type_of b ≡ t
of_byte t b e = rw e (type_of_byte t)

pub loop-v-preserved : goal.loop-v-preserved
unfolding variable_at
loop-v-preserved c =
    let few = c.args.book.now.laid.within.variables c.args.i in
    let byte = rw c.variable_at.ensures at c.from.ensures in
    turn c.loop-v.invariant _ (omega arith) (of_byte _ _ (omega (arith, byte)))

pub returns : goal.returns
returns c = stop c.loop-v.invariant c.variable_count-count.ensures (c.args.book.now.laid.within.variables c.args.i) c.loop-v-test.false
