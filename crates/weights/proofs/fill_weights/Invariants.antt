-- `weights::fill_weights` meets its contract. The loop's invariant is `Weighing`.
use Rattle.book.specs.Decode.{scopes_of}
use Rattle.weights.proofs.Weighing.{Weighing}
use Rattle.weights.proofs.fill_weights.Given as goal

abbrev pub invariant-loop-block : goal.invariant-loop-block
invariant-loop-block l = Weighing (scopes_of l.book.bytes.now) l.initial.weights l.weights l.block-index
