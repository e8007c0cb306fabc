-- `signatures::fill_types` meets its contract. The invariant: the bytes below v are filled in.
use Rattle.lists.proofs.Types.{Filling}
use Rattle.book.specs.References.{scope_at}
use Rattle.book.specs.Decode.{scopes_of}
use Rattle.signatures.proofs.fill_types.Given as goal

abbrev pub invariant-loop-v : goal.invariant-loop-v
invariant-loop-v l = Filling (scope_at (scopes_of l.book.bytes.now) l.i).variables l.types l.v
