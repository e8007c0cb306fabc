-- Every tree of an accepted book can be run: the code can say it, every distance in it has two bytes, and it keeps within the stack's entries
-- and the open tries.
--     tree_runnable    for every scope of the book and every target
-- Assumes nothing.
use Prim.Native.Nat.{ℕ, ◌<◌}
use mathlib.Core.Path.{◌≡◌}
use mathlib.Core.List.{List}
use native.Mathlib.Omega.{arith}
use Rattle.std.specs.Prelude.{Ok}
use Rattle.book.specs.Decode.{scopes_of}
use Rattle.book.specs.References.{scope_at}
use Rattle.book.specs.Trees.{tree}
use Rattle.book.specs.Judge.{judge}
use Rattle.book.specs.declared.Target.{Target}
use Rattle.acceptance.proofs.Orders.{accepted_book}
use Rattle.translation.specs.Measures.{Runnable}
use Rattle.translation.proofs.Parts.{size_parts, leaves_parts, defaults_parts}
use Rattle.translation.proofs.Bounds.{tree_parts}
use Rattle.translation.proofs.Sayable.{book_sayable, tree_sayable}

pub tree_runnable : (bytes : List ℕ) (n : ℕ) → judge bytes ≡ Ok n → (i : ℕ) → i < n → (t : Target)
    → Runnable (tree (scope_at (scopes_of bytes) i) t)
tree_runnable bytes n e i l t =
    let a = accepted_book bytes n e in
    let s = scope_at (scopes_of bytes) i in
    let few = tree_parts (scopes_of bytes) s (a.within i) (a.formed i l) t in
    record {
      sayable = tree_sayable s (book_sayable bytes i) t;
      near = omega (arith, few, size_parts (tree s t));
      shallow = omega (arith, few, leaves_parts (tree s t));
      few = omega (arith, few, defaults_parts (tree s t));
    }
