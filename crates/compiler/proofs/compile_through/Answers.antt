-- `compiler::compile_through` meets its contract.
use Prim.Native.Nat.{ℕ, ◌-◌, ◌≤◌}
use mathlib.Core.Path.{◌≡◌, refl, sym}
use mathlib.Core.List.{List, ◌++◌}
use native.Mathlib.Omega.{arith}
use lib.ListN.{length, take, drop, length-take, length-drop}
use lib.Seq.{length-take-le}
use Rattle.std.specs.Prelude.{Ok}
use Rattle.book.specs.Judge.{judge}
use Rattle.emitter.specs.Emission.{Emits}
use Rattle.emitter.specs.Pieces.{book_piece, book_size}
use Rattle.compiler.specs.Compile.{Compiles}
use Rattle.compiler.proofs.Answers.{short, moved, written}
use Rattle.compiler.proofs.compile_through.Goals as goal

-- as many bytes as were written are copied, from where they begin
copied : (bytes : List ℕ) (n : ℕ) → judge bytes ≡ Ok n → {memory s o part : List ℕ} {end k from : ℕ}
    → Emits s 0 (book_piece bytes) (book_size bytes) end o → end ≤ length memory → end ≤ length o
    → k ≡ end → from ≡ length o - end → part ≡ take (length o - from) (drop from o) → Compiles bytes memory (Ok end) (part ++ drop k memory)
copied bytes n ok a l h e f p = rw e (moved bytes n ok a l h (rw f at p))

pub returns-then-code-length : goal.returns-then-code-length
returns-then-code-length c =
    short _ _ c.requires.accepted c.emit_blocks-length.ensures c.if-code-length.true

pub slice_bounds-copy_from_slice-end-then-length-room : goal.slice_bounds-copy_from_slice-end-then-length-room
slice_bounds-copy_from_slice-end-then-length-room c = omega (arith, length-take {A = ℕ})

pub copy_from_slice-requires : goal.copy_from_slice-requires
copy_from_slice-requires c = omega (arith, length-take {A = ℕ}, length-drop {A = ℕ})

pub slice_bounds-emit_blocks-end-else-length-room : goal.slice_bounds-emit_blocks-end-else-length-room
slice_bounds-emit_blocks-end-else-length-room c =
    sym (length-take-le _ _ c.if-code-length.false)

pub returns-then-length-room : goal.returns-then-length-room
returns-then-length-room c =
    copied _ _ c.requires.accepted c.emit_blocks-length.ensures c.if-code-length.false c.if-length-room.true (omega arith) (omega arith) c.copy_from_slice.ensures.after

pub returns-else-length-room : goal.returns-else-length-room
returns-else-length-room c =
    written _ _ c.requires.accepted c.emit_blocks-length.ensures c.if-code-length.false refl c.emit_blocks.ensures
