-- What compiling answers, and what it leaves in the code memory.
-- Assumes nothing.
use Prim.Native.Nat.{ℕ, ◌-◌, ◌<◌, ◌≤◌}
use mathlib.Core.Path.{◌≡◌, sym, ap, ◌∙◌}
use mathlib.Core.List.{List, ◌++◌}
use native.Mathlib.Omega.{arith}
use lib.ListN.{length, take, drop, drop_of_length-le, length-drop}
use lib.Seq.{length-take-le, take_all}
use Rattle.std.specs.Prelude.{Result, ℕ, Ok, Err}
use Rattle.book.specs.Decode.{scopes_of}
use Rattle.book.specs.Judge.{judge}
use Rattle.answers.specs.Response.{on_judged}
use Rattle.answers.specs.declared.Fault.{Fault}
use Rattle.answers.specs.declared.Refusal.TheVariants.{Book, BufferTooSmall}
use Rattle.translation.specs.Blocks.{code_of}
use Rattle.answers.specs.Production.{refuse, fitting}
use Rattle.answers.proofs.Response.{nothing_written}
use Rattle.answers.proofs.Production.{produces_all, produces_none}
use Rattle.compiler.specs.Compile.{compile, Compiles}
use Rattle.emitter.specs.Emission.{back, Emits}
use Rattle.emitter.specs.Pieces.{book_piece, book_size}
use Rattle.emitter.proofs.Book.{book_length, book_code}

pub refused : (bytes : List ℕ) {memory : List ℕ} {f : Fault} → judge bytes ≡ Err f → Compiles bytes memory (Err (Book f)) memory
unfolding compile
refused bytes {memory} {f} e =
    nothing_written (ap (λ (j : Result ℕ Fault). on_judged refuse j (fitting (code_of (scopes_of bytes)) (length memory))) e)

-- the last bytes, as a part of a slice
abbrev rest : ℕ → List ℕ → List ℕ
rest n s = take (length s - (length s - n)) (drop (length s - n) s)

rest_back : (n : ℕ) (s : List ℕ) → rest n s ≡ back n s
unfolding back
rest_back n s = take_all (length s - (length s - n)) (drop (length s - n) s) (omega (arith, length-drop (length s - n) s))

pub rest_long : (s memory : List ℕ) (n : ℕ) → n ≤ length s → n ≤ length memory → length (take n memory) ≡ length (rest n s)
unfolding back
rest_long s memory n h l =
    let e = ap length (rest_back n s) in
    omega (arith, length-take-le n memory l, length-drop (length s - n) s)

module _ (bytes : List ℕ) (n : ℕ) (ok : judge bytes ≡ Ok n) where
  code_size : length (code_of (scopes_of bytes)) ≡ book_size bytes
  code_size = ap length (sym (book_code bytes n ok)) ∙ book_length bytes

  compiled : (room : ℕ) → compile bytes room ≡ fitting (code_of (scopes_of bytes)) room
  unfolding compile
  compiled room = ap (λ (j : Result ℕ Fault). on_judged refuse j (fitting (code_of (scopes_of bytes)) room)) ok

  pub short : {memory s o : List ℕ} {end : ℕ} → Emits s 0 (book_piece bytes) (book_size bytes) end o → length memory < end
      → Compiles bytes memory (Err BufferTooSmall) memory
  short {memory} {s} {o} {end} a l =
      produces_none (code_of (scopes_of bytes)) (compiled (length memory)) (omega (arith, code_size, a.next))

  whole : {s o : List ℕ} {end : ℕ} → Emits s 0 (book_piece bytes) (book_size bytes) end o → end ≤ length s → back end o ≡ code_of (scopes_of bytes)
  unfolding back
  whole {s} {o} {end} a l =
      let z : length s - 0 ≡ length s = omega arith in
      a.memory l ∙ ap (λ (j : ℕ). book_piece bytes (drop j s)) z ∙ ap (book_piece bytes) (drop_of_length-le s {i = length s} (omega arith)) ∙ book_code bytes n ok

  module _ {memory s o part : List ℕ} {end : ℕ} (a : Emits s 0 (book_piece bytes) (book_size bytes) end o) (l : end ≤ length memory) where
    answered : part ≡ code_of (scopes_of bytes) → Compiles bytes memory (Ok end) (part ++ drop end memory)
    answered f =
        let long : length (code_of (scopes_of bytes)) ≡ end = omega (arith, code_size, a.next) in
        rw (f, ← long) (produces_all (code_of (scopes_of bytes)) (compiled (length memory)) (omega (arith, long)))

    -- the code is copied
    pub moved : end ≤ length o → part ≡ rest end o → Compiles bytes memory (Ok end) (part ++ drop end memory)
    moved h e = answered (e ∙ rest_back end o ∙ whole a (omega (arith, a.same)))

    -- the code is written again
    pub written : {s₂ : List ℕ} {last : ℕ} → s₂ ≡ take end memory → Emits s₂ 0 (book_piece bytes) (book_size bytes) last part
        → Compiles bytes memory (Ok end) (part ++ drop end memory)
    unfolding back
    written {s₂} {last} e b =
        let k = ap length e ∙ length-take-le end memory l in
        let same = b.same in
        let y : length part - last ≡ 0 = omega (arith, a.next, b.next) in
        answered (ap (λ (j : ℕ). drop j part) (sym y) ∙ whole b (omega (arith, a.next, b.next)))
