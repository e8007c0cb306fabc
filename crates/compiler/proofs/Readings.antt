-- What compiling answers. It is a function of the book and the length of the code memory: nothing else decides.
--     compiled_replied      the cases of an answer
--     compiled_code         of a length: it is the code's, fits the memory and is at most seven times the book's; the code is written from the
--                           first byte
--     compiled_refused      of a refusal: not one byte is written
--     compiled_unchanged    of anything but a length: not one byte is written
--     compiled_size         the memory keeps its length
--     compiled_length       the length in the answer is that of the bytes written
--     compiled_most         and is 201,435 at most
-- Assumes nothing.
use Prim.Native.Nat.{ℕ, ◌≤◌}
use mathlib.Core.Path.{◌≡◌, refl, sym, ap}
use mathlib.Core.Bool.{false≢true}
use mathlib.Core.List.{List, ◌++◌}
use native.Mathlib.Omega.{arith}
use lib.ListN.{length, drop}
use Rattle.std.specs.Prelude.{Result, ℕ, Ok, Err}
use Rattle.book.specs.Decode.{scopes_of}
use Rattle.book.specs.Judge.{judge}
use Rattle.answers.specs.Response.{on_judged, memory_after}
use Rattle.answers.specs.Numbers.{produced_numbers}
use Rattle.answers.specs.declared.Refusal.{Refusal}
use Rattle.answers.specs.declared.Refusal.TheVariants.{Book, BufferTooSmall}
use Rattle.translation.specs.Blocks.{code_of}
use Rattle.translation.proofs.Lengths.{code_bound, code_max}
use Rattle.answers.specs.Production.{Production, refuse, fitting}
use Rattle.answers.proofs.Within.{Within, is_written, fitting_cases, within_refused, within_unchanged, within_size, within_length}
use Rattle.compiler.specs.Compile.{compile}
use Rattle.compiler.specs.Answers.{Replied, InCode}
use Rattle.answers.specs.declared.Fault.{Fault}

module _ (bytes : List ℕ) (room : ℕ) where
  on_fitting : (n : ℕ) → judge bytes ≡ Ok n → Replied bytes room (fitting (code_of (scopes_of bytes)) room)
  on_fitting n h = fitting_cases (Replied bytes room) (code_of (scopes_of bytes)) room (Replied.whole n h) (Replied.short n h)

  on_judged_lem : (j : Result ℕ Fault) → judge bytes ≡ j → Replied bytes room (on_judged refuse j (fitting (code_of (scopes_of bytes)) room))
  on_judged_lem (Ok n) h = on_fitting n h
  on_judged_lem (Err f) h = Replied.faulty f h

  pub compiled_replied : Replied bytes room (compile bytes room)
  unfolding compile
  compiled_replied = on_judged_lem (judge bytes) refl

module _ (bytes memory : List ℕ) where
  abbrev reply : Production
  reply = compile bytes (length memory)

  within : (p : Production) → Replied bytes (length memory) p → Within (length memory) p
  within p (Replied.faulty f h) = Within.refused (Book f)
  within p (Replied.short n h l) = Within.refused BufferTooSmall
  within p (Replied.whole n h l) = Within.whole (code_of (scopes_of bytes)) l

  compiled_within : Within (length memory) reply
  compiled_within = within reply (compiled_replied bytes (length memory))

  pub compiled_refused : (r : Refusal) → reply.answer ≡ Err r → memory_after reply memory ≡ memory
  compiled_refused r e = within_refused compiled_within r e memory

  pub compiled_unchanged : ((size : ℕ) → reply.answer ≡ Ok size → ⊥) → memory_after reply memory ≡ memory
  compiled_unchanged other = within_unchanged compiled_within other memory

  pub compiled_size : length (memory_after reply memory) ≡ length memory
  compiled_size = within_size memory compiled_within

  pub compiled_length : (produced_numbers reply.answer).length ≡ length reply.written
  compiled_length = within_length compiled_within

  most : (p : Production) → Replied bytes (length memory) p → (produced_numbers p.answer).length ≤ 201435
  most p (Replied.faulty f h) = omega arith
  most p (Replied.short n h l) = omega arith
  most p (Replied.whole n h l) = code_max bytes n h

  pub compiled_most : (produced_numbers reply.answer).length ≤ 201435
  compiled_most = most reply (compiled_replied bytes (length memory))

  in_code : (size : ℕ) (p : Production) → Replied bytes (length memory) p → p.answer ≡ Ok size → InCode bytes memory size (memory_after p memory)
  unfolding memory_after
  in_code size p (Replied.faulty f h) e = absurd (false≢true (ap is_written e))
  in_code size p (Replied.short n h l) e = absurd (false≢true (ap is_written e))
  in_code size p (Replied.whole n h l) e =
      let whole : length (code_of (scopes_of bytes)) ≡ size = ap (λ (r : Result ℕ Refusal). (produced_numbers r).length) e in
      record {
        scopes = n;
        accepted = h;
        long = sym whole;
        fits = omega (arith, l, whole);
        most = omega (arith, code_bound bytes n h, whole);
        written = ap (λ (k : ℕ). code_of (scopes_of bytes) ++ drop k memory) whole;
      }

  pub compiled_code : (size : ℕ) → reply.answer ≡ Ok size → InCode bytes memory size (memory_after reply memory)
  compiled_code size = in_code size reply (compiled_replied bytes (length memory))
