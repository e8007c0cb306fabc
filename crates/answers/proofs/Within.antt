-- What a production answers that is a refusal, or bytes that fit the lent memory.
--     fitting_cases       bytes that are fitted in: they are written, or the memory is too short
--     within_refused      of a refusal: not one byte is written
--     within_unchanged    of anything but a length: not one byte is written
--     within_size         the memory keeps its length
--     within_length       the length in the answer is that of the bytes written
-- Assumes nothing.
use Prim.Native.Nat.{ℕ, ◌<◌, ◌≤◌}
use mathlib.Core.Path.{◌≡◌, refl, sym, ap}
use mathlib.Core.Bool.{Bool, true, false, false≢true, cond}
use mathlib.Core.List.{List}
use native.Mathlib.Omega.{arith}
use lib.ListN.{length, drop, length-append, length-drop}
use lib.Dec.{leb}
use borrow.Author.Tests.{leb-true, leb-false}
use Rattle.std.specs.Prelude.{Result, ℕ, Ok, Err}
use Rattle.answers.specs.Numbers.{produced_numbers}
use Rattle.answers.specs.Production.{Production, refuse, fitting}
use Rattle.answers.specs.Response.{memory_after}
use Rattle.answers.specs.declared.Refusal.{Refusal}
use Rattle.answers.specs.declared.Refusal.TheVariants.{BufferTooSmall}

-- a refusal, or bytes that fit
pub data Within (room : ℕ) : Production → Type 0 where
  refused : (r : Refusal) → Within room (refuse r)
  whole : (bytes : List ℕ) → length bytes ≤ room → Within room (record { answer = Ok (length bytes); written = bytes })

pub fitting_cases : (P : Production → Type 0) (bytes : List ℕ) (room : ℕ)
    → (length bytes ≤ room → P (record { answer = Ok (length bytes); written = bytes })) → (room < length bytes → P (refuse BufferTooSmall))
    → P (fitting bytes room)
unfolding fitting
fitting_cases P bytes room long short = by_test (leb (length bytes) room) refl
  where
    by_test : (b : Bool) → leb (length bytes) room ≡ b → P (cond b (record { answer = Ok (length bytes); written = bytes }) (refuse BufferTooSmall))
    by_test true e = long (leb-true (length bytes) room e)
    by_test false e = short (leb-false (length bytes) room e)

abbrev pub is_written : Result ℕ Refusal → Bool
is_written (Ok n) = true
is_written (Err r) = false

pub within_refused : {room : ℕ} {p : Production} → Within room p → (r : Refusal) → p.answer ≡ Err r → (memory : List ℕ) → memory_after p memory ≡ memory
unfolding memory_after
within_refused (Within.refused s) r e memory = refl
within_refused (Within.whole bytes l) r e memory = absurd (false≢true (sym (ap is_written e)))

pub within_unchanged : {room : ℕ} {p : Production} → Within room p → ((size : ℕ) → p.answer ≡ Ok size → ⊥) → (memory : List ℕ) → memory_after p memory ≡ memory
unfolding memory_after
within_unchanged (Within.refused s) other memory = refl
within_unchanged (Within.whole bytes l) other memory = absurd (other (length bytes) refl)

pub within_length : {room : ℕ} {p : Production} → Within room p → (produced_numbers p.answer).length ≡ length p.written
within_length (Within.refused s) = refl
within_length (Within.whole bytes l) = refl

pub within_size : {p : Production} (memory : List ℕ) → Within (length memory) p → length (memory_after p memory) ≡ length memory
unfolding memory_after
within_size memory (Within.refused s) = refl
within_size memory (Within.whole bytes l) =
    omega (arith, l, length-append bytes (drop (length bytes) memory), length-drop (length bytes) memory)
