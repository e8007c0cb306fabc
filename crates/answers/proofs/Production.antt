-- What is answered and written is that of a production.
--     produces_all         of bytes that fit, if they are written in front of what stood behind
--     produces_none        of bytes that do not fit, if nothing is written
-- Assumes nothing.
use Prim.Native.Nat.{ℕ, ◌<◌, ◌≤◌}
use mathlib.Core.Path.{◌≡◌, refl, ◌∙◌}
use mathlib.Core.List.{List, ◌++◌}
use lib.ListN.{length, drop}
use borrow.Author.Tests.{le-leb, lt-leb}
use Rattle.std.specs.Prelude.{Ok, Err}
use Rattle.answers.specs.Production.{Production, refuse, fitting}
use Rattle.answers.specs.Response.{memory_after, Responds}
use Rattle.answers.proofs.Response.{same_response, nothing_written}
use Rattle.answers.specs.declared.Refusal.TheVariants.{BufferTooSmall}

whole : (bytes : List ℕ) (room : ℕ) → length bytes ≤ room → fitting bytes room ≡ record { answer = Ok (length bytes); written = bytes }
unfolding fitting
whole bytes room l = rw (le-leb (length bytes) room l)

none : (bytes : List ℕ) (room : ℕ) → room < length bytes → fitting bytes room ≡ refuse BufferTooSmall
unfolding fitting
none bytes room l = rw (lt-leb (length bytes) room l)

module _ {p : Production} (bytes : List ℕ) {memory : List ℕ} (e : p ≡ fitting bytes (length memory)) where
  pub produces_all : length bytes ≤ length memory → Responds p memory (Ok (length bytes)) (bytes ++ drop (length bytes) memory)
  unfolding memory_after
  produces_all l = same_response (e ∙ whole bytes (length memory) l) (record { answer = refl; memory = refl })

  pub produces_none : length memory < length bytes → Responds p memory (Err BufferTooSmall) memory
  produces_none l = nothing_written (e ∙ none bytes (length memory) l)
