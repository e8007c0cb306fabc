-- The limits of an accepted book.
--     faultless_within      each scope is within its limits
--     faultless_scopes      there are at most 32 scopes
--     faultless_size        the book has at most 32,768 bytes
--     accepted_within, accepted_scopes, accepted_size    the same of an accepted book
-- Assumes nothing.
use Prim.Native.Nat.{ℕ, ◌≤◌}
use mathlib.Core.Path.{◌≡◌}
use mathlib.Core.List.{List}
use native.Mathlib.Omega.{arith}
use lib.ListN.{length}
use borrow.Author.Tests.{ltb-false}
use Rattle.std.specs.Prelude.{Ok}
use Rattle.book.specs.Records.{records, too_long}
use Rattle.book.specs.Decode.{scopes_of}
use Rattle.book.specs.References.{scope_at}
use Rattle.book.specs.Limits.{Within}
use Rattle.book.specs.Judge.{judge}
use Rattle.book.proofs.Limits.{within}
use Rattle.acceptance.specs.Verdicts.{Faultless}
use Rattle.acceptance.specs.Accepted.{WithinLimits}
use Rattle.acceptance.proofs.Scanning.{scan_sound}
use Rattle.acceptance.proofs.Acceptance.{accepted_faultless, accepted_count}

module _ (bytes : List ℕ) (f : Faultless bytes) where
  limits : Within (scopes_of bytes)
  limits = within bytes ((scan_sound (records bytes)).1 f.sound)

  pub faultless_within : (i : ℕ) → WithinLimits (scope_at (scopes_of bytes) i)
  faultless_within i =
      let l = limits in
      record { variables = l.variables i; sub_scopes = l.sub_scopes i; nodes = l.nodes i; clauses = l.clauses i }

  pub faultless_scopes : length (scopes_of bytes) ≤ 32
  faultless_scopes = limits.scopes

  pub faultless_size : length bytes ≤ 32768
  unfolding too_long
  faultless_size = ltb-false 32768 (length bytes) f.short

module _ (bytes : List ℕ) (n : ℕ) (e : judge bytes ≡ Ok n) where
  pub accepted_within : (i : ℕ) → WithinLimits (scope_at (scopes_of bytes) i)
  accepted_within = faultless_within bytes (accepted_faultless bytes n e)

  pub accepted_scopes : n ≤ 32
  accepted_scopes = omega (arith, accepted_count bytes n e, faultless_scopes bytes (accepted_faultless bytes n e))

  pub accepted_size : length bytes ≤ 32768
  accepted_size = faultless_size bytes (accepted_faultless bytes n e)
