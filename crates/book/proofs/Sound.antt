-- A record without fault, and a pass without one.
--     sounds               what a sound pass says of its first record
--     in_limits, not-exceeds    the counts are within the limits where none is exceeded
--     start_in_limits      so are those of nothing read
-- Assumes nothing.
use Prim.Native.Nat.{ℕ}
use mathlib.Core.Path.{◌≡◌, refl}
use mathlib.Core.Bool.{Bool, true, false, cond, ◌||◌}
use mathlib.Core.List.{List, ◌∷◌}
use native.Mathlib.Omega.{arith}
use lib.Dec.{ltb}
use borrow.Author.Tests.{le-ltb, ltb-false}
use Rattle.std.specs.Prelude.{Option, None, Some}
use Rattle.laws.proofs.Booleans.{neither}
use Rattle.book.specs.declared.Tally.{Tally}
use Rattle.answers.specs.declared.Fault.{Fault}
use Rattle.answers.specs.declared.Fault.TheVariants.{Truncated, UnknownKind, OutOfOrder, LimitExceeded, InvalidByte}
use Rattle.book.specs.Records.{Met, start, exceeds, unknown_kind, truncated, out_of_order, limit_exceeded, invalid_byte}
use Rattle.book.specs.Judge.{scan}
use Rattle.book.specs.Limits.{InLimits}

-- a record without fault
pub record Clean (m : Met) : Type 0 where
  pub known : unknown_kind m ≡ false
  pub whole : truncated m ≡ false
  pub ordered : out_of_order m ≡ false
  pub few : limit_exceeded m ≡ false
  pub valid : invalid_byte m ≡ false

-- a sound pass: its first record has no fault, and the pass over the others is sound
pub record Sounds (m : Met) (ms : List Met) : Type 0 where
  pub clean : Clean m
  pub more : scan ms ≡ None

no_fault : (b : Bool) (f : Fault) (r : Option Fault) → cond b (Some f) r ≡ None → (b ≡ false) × (r ≡ None)
no_fault true f r e = let z : ◌≡◌ {A = ℕ} 0 1 = cc in absurd (omega arith)
no_fault false f r e = (refl, e)

pub sounds : (m : Met) (ms : List Met) → scan (m ∷ ms) ≡ None → Sounds m ms
unfolding scan
sounds m ms e =
    let five = cond (invalid_byte m) (Some InvalidByte) (scan ms) in
    let four = cond (limit_exceeded m) (Some LimitExceeded) five in
    let three = cond (out_of_order m) (Some OutOfOrder) four in
    let one = cond (truncated m) (Some Truncated) three in
    let a = no_fault (unknown_kind m) UnknownKind one e in
    let b = no_fault (truncated m) Truncated three a.1 in
    let d = no_fault (out_of_order m) OutOfOrder four b.1 in
    let f = no_fault (limit_exceeded m) LimitExceeded five d.1 in
    let g = no_fault (invalid_byte m) InvalidByte (scan ms) f.1 in
    record { clean = record { known = a.0; whole = b.0; ordered = d.0; few = f.0; valid = g.0 }; more = g.1 }

-- the counts stay within the limits
pub in_limits : (t : Tally) → exceeds t ≡ false → InLimits t
unfolding exceeds
in_limits t e =
    let a = neither (ltb 32 t.scopes) (ltb 32 t.variables || (ltb 8 t.subs || (ltb 250 t.nodes || ltb 128 t.clauses))) e in
    let b = neither (ltb 32 t.variables) (ltb 8 t.subs || (ltb 250 t.nodes || ltb 128 t.clauses)) a.1 in
    let d = neither (ltb 8 t.subs) (ltb 250 t.nodes || ltb 128 t.clauses) b.1 in
    let f = neither (ltb 250 t.nodes) (ltb 128 t.clauses) d.1 in
    record {
      scopes = ltb-false 32 t.scopes a.0;
      variables = ltb-false 32 t.variables b.0;
      subs = ltb-false 8 t.subs d.0;
      nodes = ltb-false 250 t.nodes f.0;
      clauses = ltb-false 128 t.clauses f.1;
    }

pub not_exceeds : (t : Tally) → InLimits t → exceeds t ≡ false
unfolding exceeds
not_exceeds t l =
    rw (le-ltb 32 t.scopes l.scopes, le-ltb 32 t.variables l.variables, le-ltb 8 t.subs l.subs, le-ltb 250 t.nodes l.nodes, le-ltb 128 t.clauses l.clauses)

pub start_in_limits : (t : Tally) → t ≡ start → InLimits t
start_in_limits t e = rw e (record { scopes = omega arith; variables = omega arith; subs = omega arith; nodes = omega arith; clauses = omega arith })
