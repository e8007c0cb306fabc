-- A book is accepted if and only if none of the faults 1 to 12 is in it.
--     accepted_iff           the verdict is acceptance if and only if no fault is in the book
--     accepted_count         the number handed back is that of the scopes
--     accepted_faultless     in an accepted book none of the judge's tests finds a fault
--     faultless_accepted     where none does, the book is accepted
--     faultless_free         where none does, no fault is in the book
-- Assumes nothing.
use Prim.Native.Nat.{ℕ}
use mathlib.Core.Path.{◌≡◌, refl, sym, ap, ◌∙◌}
use mathlib.Core.Bool.{Bool, true, false, cond, false≢true}
use mathlib.Core.List.{List}
use mathlib.Core.Logic.{⊎_elim, ◌↔◌}
use native.Mathlib.Omega.{arith}
use lib.ListN.{length}
use Rattle.std.specs.Prelude.{Option, None, Some, Result, ℕ, Ok, Err}
use Rattle.laws.proofs.Booleans.{decide, neither}
use Rattle.book.specs.Lists.{any}
use Rattle.book.specs.Records.{records, unknown_kind, truncated, out_of_order, limit_exceeded, invalid_byte, too_long}
use Rattle.book.specs.Decode.{scopes_of}
use Rattle.book.specs.References.{dangles}
use Rattle.book.specs.Sharing.{shares}
use Rattle.book.specs.Typing.{mismatches}
use Rattle.book.specs.Mixing.{mixes}
use Rattle.book.specs.Scopes.{scope_cycle, weight_exceeded}
use Rattle.book.specs.Steps.{dependency_cycle}
use Rattle.book.specs.Judge.{InBook, scan, whole_book, after_records, judge}
use Rattle.answers.specs.declared.Fault.{Fault}
use Rattle.answers.specs.declared.Fault.TheVariants.{Truncated, UnknownKind, OutOfOrder, LimitExceeded, InvalidByte, DanglingReference, SharedNode, TypeMismatch, MixedClauses, ScopeCycle, WeightExceeded, DependencyCycle}
use Rattle.acceptance.specs.Verdicts.{Faultless}
use Rattle.acceptance.proofs.Cycles.{no_scope_cycle, no_dependency_cycle}
use Rattle.acceptance.proofs.Scanning.{scan_sound, sound_free}

abbrev is_accepted : Result ℕ Fault → Bool
is_accepted (Ok n) = true
is_accepted (Err f) = false

abbrev count_in : Result ℕ Fault → ℕ
count_in (Ok n) = n
count_in (Err f) = 0

passed : (b : Bool) (f : Fault) (rest : Result ℕ Fault) (n : ℕ) → cond b (Err f) rest ≡ Ok n → (b ≡ false) × (rest ≡ Ok n)
passed true f rest n e = absurd (false≢true (ap is_accepted e))
passed false f rest n e = (refl, e)

scanned : (r : Option Fault) (whole : Result ℕ Fault) (n : ℕ) → after_records r whole ≡ Ok n → (r ≡ None) × (whole ≡ Ok n)
scanned None whole n e = (refl, e)
scanned (Some f) whole n e = absurd (false≢true (ap is_accepted e))

accepted_all : (bytes : List ℕ) (n : ℕ) → judge bytes ≡ Ok n → Faultless bytes × (n ≡ length (scopes_of bytes))
unfolding judge whole_book
accepted_all bytes n e =
    let a = passed (too_long bytes) LimitExceeded _ n e in
    let b = scanned (scan (records bytes)) _ n a.1 in
    let c = passed (dangles (scopes_of bytes)) DanglingReference _ n b.1 in
    let d = passed (shares (scopes_of bytes)) SharedNode _ n c.1 in
    let f = passed (mismatches (scopes_of bytes)) TypeMismatch _ n d.1 in
    let g = passed (mixes (scopes_of bytes)) MixedClauses _ n f.1 in
    let h = passed (scope_cycle (scopes_of bytes)) ScopeCycle _ n g.1 in
    let i = passed (weight_exceeded (scopes_of bytes)) WeightExceeded _ n h.1 in
    let j = passed (dependency_cycle (scopes_of bytes)) DependencyCycle _ n i.1 in (
      record {
        short = a.0;
        sound = (scan_sound (records bytes)).0 b.0;
        named = c.0;
        unshared = d.0;
        typed = f.0;
        unmixed = g.0;
        callable = h.0;
        light = i.0;
        doable = j.0;
      },
      sym (ap count_in j.1),
    )

pub accepted_faultless : (bytes : List ℕ) (n : ℕ) → judge bytes ≡ Ok n → Faultless bytes
accepted_faultless bytes n e = (accepted_all bytes n e).0

pub accepted_count : (bytes : List ℕ) (n : ℕ) → judge bytes ≡ Ok n → n ≡ length (scopes_of bytes)
accepted_count bytes n e = (accepted_all bytes n e).1

pub faultless_accepted : (bytes : List ℕ) → Faultless bytes → judge bytes ≡ Ok (length (scopes_of bytes))
unfolding judge whole_book
faultless_accepted bytes c =
    rw (
      c.short,
      (scan_sound (records bytes)).1 c.sound,
      c.named,
      c.unshared,
      c.typed,
      c.unmixed,
      c.callable,
      c.light,
      c.doable,
    )

pub faultless_free : (bytes : List ℕ) → Faultless bytes → (f : Fault) → InBook f bytes → ⊥
faultless_free bytes c Truncated h = false≢true (sym c.sound.complete ∙ h)
faultless_free bytes c UnknownKind h = false≢true (sym c.sound.known ∙ h)
faultless_free bytes c OutOfOrder h = false≢true (sym c.sound.in_order ∙ h)
faultless_free bytes c LimitExceeded h = sound_free bytes c.short c.sound LimitExceeded (omega arith) h
faultless_free bytes c InvalidByte h = false≢true (sym c.sound.valid ∙ h)
faultless_free bytes c DanglingReference h = false≢true (sym c.named ∙ h)
faultless_free bytes c SharedNode h = false≢true (sym c.unshared ∙ h)
faultless_free bytes c TypeMismatch h = false≢true (sym c.typed ∙ h)
faultless_free bytes c MixedClauses h = false≢true (sym c.unmixed ∙ h)
faultless_free bytes c ScopeCycle h = (no_scope_cycle (scopes_of bytes)).0 c.callable h
faultless_free bytes c WeightExceeded h = false≢true (sym c.light ∙ h)
faultless_free bytes c DependencyCycle h = (no_dependency_cycle (scopes_of bytes)).0 c.doable h

-- a test that does not hold fails
fails : (b : Bool) → (b ≡ true → ⊥) → b ≡ false
fails b h = ⊎_elim (λ t. absurd (h t)) (λ f. f) (decide b)

free_faultless : (bytes : List ℕ) → ((f : Fault) → InBook f bytes → ⊥) → Faultless bytes
free_faultless bytes free =
    let limit = neither (too_long bytes) (any limit_exceeded (records bytes)) (fails _ (free LimitExceeded)) in
    record {
      short = limit.0;
      sound =
          record {
            known = fails (any unknown_kind (records bytes)) (free UnknownKind);
            complete = fails (any truncated (records bytes)) (free Truncated);
            in_order = fails (any out_of_order (records bytes)) (free OutOfOrder);
            within = limit.1;
            valid = fails (any invalid_byte (records bytes)) (free InvalidByte);
          };
      named = fails (dangles (scopes_of bytes)) (free DanglingReference);
      unshared = fails (shares (scopes_of bytes)) (free SharedNode);
      typed = fails (mismatches (scopes_of bytes)) (free TypeMismatch);
      unmixed = fails (mixes (scopes_of bytes)) (free MixedClauses);
      callable = (no_scope_cycle (scopes_of bytes)).1 (free ScopeCycle);
      light = fails (weight_exceeded (scopes_of bytes)) (free WeightExceeded);
      doable = (no_dependency_cycle (scopes_of bytes)).1 (free DependencyCycle);
    }

pub accepted_iff : (bytes : List ℕ) → (judge bytes ≡ Ok (length (scopes_of bytes))) ↔ ((f : Fault) → InBook f bytes → ⊥)
accepted_iff bytes = (
  λ e. faultless_free bytes (accepted_faultless bytes (length (scopes_of bytes)) e),
  λ free. faultless_accepted bytes (free_faultless bytes free),
)
