-- What an accepted book is free of, and which fault a refused one is refused for.
use Rattle.std.specs.Prelude.{ℕ, ◌<◌, ◌≤◌, ◌≡◌, true, false, List, ◌∷◌, ◌++◌}
use Rattle.book.specs.Lists.{any}
use Rattle.book.specs.Records.{Met, records, unknown_kind, truncated, out_of_order, limit_exceeded, invalid_byte, too_long}
use Rattle.book.specs.Decode.{scopes_of}
use Rattle.book.specs.References.{dangles}
use Rattle.book.specs.Sharing.{shares}
use Rattle.book.specs.Typing.{mismatches}
use Rattle.book.specs.Mixing.{mixes}
use Rattle.book.specs.Scopes.{scope_cycle, weight_exceeded}
use Rattle.book.specs.Steps.{dependency_cycle}
use Rattle.book.specs.Judge.{InBook}
use Rattle.answers.specs.Numbers.{fault_number}
use Rattle.answers.specs.declared.Fault.{Fault}
use Rattle.answers.specs.declared.Fault.TheVariants.{Truncated, UnknownKind, OutOfOrder, LimitExceeded, InvalidByte}

-- no record has one of the faults 1 to 5
pub record NoneFaulty (ms : List Met) : Type 0 where
  pub known : any unknown_kind ms ≡ false
  pub complete : any truncated ms ≡ false
  pub in_order : any out_of_order ms ≡ false
  pub within : any limit_exceeded ms ≡ false
  pub valid : any invalid_byte ms ≡ false

-- none of the judge's tests finds a fault
pub record Faultless (bytes : List ℕ) : Type 0 where
  pub short : too_long bytes ≡ false
  pub sound : NoneFaulty (records bytes)
  pub named : dangles (scopes_of bytes) ≡ false
  pub unshared : shares (scopes_of bytes) ≡ false
  pub typed : mismatches (scopes_of bytes) ≡ false
  pub unmixed : mixes (scopes_of bytes) ≡ false
  pub callable : scope_cycle (scopes_of bytes) ≡ false
  pub light : weight_exceeded (scopes_of bytes) ≡ false
  pub doable : dependency_cycle (scopes_of bytes) ≡ false

-- "per record 2, 1, 3, 4, 5": a record's first fault in that order
pub data FirstOf (m : Met) : Fault → Type 0 where
  second : unknown_kind m ≡ true → FirstOf m UnknownKind
  first : unknown_kind m ≡ false → truncated m ≡ true → FirstOf m Truncated
  third : unknown_kind m ≡ false → truncated m ≡ false → out_of_order m ≡ true → FirstOf m OutOfOrder
  fourth : unknown_kind m ≡ false → truncated m ≡ false → out_of_order m ≡ false → limit_exceeded m ≡ true → FirstOf m LimitExceeded
  fifth : unknown_kind m ≡ false → truncated m ≡ false → out_of_order m ≡ false → limit_exceeded m ≡ false → invalid_byte m ≡ true
      → FirstOf m InvalidByte

-- f is the first fault of the first faulty record
pub record FirstFaulty (ms : List Met) (f : Fault) : Type 0 where
  pub earlier : List Met
  pub faulty : Met
  pub later : List Met
  pub split : ms ≡ earlier ++ faulty ∷ later
  pub sound : NoneFaulty earlier
  pub fault : FirstOf faulty f

-- no fault of a number below k is in the book
abbrev pub FreeBelow : ℕ → List ℕ → Type 0
FreeBelow k bytes = (g : Fault) → fault_number g < k → InBook g bytes → ⊥

-- "Length first (4), then per record 2, 1, 3, 4, 5; then 6 to 12, each over the whole book": why a book is refused for f
pub data Refusal (bytes : List ℕ) : Fault → Type 0 where
  too_long_case : too_long bytes ≡ true → Refusal bytes LimitExceeded
  faulty_record : {f : Fault} → too_long bytes ≡ false → FirstFaulty (records bytes) f → Refusal bytes f
  whole_book_case : {f : Fault} → 6 ≤ fault_number f → InBook f bytes → FreeBelow (fault_number f) bytes → Refusal bytes f
