-- Judging a book: the first fault in the order written, or the number of scopes.
use Rattle.std.specs.Prelude.{ℕ, ◌≡◌, true, cond, ◌||◌, List, [], ◌∷◌, length, Option, None, Some, Result, Ok, Err}
use Rattle.book.specs.Lists.{any}
use Rattle.book.specs.Syntax.{Scope}
use Rattle.book.specs.Records.{Met, records, unknown_kind, truncated, out_of_order, limit_exceeded, invalid_byte, too_long}
use Rattle.book.specs.Decode.{scopes_of}
use Rattle.book.specs.References.{dangles}
use Rattle.book.specs.Sharing.{shares}
use Rattle.book.specs.Typing.{mismatches}
use Rattle.book.specs.Mixing.{mixes}
use Rattle.book.specs.Scopes.{scope_cycle, HasScopeCycle, weight_exceeded}
use Rattle.book.specs.Steps.{dependency_cycle, HasDependencyCycle}
use Rattle.answers.specs.declared.Fault.{Fault}
use Rattle.answers.specs.declared.Fault.TheVariants.{Truncated, UnknownKind, OutOfOrder, LimitExceeded, InvalidByte, DanglingReference, SharedNode, TypeMismatch, MixedClauses, ScopeCycle, WeightExceeded, DependencyCycle}

-- "A book is accepted when none of faults 1 to 12 is in it": when a fault is; scope and dependency cycle are those of reaching
abbrev pub InBook : Fault → List ℕ → Type 0
InBook Truncated bytes = any truncated (records bytes) ≡ true
InBook UnknownKind bytes = any unknown_kind (records bytes) ≡ true
InBook OutOfOrder bytes = any out_of_order (records bytes) ≡ true
InBook LimitExceeded bytes = (too_long bytes || any limit_exceeded (records bytes)) ≡ true
InBook InvalidByte bytes = any invalid_byte (records bytes) ≡ true
InBook DanglingReference bytes = dangles (scopes_of bytes) ≡ true
InBook SharedNode bytes = shares (scopes_of bytes) ≡ true
InBook TypeMismatch bytes = mismatches (scopes_of bytes) ≡ true
InBook MixedClauses bytes = mixes (scopes_of bytes) ≡ true
InBook ScopeCycle bytes = HasScopeCycle (scopes_of bytes)
InBook WeightExceeded bytes = weight_exceeded (scopes_of bytes) ≡ true
InBook DependencyCycle bytes = HasDependencyCycle (scopes_of bytes)

-- "then per record 2, 1, 3, 4, 5": the first faulty record decides; so "An empty book is accepted and has no scopes"
unfoldable pub scan : List Met → Option Fault
scan [] = None
scan (m ∷ ms) =
    let more = scan ms in
    cond (unknown_kind m) (Some UnknownKind)
    (cond (truncated m) (Some Truncated)
    (cond (out_of_order m) (Some OutOfOrder)
    (cond (limit_exceeded m) (Some LimitExceeded)
    (cond (invalid_byte m) (Some InvalidByte)
    more))))

-- "then 6 to 12, each over the whole book"
unfoldable pub whole_book : List Scope → Result ℕ Fault
whole_book book =
    cond (dangles book) (Err DanglingReference)
    (cond (shares book) (Err SharedNode)
    (cond (mismatches book) (Err TypeMismatch)
    (cond (mixes book) (Err MixedClauses)
    (cond (scope_cycle book) (Err ScopeCycle)
    (cond (weight_exceeded book) (Err WeightExceeded)
    (cond (dependency_cycle book) (Err DependencyCycle)
    (Ok (length book))))))))

-- where no record is faulty, the whole book decides
abbrev pub after_records : Option Fault → Result ℕ Fault → Result ℕ Fault
after_records None whole = whole
after_records (Some f) whole = Err f

-- "Length first (4), then per record 2, 1, 3, 4, 5; then 6 to 12, each over the whole book"; "Judging hands back the number of scopes"
unfoldable pub judge : List ℕ → Result ℕ Fault
judge bytes = cond (too_long bytes) (Err LimitExceeded) (after_records (scan (records bytes)) (whole_book (scopes_of bytes)))
