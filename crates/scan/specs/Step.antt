-- One record of a book, as the pass over the records reads it.
use Rattle.std.specs.Prelude.{ℕ, ◌+◌, ◌-◌, cond, not, List, length, get_or, drop, ltb, Result, Ok, Err}
use Rattle.record.specs.Kinds.{shape_in}
use Rattle.record.specs.Record.{record_at}
use Rattle.record.specs.declared.Record.{Record}
use Rattle.record.specs.declared.Medium.TheVariants.{Book}
use Rattle.book.specs.declared.Tally.{Tally}
use Rattle.answers.specs.declared.Fault.TheVariants.{Truncated, UnknownKind, OutOfOrder, LimitExceeded, InvalidByte}
use Rattle.book.specs.Records.{Met, stage_of, follows, counted, exceeds, invalid, unknown_kind, truncated, out_of_order, limit_exceeded, invalid_byte}
use Rattle.scan.specs.Counting.{tally_of}
use Rattle.answers.specs.declared.Fault.{Fault}
use Rattle.scan.specs.declared.Passed.{Passed}

-- a record without a fault
abbrev pub passed : ℕ → ℕ → Passed
passed s next = record { stage = s; next = next }

-- a record's first fault, in the order 2, 1, 3, 4, 5, or its stage and the position after it
unfoldable pub step_of : Met → ℕ → Result Passed Fault
step_of m next =
    cond (unknown_kind m) (Err UnknownKind)
    (cond (truncated m) (Err Truncated)
    (cond (out_of_order m) (Err OutOfOrder)
    (cond (limit_exceeded m) (Err LimitExceeded)
    (cond (invalid_byte m) (Err InvalidByte)
    (Ok (passed (stage_of m) next))))))

-- what stands at a position of a book
unfoldable pub book_record_at : List ℕ → ℕ → Record
book_record_at bytes at = record_at Book bytes at

-- "reading goes on from the record after the last one read": after a record at a position, its body of n bytes; at that position, if it is not whole
unfoldable pub end_at : List ℕ → ℕ → ℕ → ℕ
end_at bytes at n = cond (ltb at (length bytes)) (cond (ltb (length bytes - (at + 1)) n) at (at + 1 + n)) at

-- the record that begins at a position
unfoldable pub met_at : List ℕ → ℕ → Tally → Met
met_at bytes at t = record { before = t; kind = get_or bytes at 0; rest = drop (at + 1) bytes }

unfoldable pub step_at : List ℕ → ℕ → Tally → Result Passed Fault
step_at bytes at t = step_of (met_at bytes at t) (end_at bytes at (shape_in Book (get_or bytes at 0)).length)

-- of a whole record, up to the next one, the faults 3, 4 and 5
unfoldable pub step_over : List ℕ → ℕ → ℕ → ℕ → ℕ → ℕ → List ℕ → Result Passed Fault
step_over index last scopes k s next body =
    cond (not (follows last s)) (Err OutOfOrder)
    (cond (exceeds (counted s (tally_of index last scopes))) (Err LimitExceeded)
    (cond (invalid k body) (Err InvalidByte)
    (Ok (passed s next))))
