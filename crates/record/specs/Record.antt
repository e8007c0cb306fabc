-- A record at a position: "each one byte of kind and a body".
use Rattle.std.specs.Prelude.{ℕ, ◌+◌, ◌-◌, Bool, true, false, List, length, get_or, take, drop, eqb, ltb}
use Rattle.record.specs.Kinds.{shape_in}
use Rattle.record.specs.declared.Medium.{Medium}
use Rattle.record.specs.declared.Shape.{Shape}
use Rattle.record.specs.declared.Record.{Record}
use Rattle.record.specs.declared.Record.TheVariants.{End, Unknown, Truncated, Whole}

abbrev pub pick_record : Bool → Record → Record → Record
pick_record true a b = a
pick_record false a b = b

-- a kind of this shape with `left` bytes after it: unknown kind, then "a body passes the end"
abbrev pub record_of : Shape → ℕ → ℕ → Record
record_of shape kind left =
    pick_record (eqb shape.stage 0) Unknown
    (pick_record (ltb left shape.length) Truncated
    (Whole kind shape.stage shape.length))

-- what stands at a position: nothing more, an unknown kind, a body that passes the end, or a whole record
unfoldable pub record_at : Medium → List ℕ → ℕ → Record
record_at m s at =
    pick_record (ltb at (length s))
    (record_of (shape_in m (get_or s at 0)) (get_or s at 0) (length s - (at + 1)))
    End

-- "a record's body is the part of the lent bytes after its kind"
unfoldable pub body_at : List ℕ → ℕ → ℕ → List ℕ
body_at s at n = take n (drop (at + 1) s)
