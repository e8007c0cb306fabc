-- The records of a book, each with what was read before it, and the faults 1 to 5 of a record.
use Rattle.std.specs.Prelude.{ℕ, zero, suc, ◌+◌, Bool, false, not, cond, ◌&&◌, ◌||◌, List, [], ◌∷◌, length, get_or, take, eqb, leb, ltb}
use Rattle.record.specs.Kinds.{shape_in}
use Rattle.record.specs.declared.Medium.TheVariants.{Book}
use Rattle.book.specs.declared.Tally.{Tally}

-- a record: what was read before it, its kind, and all bytes after its kind
pub record Met : Type 0 where
  pub before : Tally
  pub kind : ℕ
  pub rest : List ℕ

abbrev pub stage_of : Met → ℕ
stage_of m = (shape_in Book m.kind).stage

abbrev pub body_of : Met → List ℕ
body_of m = take (shape_in Book m.kind).length m.rest

-- nothing read yet
abbrev pub start : Tally
start = record { stage = 0; scopes = 0; variables = 0; subs = 0; nodes = 0; clauses = 0 }

-- one more record of a stage; a new scope counts its records from 0
unfoldable pub counted : ℕ → Tally → Tally
counted s t =
    cond (eqb s 1) (record { stage = 1; scopes = t.scopes + 1; variables = 0; subs = 0; nodes = 0; clauses = 0 })
    (cond (eqb s 2) (record { stage = 2; scopes = t.scopes; variables = t.variables + 1; subs = t.subs; nodes = t.nodes; clauses = t.clauses })
    (cond (eqb s 3) (record { stage = 3; scopes = t.scopes; variables = t.variables; subs = t.subs + 1; nodes = t.nodes; clauses = t.clauses })
    (cond (eqb s 4) (record { stage = 4; scopes = t.scopes; variables = t.variables; subs = t.subs; nodes = t.nodes + 1; clauses = t.clauses })
    (cond (eqb s 5) (record { stage = 5; scopes = t.scopes; variables = t.variables; subs = t.subs; nodes = t.nodes; clauses = t.clauses + 1 })
    t))))

-- the records from here on, n bytes of a body left to pass: "reading goes on from the record after the last one read"; after an unknown
-- kind nobody can read on
unfoldable pub records_from : List ℕ → ℕ → Tally → List Met
records_from [] n t = []
records_from (k ∷ rest) zero t =
    let more = records_from rest (shape_in Book k).length (counted (shape_in Book k).stage t) in
    record { before = t; kind = k; rest = rest } ∷ cond (eqb (shape_in Book k).stage 0) [] more
records_from (b ∷ rest) (suc n) t = records_from rest n t

unfoldable pub records : List ℕ → List Met
records bytes = records_from bytes 0 start

-- 2, the paper's "strange": "unknown kind"
abbrev pub unknown_kind : Met → Bool
unknown_kind m = eqb (stage_of m) 0

-- 1, the paper's "cut": "a body passes the end"
abbrev pub truncated : Met → Bool
truncated m = ltb (length m.rest) (shape_in Book m.kind).length

-- "Stages within a scope: 1, then 2, 3, 4–18, 19–20, never back except by a new kind 1"
unfoldable pub follows : ℕ → ℕ → Bool
follows last s = eqb s 1 || (leb 1 last && leb last s)

-- 3, the paper's "astray": "stage out of order, or no scope yet"
abbrev pub out_of_order : Met → Bool
out_of_order m = not (unknown_kind m || follows m.before.stage (stage_of m))

-- "32 scopes; per scope 32 variables, 8 sub-scopes, 250 nodes, 128 clauses"; "32 scopes pass and 33 are crowded"
unfoldable pub exceeds : Tally → Bool
exceeds t = ltb 32 t.scopes || (ltb 32 t.variables || (ltb 8 t.subs || (ltb 250 t.nodes || ltb 128 t.clauses)))

-- 4, the paper's "crowded": "a limit above is passed", by this record or, of scopes, by one before it
abbrev pub limit_exceeded : Met → Bool
limit_exceeded m = exceeds (counted (stage_of m) m.before)

-- 5, the paper's "misprint": "type, constant or rule byte outside its values"
unfoldable pub invalid : ℕ → List ℕ → Bool
invalid k body =
    let first = get_or body 0 0 in
    cond (eqb k 2 || (eqb k 8 || eqb k 9)) (not (eqb first 1 || eqb first 2))
    (cond (eqb k 4) (ltb 1 first)
    (cond (eqb k 20) (ltb 1 (get_or body 4 0))
    false))

abbrev pub invalid_byte : Met → Bool
invalid_byte m = not (truncated m) && invalid m.kind (body_of m)

-- "book 32,768 bytes"; "32,768 bytes may pass and 32,769 are crowded"
unfoldable pub too_long : List ℕ → Bool
too_long bytes = ltb 32768 (length bytes)
