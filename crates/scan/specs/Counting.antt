-- How many records of each stage were read, as the index has it.
use Rattle.std.specs.Prelude.{ℕ, ◌+◌, ◌-◌, ◌*◌, ◌≤◌, ◌≡◌, cond, List, length, eqb, ltb}
use Rattle.book.specs.declared.Tally.{Tally}
use Rattle.book.specs.Limits.{InLimits}
use Rattle.index.specs.Index.{index_at}
use Rattle.scan.specs.declared.Slot.{Slot}

-- the column of a scope's row where the positions of a stage begin, and how many records of it there may be; stage 1 has no column
unfoldable pub slot_of : ℕ → Slot
slot_of s =
    cond (eqb s 1) (record { base = 0; limit = 32 })
    (cond (eqb s 2) (record { base = 4; limit = 32 })
    (cond (eqb s 3) (record { base = 36; limit = 8 })
    (cond (eqb s 4) (record { base = 44; limit = 250 })
    (record { base = 294; limit = 128 }))))

-- how many records of a stage there are: scopes in the book, others in the last scope
unfoldable pub number_of : List ℕ → ℕ → ℕ → ℕ
number_of index s scopes = cond (ltb s 2) scopes (index_at index (scopes - 1) (s - 2))

-- the number of scopes with a record of a stage
unfoldable pub scopes_with : ℕ → ℕ → ℕ
scopes_with s scopes = cond (eqb s 1) (scopes + 1) scopes

-- what was read: the stage of the last record, the scopes, and the records of the last scope
unfoldable pub tally_of : List ℕ → ℕ → ℕ → Tally
tally_of index last scopes =
    record {
      stage = last;
      scopes = scopes;
      variables = index_at index (scopes - 1) 0;
      subs = index_at index (scopes - 1) 1;
      nodes = index_at index (scopes - 1) 2;
      clauses = index_at index (scopes - 1) 3;
    }

-- the index has a count for a stage
pub record Counts (index : List ℕ) (s scopes : ℕ) : Type 0 where
  pub size : 128 + scopes * 418 ≤ length index
  pub stage : s ≤ 5
  pub few : scopes ≤ 32
  pub opened : 2 ≤ s → 1 ≤ scopes

-- the index has the rows of all scopes so far, and no others
pub record Counting (index : List ℕ) (last scopes : ℕ) : Type 0 where
  pub size : 128 + scopes * 418 ≤ length index
  pub within : InLimits (tally_of index last scopes)
  pub opened : 1 ≤ last → 1 ≤ scopes
  pub later : (i k : ℕ) → scopes ≤ i → index_at index i k ≡ 0
