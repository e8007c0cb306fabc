-- Which code is accepted: all but 16, the paper's "bad code".
use Rattle.std.specs.Prelude.{ℕ, zero, suc, ◌+◌, Bool, true, false, not, cond, ◌&&◌, ◌||◌, List, [], ◌∷◌, length, get_or, drop, eqb, leb, ltb}
use Rattle.book.specs.Lists.{any}
use Rattle.book.specs.Records.{follows, invalid}
use Rattle.book.specs.Scopes.{sum}
use Rattle.machine.specs.Instructions.{Instruction, push, read_own, read_called, unary, binary, raise, jump, jump_if_no, begin_try, end_try, push_nothing, join, settle, store, override, enter, jump_if_given, unknown, instruction_of}
use Rattle.machine.specs.Blocks.{Block, body_length, stage_of, blocks_of, has_block, variables_of}

-- what was read before a record: the stage of the last one, and the variables and sub-scopes of its block
pub record Count : Type 0 where
  pub stage : ℕ
  pub variables : ℕ
  pub sub_scopes : ℕ

-- nothing read yet
abbrev pub start : Count
start = record { stage = 0; variables = 0; sub_scopes = 0 }

-- one more record of a stage; a new block counts its records from 0
unfoldable pub counted : ℕ → Count → Count
counted s t =
    cond (eqb s 1) (record { stage = 1; variables = 0; sub_scopes = 0 })
    (cond (eqb s 2) (record { stage = 2; variables = t.variables + 1; sub_scopes = t.sub_scopes })
    (cond (eqb s 3) (record { stage = 3; variables = t.variables; sub_scopes = t.sub_scopes + 1 })
    (record { stage = s; variables = t.variables; sub_scopes = t.sub_scopes })))

-- "faults 1–5 in code (32,768, nodes and clauses not applying)", of a record by its kind and all bytes after it
unfoldable pub faulty : Count → ℕ → List ℕ → Bool
faulty t k rest =
    -- 2: "unknown kind"
    eqb (stage_of k) 0
    -- 1: "a body passes the end"
    || (ltb (length rest) (body_length k)
    -- 3: "stage out of order, or no scope yet"
    || (not (follows t.stage (stage_of k))
    -- 4: 32 variables, 8 sub-scopes
    || (ltb 32 (counted (stage_of k) t).variables || (ltb 8 (counted (stage_of k) t).sub_scopes
    -- 5: "type, constant or rule byte outside its values"
    || invalid k rest))))

-- no record from here on is faulty, n bytes of a body left to pass
unfoldable pub sound : List ℕ → ℕ → Count → Bool
sound [] n t = true
sound (b ∷ rest) (suc n) t = sound rest n t
sound (k ∷ rest) zero t =
    let more = sound rest (body_length k) (counted (stage_of k) t) in
    not (faulty t k rest) && more

-- d bytes on stands an instruction or the end of the block, n bytes of a body left to pass
unfoldable pub lands : List ℕ → ℕ → ℕ → Bool
lands [] n zero = true
lands [] n (suc d) = false
lands (b ∷ rest) zero zero = true
lands (b ∷ rest) zero (suc d) = lands rest (body_length b) d
lands (b ∷ rest) (suc n) zero = false
lands (b ∷ rest) (suc n) (suc d) = lands rest n d

-- an instruction's numbers name something, and its distance lands; `after` are the bytes of the block after it
module _ (earlier : List Block) (b : Block) where
  abbrev pub names_own : ℕ → Bool
  names_own x = ltb x (length b.variables)

  abbrev pub names_sub : ℕ → Bool
  names_sub k = ltb k (length b.sub_scopes)

  abbrev pub names_called : ℕ → ℕ → Bool
  names_called k x = names_sub k && ltb x (length (variables_of earlier (get_or b.sub_scopes k 0)))

  -- "a number naming nothing", "a distance not at an instruction or end of its block"
  unfoldable pub fits : Instruction → List ℕ → Bool
  fits (push v) after = true
  fits (read_own x) after = names_own x
  fits (read_called k x) after = names_called k x
  fits (unary op) after = true
  fits (binary op) after = true
  fits (raise c) after = true
  fits (jump d) after = lands after 0 d
  fits (jump_if_no d) after = lands after 0 d
  fits (begin_try d) after = lands after 0 d
  fits end_try after = true
  fits push_nothing after = true
  fits join after = true
  fits (settle d) after = lands after 0 d
  fits (store x) after = names_own x
  fits (override k x) after = names_called k x
  fits (enter k) after = names_sub k
  fits (jump_if_given x d) after = names_own x && lands after 0 d
  fits unknown after = false

  -- the instructions from here on, n bytes of a body left to pass
  unfoldable pub all_fit : List ℕ → ℕ → Bool
  all_fit [] n = true
  all_fit (x ∷ rest) (suc n) = all_fit rest n
  all_fit (k ∷ rest) zero = fits (instruction_of k rest) (drop (body_length k) rest) && all_fit rest (body_length k)

-- "Weight: 1 plus the weights of the sub-scopes called", from the kinds 3, whether or not they are entered
unfoldable pub weight_in : List Block → ℕ → ℕ
weight_in [] i = 0
weight_in (b ∷ earlier) i =
    let called = weight_in earlier in
    cond (eqb b.scope i) (suc (sum called b.sub_scopes)) (called i)

-- "a repeated scope or one above 31, .. a sub-scope without an earlier block, .. overweight"
unfoldable pub well_formed : List Block → Block → Bool
well_formed earlier b =
    ltb b.scope 32
    && (not (has_block earlier b.scope)
    && (not (any (λ i. not (has_block earlier i)) b.sub_scopes)
    && (all_fit earlier b b.body 0
    && leb (weight_in (b ∷ earlier) b.scope) 4096)))

-- each block, with those behind it
unfoldable pub all_well_formed : List Block → Bool
all_well_formed [] = true
all_well_formed (b ∷ earlier) = well_formed earlier b && all_well_formed earlier

-- "A book is accepted when none of faults 1 to 12 is in it, code when 16 is not"
unfoldable pub accepted : List ℕ → Bool
accepted code = sound code 0 start && all_well_formed (blocks_of code)
