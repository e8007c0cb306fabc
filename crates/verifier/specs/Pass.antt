-- The pass over the records of code: what was read before a record, and what is known of it.
use Rattle.std.specs.Prelude.{ℕ, zero, suc, ◌+◌, ◌-◌, ◌*◌, ◌%◌, ◌<◌, ◌≤◌, ◌≡◌, Bool, true, false, cond, ◌&&◌, ◌||◌, List, ◌++◌, reverse, ◌⊎◌, length, get_or, take, drop, set, eqb, ltb, Option, Some, None}
use Rattle.book.specs.Scopes.{sum}
use Rattle.book.specs.declared.ValueType.TheVariants.{YesNo}
use Rattle.record.specs.Kinds.{shape_in}
use Rattle.record.specs.declared.Shape.{Shape}
use Rattle.record.specs.declared.Medium.TheVariants.{Code}
use Rattle.machine.specs.Blocks.{Block, Parsed, empty_block, body_length, stage_of, parse, has_block, variables_of}
use Rattle.machine.specs.Acceptance.{Count, start, counted, faulty, sound, lands, all_fit, weight_in, all_well_formed, accepted}
use Rattle.verifier.specs.Instructions.{form_of, named, distance_of, reach_after, ring_after}
use Rattle.directory.specs.Layout.{place_in, block_weight, block_in, size_in, type_in}
use Rattle.directory.specs.Tabled.{block_at, Entered, Tabled, Room}
use Rattle.verifier.specs.declared.Progress.{Progress}
use Rattle.verifier.specs.declared.Landing.{Landing}
use Rattle.verifier.specs.declared.Landing.TheVariants.{Ahead}
use Rattle.verifier.specs.declared.Landing.TheVariants as landing

-- what acceptance counts of it
abbrev pub count_of : Progress → Count
count_of u = record { stage = u.stage; variables = u.variables; sub_scopes = u.subs }

-- the record at a position has one of the faults 1 to 5
unfoldable pub faulty_at : List ℕ → ℕ → Progress → Bool
faulty_at code at u = faulty (count_of u) (get_or code at 0) (drop (at + 1) code)

-- one more record of a stage is one variable or one sub-scope too many
unfoldable pub exceeds_with : ℕ → Progress → Bool
exceeds_with s u = ltb 32 (counted s (count_of u)).variables || ltb 8 (counted s (count_of u)).sub_scopes

-- within the stages and limits
pub record Limited (u : Progress) : Type 0 where
  pub stage : u.stage ≤ 4
  pub variables : u.variables ≤ 32
  pub subs : u.subs ≤ 8

-- the record at a position is of a kind and its shape; no instruction, or one before any block
pub record AtKind (code : List ℕ) (at kind : ℕ) (shape : Shape) (u : Progress) : Type 0 where
  pub here : at < length code
  pub limited : Limited u
  pub kind_is : kind ≡ get_or code at 0
  pub shape_is : shape ≡ shape_in Code (get_or code at 0)
  pub no_instruction : stage_of (get_or code at 0) ≡ 4 → u.stage ≡ 0

-- the numbers of an instruction at a position name something in the present block, as the directory has it
unfoldable pub names_at : ℕ → List ℕ → ℕ → List ℕ → Progress → Bool
names_at form code at directory u =
    let a = get_or code (at + 1) 0 in
    named form a (get_or code (at + 2) 0) u.variables u.subs (size_in directory u.blocks a)

-- the present block has a row, and the sub-scopes read so far have blocks
pub record Called (u : Progress) (directory : List ℕ) : Type 0 where
  pub blocks : u.blocks < 32
  pub few : u.subs ≤ 8
  pub subs : (k : ℕ) → k < u.subs → block_in directory u.blocks k < 32

-- the first two numbers behind a position name a sub-scope of the present block and one of its variables
unfoldable pub called_at : List ℕ → ℕ → List ℕ → Progress → Bool
called_at code at directory u =
    let a = get_or code (at + 1) 0 in
    ltb a u.subs && ltb (get_or code (at + 2) 0) (size_in directory u.blocks a)

-- What was read

-- before the first record
abbrev pub nothing_read : Progress
nothing_read = record { stage = 0; variables = 0; subs = 0; blocks = 0; scope = 0; begin = 0; weight = 0; reach = 0 }

-- kind 1 after m closed blocks, up to the next record
abbrev pub block_read : ℕ → ℕ → ℕ → Progress
block_read m scope next = record { stage = 1; variables = 0; subs = 0; blocks = m; scope = scope; begin = next; weight = 1; reach = 0 }

-- kind 2, up to the next record
abbrev pub variable_read : Progress → ℕ → Progress
variable_read u next =
    record {
      stage = 2;
      variables = u.variables + 1;
      subs = u.subs;
      blocks = u.blocks;
      scope = u.scope;
      begin = next;
      weight = u.weight;
      reach = u.reach;
    }

-- kind 3, whose block has a weight
abbrev pub sub_scope_read : Progress → ℕ → ℕ → Progress
sub_scope_read u weight next =
    record {
      stage = 3;
      variables = u.variables;
      subs = u.subs + 1;
      blocks = u.blocks;
      scope = u.scope;
      begin = next;
      weight = u.weight +
          weight;
      reach = u.reach;
    }

-- an instruction, with the farthest landing after it
abbrev pub instruction_read : Progress → ℕ → Progress
instruction_read u reach =
    record {
      stage = 4;
      variables = u.variables;
      subs = u.subs;
      blocks = u.blocks;
      scope = u.scope;
      begin = u.begin;
      weight = u.weight;
      reach = reach;
    }

-- The landings that lie ahead

-- the mark of a position, by its remainder
unfoldable pub mark : List ℕ → ℕ → ℕ
mark ring d = get_or ring (d % 65536) 0

-- position d lies in the window from a position on, and is marked
pub record Marked (ring : List ℕ) (at d : ℕ) : Type 0 where
  pub from : at ≤ d
  pub window : d < at + 65536
  pub set : 0 < mark ring d

-- nothing is marked from a position on
abbrev pub Quiet : List ℕ → ℕ → Type 0
Quiet ring at = (d : ℕ) → Marked ring at d → ⊥

-- the answer says whether nothing is marked from a position on up to an end
pub record Passed (ring : List ℕ) (from end : ℕ) (r : Bool) : Type 0 where
  pub clear : r ≡ true → (d : ℕ) → from ≤ d → d < end → mark ring d ≡ 0
  pub hit : r ≡ false → (d : ℕ) × (from ≤ d) × (d < end) × (0 < mark ring d)

-- each marked landing is an instruction of the bytes, or their end
abbrev pub AllLand : List ℕ → ℕ → List ℕ → Type 0
AllLand ring at bytes = (d : ℕ) → Marked ring at d → lands bytes 0 (d - at) ≡ true

-- the instructions of a block fit where those that are left fit and the landings ahead, the farthest at `reach`, are met
pub record Marks (earlier : List Block) (b : Block) (left : List ℕ) (at reach : ℕ) (ring : List ℕ) : Type 0 where
  pub onward : AllLand ring at left → all_fit earlier b left 0 ≡ true → all_fit earlier b b.body 0 ≡ true
  pub back : all_fit earlier b b.body 0 ≡ true → AllLand ring at left × (all_fit earlier b left 0 ≡ true)
  pub bound : (d : ℕ) → Marked ring at d → d ≤ at + (reach - at)
  pub reached : at < reach → Marked ring at reach

-- The blocks

-- the blocks before block m, last block first
unfoldable pub earlier : List ℕ → ℕ → List Block
earlier code m = reverse (take m (parse code 0).blocks)

-- the records from a position on
unfoldable pub ahead : List ℕ → ℕ → Parsed
ahead code at = parse (drop at code) 0

-- how many of the first n scopes have a block
unfoldable pub filled : List ℕ → ℕ → ℕ
filled directory zero = 0
filled directory (suc n) = cond (eqb (place_in directory n) 0) 0 1 + filled directory n

-- m blocks are closed
pub record AreClosed (code : List ℕ) (m : ℕ) (directory : List ℕ) : Type 0 where
  pub within : m ≤ length (parse code 0).blocks
  pub well_formed : all_well_formed (earlier code m) ≡ true
  pub entered : (p : ℕ) → p < m → Entered code directory p
  pub found : (p : ℕ) → p < m → place_in directory (block_at code p).scope ≡ suc p
  pub present : (i : ℕ) → 0 < place_in directory i → (place_in directory i ≤ m) × ((block_at code (place_in directory i - 1)).scope ≡ i)
  pub used : filled directory 32 ≡ m
  pub small : (p : ℕ) → p < m → (length (block_at code p).variables ≤ 32) × (length (block_at code p).sub_scopes ≤ 8)
  pub known : (i : ℕ) → has_block (earlier code m) i ≡ ltb 0 (place_in directory i)
  pub weighed : (p : ℕ) → p < m → weight_in (earlier code m) (block_at code p).scope ≡ block_weight directory p
  pub light : (p : ℕ) → p < m → block_weight directory p ≤ 4096
  pub declared : (p : ℕ) → p < m → variables_of (earlier code m) (block_at code p).scope ≡ (block_at code p).variables

-- what was read of the present block
pub record Head (code : List ℕ) (at : ℕ) (u : Progress) : Type 0 where
  pub present : u.blocks < length (parse code 0).blocks
  pub room : u.blocks < 32
  pub later : drop (suc u.blocks) (parse code 0).blocks ≡ (ahead code at).blocks
  pub variables_read : u.variables ≤ length (block_at code u.blocks).variables
  pub variables_left : drop u.variables (block_at code u.blocks).variables ≡ (ahead code at).opened.variables
  pub subs_read : u.subs ≤ length (block_at code u.blocks).sub_scopes
  pub subs_left : drop u.subs (block_at code u.blocks).sub_scopes ≡ (ahead code at).opened.sub_scopes
  pub scope : u.scope ≡ (block_at code u.blocks).scope
  pub scope_small : u.scope < 32
  pub fresh : has_block (earlier code u.blocks) u.scope ≡ false
  pub begun : u.begin ≤ at
  pub body : take (at - u.begin) (drop u.begin code) ++ (ahead code at).opened.body ≡ (block_at code u.blocks).body
  pub known : (k : ℕ) → k < u.subs → has_block (earlier code u.blocks) (get_or (block_at code u.blocks).sub_scopes k 0) ≡ true
  pub weight : u.weight ≡ suc (sum (weight_in (earlier code u.blocks)) (take u.subs (block_at code u.blocks).sub_scopes))
  pub weight_few : u.weight ≤ 1 + 4096 * u.subs

-- what the directory holds of it
pub record Noted (code : List ℕ) (u : Progress) (directory : List ℕ) : Type 0 where
  pub types : (v : ℕ) → v < u.variables
      → type_in directory u.blocks v ≡ (get_or (block_at code u.blocks).variables v (record { holds = YesNo })).holds
  pub earlier : (k : ℕ) → k < u.subs → block_in directory u.blocks k < u.blocks
  pub subs : (k : ℕ) → k < u.subs
      → (block_at code (block_in directory u.blocks k)).scope ≡ get_or (block_at code u.blocks).sub_scopes k 0

-- a block is open
pub record Busy (code : List ℕ) (at : ℕ) (u : Progress) (directory ring : List ℕ) : Type 0 where
  pub head : Head code at u
  pub noted : Noted code u directory
  pub marks : Marks (earlier code u.blocks) (block_at code u.blocks) (ahead code at).opened.body at u.reach ring
  pub quiet : u.stage < 4 → Quiet ring at
  pub still : u.stage < 4 → (u.reach ≡ 0) × (u.begin ≡ at)

-- no block is open after m closed ones
pub record Idle (code : List ℕ) (at m : ℕ) (ring : List ℕ) : Type 0 where
  pub later : drop m (parse code 0).blocks ≡ (ahead code at).blocks
  pub quiet : Quiet ring at

-- the ring has a mark for each position up to n
abbrev pub RingRoom : List ℕ → ℕ → Type 0
RingRoom ring n = (d : ℕ) → d ≤ n → d % 65536 < length ring

-- there is room in directory and ring
pub record Sized (code directory ring : List ℕ) : Type 0 where
  pub room : Room code directory
  pub ring_room : RingRoom ring (length code)

-- what holds before the record at a position
pub record Reading (code : List ℕ) (at : ℕ) (u : Progress) (directory ring : List ℕ) : Type 0 where
  pub sized : Sized code directory ring
  pub limited : Limited u
  pub inside : at ≤ length code
  pub sound : sound (drop at code) 0 (count_of u) ≡ sound code 0 start
  pub closed : AreClosed code u.blocks directory
  pub idle : u.stage ≡ 0 → Idle code at u.blocks ring
  pub busy : 1 ≤ u.stage → Busy code at u directory ring

-- The contracts of a record's ways

-- the position of the next record and what was read, unless the code is refused
abbrev pub Step : Type 0
Step = Option (ℕ × Progress)

-- after the record at a position: code that is not accepted is refused, else the next record is read
abbrev pub Stepped : List ℕ → ℕ → List ℕ → List ℕ → Step → Type 0
Stepped code at directory ring None = accepted code ≡ false
Stepped code at directory ring (Some x) = (at < x.0) × Reading code x.0 x.1 directory ring

-- the record at a position is no instruction, or one before any block
pub record AtHeading (code : List ℕ) (at : ℕ) (u : Progress) (directory ring : List ℕ) : Type 0 where
  pub reading : Reading code at u directory ring
  pub here : at < length code
  pub no_instruction : stage_of (get_or code at 0) ≡ 4 → u.stage ≡ 0

-- a body of n bytes behind a position can be looked at
pub record BodyRoom (code : List ℕ) (at n : ℕ) (ring : List ℕ) : Type 0 where
  pub here : at < length code
  pub short : n ≤ 4
  pub ring_room : RingRoom ring (length code)

-- something lands in it
abbrev pub Hit : ℕ → ℕ → List ℕ → Type 0
Hit at n ring = (p : ℕ) × (at + 1 ≤ p) × (p < at + 1 + n) × (0 < mark ring p)

-- the answer says whether it is whole and nothing lands in it
pub record BodyPassed (code : List ℕ) (at n : ℕ) (ring : List ℕ) (r : Bool) : Type 0 where
  pub whole : r ≡ true → at + n < length code
  pub clear : r ≡ true → (p : ℕ) → at + 1 ≤ p → p < at + 1 + n → mark ring p ≡ 0
  pub stopped : r ≡ false → (length code ≤ at + n) ⊎ Hit at n ring

-- an instruction with a body of n bytes, whose numbers name something, as `there` says, and a distance d fits
pub record Fit (code : List ℕ) (at n : ℕ) (ring : List ℕ) (there : Bool) (d : ℕ) : Type 0 where
  pub clear : (p : ℕ) → at + 1 ≤ p → p < at + 1 + n → mark ring p ≡ 0
  pub names : there ≡ true
  pub near : at + 1 + n + d ≤ length code
  pub small : d < 65536

-- it is cut off, something lands in it, its numbers name nothing, or its distance lands past the code
abbrev pub Flaw : List ℕ → ℕ → ℕ → List ℕ → Bool → ℕ → Type 0
Flaw code at n ring there d = (length code ≤ at + n) ⊎ (Hit at n ring ⊎ ((there ≡ false) ⊎ (length code < at + 1 + n + d)))

-- the answer says whether it fits
unfoldable pub Bodied : List ℕ → ℕ → ℕ → List ℕ → Bool → ℕ → Landing → Type 0
Bodied code at n ring there d landing.Heading = ⊥
Bodied code at n ring there d landing.Refused = Flaw code at n ring there d
Bodied code at n ring there d (Ahead e) = (e ≡ d) × Fit code at n ring there d

-- an instruction at a position, without fault
pub record AtInstruction (code : List ℕ) (at : ℕ) (u : Progress) (directory ring : List ℕ) (n d : ℕ) : Type 0 where
  pub fine : faulty_at code at u ≡ false
  pub stage : stage_of (get_or code at 0) ≡ 4
  pub length_is : n ≡ body_length (get_or code at 0)
  pub distance_is : d ≡ distance_of (form_of (get_or code at 0)) code at
  pub fit : Fit code at n ring (names_at (form_of (get_or code at 0)) code at directory u) d

-- the answer says what the record at a position is
unfoldable pub Landed : List ℕ → ℕ → Progress → List ℕ → List ℕ → Landing → Type 0
Landed code at u directory ring landing.Heading = stage_of (get_or code at 0) ≡ 4 → u.stage ≡ 0
Landed code at u directory ring landing.Refused = accepted code ≡ false
Landed code at u directory ring (Ahead d) = AtInstruction code at u directory ring (body_length (get_or code at 0)) d

-- the marks of an instruction and of its landing lie in the ring
pub record Instructing (at next d : ℕ) (ring : List ℕ) : Type 0 where
  pub here : at % 65536 < length ring
  pub landing : (next + d) % 65536 < length ring
  pub small : next + d < 18446744073709551616

-- what was read after an instruction, and the marks
abbrev pub Instructed : ℕ → ℕ → ℕ → Progress → List ℕ → List ℕ → Progress → Type 0
Instructed at next d u ring ring' r = (r ≡ instruction_read u (reach_after u.reach next d)) × (ring' ≡ ring_after ring at next d)

-- the present block ends at a position
pub record Leaving (code : List ℕ) (at : ℕ) (u : Progress) (directory ring : List ℕ) : Type 0 where
  pub reading : Reading code at u directory ring
  pub ended : (ahead code at).opened ≡ empty_block

-- m blocks are closed, and none is open
pub record AllClosed (code : List ℕ) (at m : ℕ) (directory ring : List ℕ) : Type 0 where
  pub sized : Sized code directory ring
  pub closed : AreClosed code m directory
  pub idle : Idle code at m ring

-- after a block's end: code that is not accepted is refused, else the block is closed
abbrev pub Left : List ℕ → ℕ → List ℕ → List ℕ → Option ℕ → Type 0
Left code at directory ring None = accepted code ≡ false
Left code at directory ring (Some m) = AllClosed code at m directory ring

-- the record at a position begins a block of a scope
pub record Beginning (code : List ℕ) (at next scope : ℕ) (u : Progress) (directory ring : List ℕ) : Type 0 where
  pub reading : Reading code at u directory ring
  pub here : at < length code
  pub fine : faulty_at code at u ≡ false
  pub stage : stage_of (get_or code at 0) ≡ 1
  pub next_is : next ≡ at + 1 + body_length (get_or code at 0)
  pub scope_is : scope ≡ get_or (drop (at + 1) code) 0 0

-- a block of a scope after m closed ones: "a repeated scope or one above 31" is refused
unfoldable pub opening : ℕ → ℕ → ℕ → List ℕ → Step
opening scope next m directory =
    cond (ltb 31 scope) None (cond (eqb (place_in directory scope) 0) (Some (next, block_read m scope next)) None)

-- there is room for one more variable
pub record VariableRoom (u : Progress) (directory : List ℕ) : Type 0 where
  pub blocks : u.blocks < 32
  pub variables : u.variables < 32
  pub row : u.blocks * 45 + 77 ≤ length directory

-- one more variable, of a type byte
abbrev pub VariableNoted : ℕ → ℕ → Progress → List ℕ → List ℕ → Progress → Type 0
VariableNoted byte next u directory directory' r =
    (r ≡ variable_read u next) × (directory' ≡ set directory (u.blocks * 45 + 45 + u.variables) byte) × (byte < 256)

-- the block of a scope that has one
abbrev pub block_of : List ℕ → ℕ → ℕ
block_of directory scope = place_in directory scope - 1

-- there is room for one more sub-scope
pub record SubRoom (scope : ℕ) (u : Progress) (directory : List ℕ) : Type 0 where
  pub blocks : u.blocks < 32
  pub subs : u.subs < 8
  pub row : u.blocks * 45 + 77 ≤ length directory
  pub place : place_in directory scope ≤ 32
  pub weight : 0 < place_in directory scope → u.weight + block_weight directory (block_of directory scope) ≤ 40000

-- one more sub-scope, unless its scope has no block yet
pub record SubRead (scope next : ℕ) (u : Progress) (directory directory' : List ℕ) (r : Step) : Type 0 where
  pub missing : place_in directory scope ≡ 0 → r ≡ None
  pub read : (place_in directory scope ≡ 0 → ⊥) → (r ≡ Some (next, sub_scope_read u (block_weight directory (block_of directory scope)) next)) ×
      (directory' ≡ set directory (u.blocks * 45 + 37 + u.subs) (block_of directory scope))

-- a directory and a ring that are still empty
pub record Empty (code directory ring : List ℕ) : Type 0 where
  pub room : Room code directory
  pub no_places : (i : ℕ) → place_in directory i ≡ 0
  pub no_marks : (i : ℕ) → get_or ring i 0 ≡ 0
  pub ring_room : RingRoom ring (length code)

-- the answer says whether code is accepted, and of accepted code the directory holds the blocks
abbrev pub Judged : List ℕ → List ℕ → Option ℕ → Type 0
Judged code directory None = accepted code ≡ false
Judged code directory (Some n) = (accepted code ≡ true) × Tabled code directory n
