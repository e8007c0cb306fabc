-- Entries of blocks.
use Rattle.std.specs.Prelude.{ℕ, zero, suc, ◌+◌, ◌*◌, ◌<◌, ◌≤◌, ◌≡◌, Bool, true, false, cond, List, [], ◌∷◌, ◌⊎◌, length, get_or, eqb, Option, Result, Ok, Err}
use Rattle.evaluation.specs.Run.{values, ended}
use Rattle.machine.specs.Blocks.{Block, empty_block, parse}
use Rattle.machine.specs.Acceptance.{accepted}
use Rattle.machine.specs.Machine as machine
use Rattle.machine.specs.Run.{at_end, run_in}
use Rattle.directory.specs.Layout.{variables_in, sub_scopes_in}
use Rattle.directory.specs.Tabled as tables
use Rattle.blocks.specs.declared.Halt.{Halt}
use Rattle.blocks.specs.declared.Halt.TheVariants.{Ended, Stuck, NoRoom}
use Rattle.instructions.specs.Views.{givens_at, values_in, memory}
use Rattle.memo.specs.Rows.{Memo}
use Rattle.calculus.specs.declared.Value.{Value}

-- n cells from v on are not 0
unfoldable pub nonzero : List ℕ → ℕ → ℕ → Bool
nonzero cells v zero = true
nonzero cells v (suc n) = cond (eqb (get_or cells v 0) 0) false (nonzero cells (suc v) n)

-- the blocks below number p, last first
unfoldable pub back : List Block → ℕ → List Block
back bs zero = []
back bs (suc p) = get_or bs p empty_block ∷ back bs p

-- what entering block p with what is given comes to
unfoldable pub run_at : List ℕ → ℕ → List (Option Value) → machine.Ran
run_at code p gs = run_in (back (parse code 0).blocks (suc p)) (tables.block_at code p).scope gs

unfoldable pub variables_at : List ℕ → ℕ → ℕ
variables_at code p = length (tables.block_at code p).variables

-- slices that suffice for block p and those that it enters
pub record Enough (p : ℕ) (st tr : List ℕ) : Type 0 where
  pub stack : suc p * 1024 ≤ length st
  pub tries : suc p * 1024 ≤ length tr

-- how a run ended: at the end of its block, with the count of scopes entered, or stopped
abbrev pub Outcome : Type 0
Outcome = Result ℕ Halt

-- a run ended so, with the values in the cells
abbrev pub Shows : Outcome → machine.Ran → List ℕ → ℕ → Type 0 → Type 0
Shows (Ok n) s own v short = s ≡ machine.ran (values (values_in own 0 v) n)
Shows (Err (Ended c n)) s own v short = s ≡ machine.ran (ended c n)
Shows (Err Stuck) s own v short = s ≡ machine.stuck
Shows (Err NoRoom) s own v short = short

-- the cells of block p's variables and the marks of its sub-scopes
pub record Ending (directory : List ℕ) (p : ℕ) (own frame : List ℕ) : Type 0 where
  pub block : p < 32
  pub variables : variables_in directory p ≤ length own
  pub sub_scopes : 32 + sub_scopes_in directory p ≤ length frame

-- block p is at its end
pub record Finished (directory : List ℕ) (p : ℕ) (own frame : List ℕ) (count : ℕ) (r : Outcome) : Type 0 where
  pub shows : (sizes : ℕ → ℕ)
      → Shows r (at_end (memory (variables_in directory p) (sub_scopes_in directory p) sizes own frame count)) own (variables_in directory p) ⊥

-- block p of accepted code with its directory can be entered
pub record Entry (code directory : List ℕ) (p : ℕ) (own : List ℕ) : Type 0 where
  pub accepts : accepted code ≡ true
  pub tabled : tables.Tabled code directory (tables.block_count code)
  pub block : p < tables.block_count code
  pub room : length own ≡ 32

-- a frame in which nothing is stored, handed over or entered, with room for the sub-scopes of block p
pub record Fresh (directory : List ℕ) (p : ℕ) (frame : List ℕ) : Type 0 where
  pub size : 40 + sub_scopes_in directory p * 32 ≤ length frame
  pub zeros : (i : ℕ) → get_or frame i 0 ≡ 0

-- an entry came to what it should
pub record Came (code : List ℕ) (p : ℕ) (given : List ℕ) (r : Outcome) (own st tr : List ℕ) : Type 0 where
  pub size : length own ≡ 32
  pub shows : Shows r (run_at code p (givens_at given 0 (variables_at code p))) own (variables_at code p) (Enough p st tr → ⊥)

-- n bytes on, or at the end where they pass it
pub record Advances (next n end r : ℕ) : Type 0 where
  pub on : next ≤ r
  pub within : r ≤ end
  pub lands : (r ≡ next + n) ⊎ ((r ≡ end) × (end ≤ next + n))

-- an entry with slices that suffice came to what it should
pub record CameTo (code : List ℕ) (p : ℕ) (given : List ℕ) (r : Outcome) (own : List ℕ) : Type 0 where
  pub size : length own ≡ 32
  pub shows : Shows r (run_at code p (givens_at given 0 (variables_at code p))) own (variables_at code p) ⊥

-- there are 32 rows, and every row that has a count is what entering its block with nothing given comes to
pub record Known (code memo : List ℕ) : Type 0 where
  pub size : length memo ≡ 1056
  pub table : Memo (λ q count cells. CameTo code q [] (Ok count) cells) memo
