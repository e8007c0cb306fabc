-- The run of a block at a place of it, and what an instruction there does.
use Rattle.std.specs.Prelude.{ℕ, suc, ◌+◌, ◌-◌, ◌<◌, ◌≤◌, ◌≡◌, true, List, [], ◌∷◌, length, get_or, Result, Ok, Err}
use Rattle.book.specs.Scopes.{sum}
use Rattle.evaluation.specs.Run.{ended}
use Rattle.machine.specs.Blocks.{Block, empty_block, parse}
use Rattle.machine.specs.Acceptance.{lands, weight_in}
use Rattle.machine.specs.Machine.{Callee, waiting, entered, Memory, Try, Surroundings}
use Rattle.machine.specs.Machine as machine
use Rattle.machine.specs.Run.{surroundings, exec, run_in}
use Rattle.instructions.specs.declared.Stop.TheVariants as stop
use Rattle.instructions.specs.Views.{entries, opened}
use Rattle.instructions.specs.Effects.{Move, Room, Framed, Stepped, memory_in}
use Rattle.instructions.specs.declared.Place.{Place}
use Rattle.blocks.specs.declared.Halt.{Halt}
use Rattle.blocks.specs.declared.Halt.TheVariants.{Ended, Stuck, NoRoom}
use Rattle.blocks.specs.Entries.{back, Enough, Entry, Known, Advances}

-- an instruction stands there, or the block's end is passed
abbrev pub Aligned : List ℕ → ℕ → Type 0
Aligned body at = at < length body → lands body 0 at ≡ true

-- the open tries land on instructions
abbrev pub TriesGood : List ℕ → List Try → Type 0
TriesGood body [] = Unit {0}
TriesGood body (t ∷ ts) = Aligned body (length body - t.lands) × TriesGood body ts

-- the weights of the sub-scopes that wait
abbrev pub pending : (ℕ → ℕ) → List ℕ → List Callee → ℕ
pending w [] cs = 0
pending w (i ∷ is) [] = 0
pending w (i ∷ is) (waiting gs ∷ cs) = w i + pending w is cs
pending w (i ∷ is) (entered vs ∷ cs) = pending w is cs

-- block p, those before it, and what its weight is
abbrev pub block : List ℕ → ℕ → Block
block code p = get_or (parse code 0).blocks p empty_block

abbrev pub before : List ℕ → ℕ → List Block
before code p = back (parse code 0).blocks p

abbrev pub env_at : List ℕ → ℕ → Surroundings
env_at code p = surroundings (before code p) (block code p) (λ j handed. run_in (before code p) j handed)

abbrev pub weight_at : List ℕ → ℕ → ℕ
weight_at code p = suc (sum (weight_in (before code p)) (block code p).sub_scopes)

-- every sub-scope has its cells, and no more was counted than the block weighs
pub record Held (code : List ℕ) (p : ℕ) (m : Memory) : Type 0 where
  pub many : length m.callees ≡ length (block code p).sub_scopes
  pub counted : m.count + pending (weight_in (before code p)) (block code p).sub_scopes m.callees ≤ weight_at code p

-- what the rest of a run comes to
abbrev pub run_from : List ℕ → List ℕ → ℕ → List ℕ → List ℕ → List ℕ → List ℕ → Place → machine.Ran
run_from code directory p st tr own frame s =
    exec (env_at code p) (block code p).body s.at (entries st s.height) (opened tr s.tries) (memory_in directory p own frame s.count)

-- the run of block p, which comes to `whole`, stands at a place
pub record Running (code directory : List ℕ) (p : ℕ) (st₀ tr₀ : List ℕ) (whole : machine.Ran) (body st tr own frame : List ℕ) (s : Place) : Type 0 where
  pub is_body : body ≡ (block code p).body
  pub same : run_from code directory p st tr own frame s ≡ whole
  pub aligned : Aligned (block code p).body s.at
  pub tries : TriesGood (block code p).body (opened tr s.tries)
  pub mem : Held code p (memory_in directory p own frame s.count)
  pub room : Room s.height s.tries st tr
  pub framed : Framed directory p own frame
  pub stack : length st ≡ length st₀
  pub open_room : length tr ≡ length tr₀

abbrev pub Standing : List ℕ → List ℕ → ℕ → List ℕ → List ℕ → List ℕ → List ℕ → List ℕ → Place → Type 0
Standing code directory p body st tr own frame s =
    Running code directory p st tr (run_from code directory p st tr own frame s) body st tr own frame s

-- the next place, or what stopped the run
abbrev pub Went : Type 0
Went = Result Place Halt

-- after an instruction at byte `at`: the run stands further on, or has come to its end
module _ (code directory : List ℕ) (p : ℕ) (st₀ tr₀ : List ℕ) (whole : machine.Ran) (body : List ℕ) (at : ℕ) (st tr own frame : List ℕ) where
  abbrev pub Acts : Went → Type 0
  Acts (Ok s) = Running code directory p st₀ tr₀ whole body st tr own frame s × (at < s.at)
  Acts (Err (Ended c n)) = whole ≡ machine.ran (ended c n)
  Acts (Err Stuck) = whole ≡ machine.stuck
  Acts (Err NoRoom) = Enough p st₀ tr₀ → ⊥

-- the instruction at a place can be done, and is the entry of a sub-scope
pub record EntersAt (code directory : List ℕ) (p : ℕ) (body : List ℕ) (s : Place) (st tr frame memo : List ℕ) : Type 0 where
  pub own : List ℕ
  pub entry : Entry code directory p own
  pub known : Known code memo
  pub inside : s.at < length body
  pub stands : Standing code directory p body st tr own frame s
  pub enters : get_or body s.at 0 ≡ 43

pub record EnteredAt (code directory : List ℕ) (p : ℕ) (body : List ℕ) (s : Place) (st tr frame : List ℕ) (r : Went) (st' tr' frame' : List ℕ) : Type 0 where
  pub shows : (own : List ℕ) → Standing code directory p body st tr own frame s
      → Acts code directory p st tr (run_from code directory p st tr own frame s) body s.at st' tr' own frame' r

-- what follows an instruction by its move, so many bytes having been read of a block of `end` bytes
module _ (next end count : ℕ) (m : Move) where
  abbrev pub Follows : Went → Type 0
  Follows (Ok x) = (n : ℕ) × (m ≡ Ok (record { passed = n; height = x.height; tries = x.tries })) × Advances next n end x.at × (x.count ≡ count)
  Follows (Err (Ended c n)) = (m ≡ Err (stop.Ended c)) × (n ≡ count)
  Follows (Err Stuck) = m ≡ Err stop.Stuck
  Follows (Err NoRoom) = m ≡ Err stop.NoRoom

pub record Followed (next end count : ℕ) (m : Move) (r : Went) : Type 0 where
  pub shows : Follows next end count m r

module _ (directory : List ℕ) (p : ℕ) (body : List ℕ) (s : Place) (st tr own frame st' tr' own' frame' : List ℕ) where
  abbrev pub Does : Move → Type 0
  Does m = Stepped directory p body s st tr own frame m st' tr' own' frame'

  abbrev pub Steps : Went → Type 0
  Steps (Ok x) =
      (n : ℕ) × Does (Ok (record { passed = n; height = x.height; tries = x.tries })) × Advances (s.at + 1) n (length body) x.at × (x.count ≡ s.count)
  Steps (Err (Ended c n)) = Does (Err (stop.Ended c)) × (n ≡ s.count)
  Steps (Err Stuck) = Does (Err stop.Stuck)
  Steps (Err NoRoom) = Does (Err stop.NoRoom)

pub record SteppedAt (directory : List ℕ) (p : ℕ) (body : List ℕ) (s : Place) (st tr own frame : List ℕ) (r : Went) (st' tr' own' frame' : List ℕ) : Type 0 where
  pub shows : Steps directory p body s st tr own frame st' tr' own' frame' r
