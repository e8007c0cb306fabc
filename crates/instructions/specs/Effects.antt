-- What the functions of the machine ensure.
use Rattle.std.specs.Prelude.{ℕ, ◌+◌, ◌-◌, ◌*◌, ◌<◌, ◌≤◌, ◌≡◌, Bool, false, cond, List, [], ◌∷◌, length, get_or, take, drop, Option, None, Some, Result, Ok, Err}
use Rattle.calculus.specs.declared.Value.{Value}
use Rattle.calculus.specs.declared.Joined.{Joined}
use Rattle.calculus.specs.declared.Joined.TheVariants.{One}
use Rattle.cells.specs.Cells.{given_of}
use Rattle.cells.specs.Joining.{joined_of}
use Rattle.calculus.specs.declared.Binary.{Binary}
use Rattle.book.specs.Syntax.{same_type}
use Rattle.book.specs.Typing.{operand_type}
use Rattle.lists.specs.Writing.{value_type}
use Rattle.book.specs.declared.ValueType.{ValueType}
use Rattle.evaluation.specs.Run.{ended}
use Rattle.machine.specs.Instructions.{Instruction, push, read_own, read_called, unary, binary, raise, jump, jump_if_no, begin_try, end_try, push_nothing, join, settle, store, override, enter, jump_if_given, unknown, instruction_of}
use Rattle.machine.specs.Blocks.{body_length}
use Rattle.machine.specs.Machine.{unset, waiting, Memory, Next, go, stop, ran, stuck, taking, wanting, stored_to, overridden, Surroundings, effect}
use Rattle.directory.specs.Layout.{variables_in, sub_scopes_in, type_in, block_in, size_in}
use Rattle.instructions.specs.declared.Place.{Place}
use Rattle.instructions.specs.declared.Onward.{Onward}
use Rattle.instructions.specs.declared.Stop.{Stop}
use Rattle.instructions.specs.declared.Stop.TheVariants.{Ended, Stuck, NoRoom}
use Rattle.instructions.specs.Views.{entries, opened, memory}

-- height and tries are within the limits and within the slices
pub record Room (h t : ℕ) (st tr : List ℕ) : Type 0 where
  pub height : h ≤ 1024
  pub stack : h ≤ length st
  pub tries : t ≤ 512
  pub pairs : t * 2 ≤ length tr

-- one entry never runs out of such slices
pub record Ample (st tr : List ℕ) : Type 0 where
  pub stack : 1024 ≤ length st
  pub tries : 1024 ≤ length tr

-- how the run goes on after an instruction, or what stops it
abbrev pub Move : Type 0
Move = Result Onward Stop

-- an answer and the slices stand for what follows an instruction of l bytes after its kind
abbrev pub Moves : Move → ℕ → List ℕ → List ℕ → Memory → Next → Type 0
Moves (Ok x) l st tr m s = (s ≡ go (x.passed - l) (entries st x.height) (opened tr x.tries) m) × (l ≤ x.passed) × Room x.height x.tries st tr
Moves (Err (Ended c)) l st tr m s = s ≡ stop (ran (ended c m.count))
Moves (Err Stuck) l st tr m s = s ≡ stop stuck
Moves (Err NoRoom) l st tr m s = Ample st tr → ⊥

-- a cell and an entry that holds a value
pub record Encodes (v : Value) (c : ℕ) : Type 0 where
  pub cell : given_of c ≡ Some v
  pub entry : joined_of c ≡ One v

-- the value on top of a stack, if there is one
pub record Takes (g : Option Value) (st : List ℕ) (h : ℕ) : Type 0 where
  pub none : g ≡ None → (f : Value → List Joined → Next) → taking (entries st h) f ≡ stop stuck
  pub some : (v : Value) → g ≡ Some v → (entries st h ≡ One v ∷ entries st (h - 1)) × (0 < h)

-- two values have the types that an operator wants
abbrev pub suitable : Binary → Value → Value → Bool
suitable op v w = cond (same_type (operand_type op (value_type v)) (value_type v)) (same_type (operand_type op (value_type v)) (value_type w)) false

unfoldable pub memory_in : List ℕ → ℕ → List ℕ → List ℕ → ℕ → Memory
memory_in directory p own frame c = memory (variables_in directory p) (sub_scopes_in directory p) (size_in directory p) own frame c

-- the directory gives a block's types
pub record Typing (env : Surroundings) (directory : List ℕ) (p : ℕ) : Type 0 where
  pub own : (x : ℕ) → x < variables_in directory p → env.own_type x ≡ type_in directory p x
  pub called : (k x : ℕ) → k < sub_scopes_in directory p → x < size_in directory p k → env.called_type k x ≡ type_in directory (block_in directory p k) x

-- what an instruction names is there
abbrev pub Named : List ℕ → ℕ → Instruction → Type 0
Named directory p (push v) = Unit {0}
Named directory p (read_own x) = x < variables_in directory p
Named directory p (read_called k x) = (k < sub_scopes_in directory p) × (x < size_in directory p k)
Named directory p (unary op) = Unit {0}
Named directory p (binary op) = Unit {0}
Named directory p (raise c) = Unit {0}
Named directory p (jump d) = Unit {0}
Named directory p (jump_if_no d) = Unit {0}
Named directory p (begin_try d) = Unit {0}
Named directory p end_try = Unit {0}
Named directory p push_nothing = Unit {0}
Named directory p join = Unit {0}
Named directory p (settle d) = Unit {0}
Named directory p (store x) = x < variables_in directory p
Named directory p (override k x) = (k < sub_scopes_in directory p) × (x < size_in directory p k)
Named directory p (enter k) = k < sub_scopes_in directory p
Named directory p (jump_if_given x d) = x < variables_in directory p
Named directory p unknown = Unit {0}

-- the directory's numbers are within their limits
pub record Bounded (directory : List ℕ) (p : ℕ) : Type 0 where
  pub block : p < 32
  pub variables : variables_in directory p ≤ 32
  pub sub_scopes : sub_scopes_in directory p ≤ 8
  pub sizes : (k : ℕ) → k < sub_scopes_in directory p → (block_in directory p k < 32) × (size_in directory p k ≤ 32)

-- the frame of an entry of block p has room for its sub-scopes
pub record Framed (directory : List ℕ) (p : ℕ) (own frame : List ℕ) : Type 0 where
  pub own_size : length own ≡ 32
  pub frame_size : 40 + sub_scopes_in directory p * 32 ≤ length frame

-- sub-scope k and its variable x have their places in the frame
pub record InFrame (k x : ℕ) (frame : List ℕ) : Type 0 where
  pub sub_scope : k < 8
  pub variable : x < 32
  pub cell : 40 + k * 32 + x < length frame

-- the bytes of the block behind the kind
abbrev pub rest_at : List ℕ → ℕ → List ℕ
rest_at body at = take (length body - (at + 1)) (drop (at + 1) body)

-- the instruction at a place of block p
abbrev pub kind_at : List ℕ → Place → ℕ
kind_at body s = get_or body s.at 0

abbrev pub instruction_at : List ℕ → Place → Instruction
instruction_at body s = instruction_of (kind_at body s) (rest_at body s.at)

pub record Stepping (directory : List ℕ) (p : ℕ) (body : List ℕ) (s : Place) (st tr own frame : List ℕ) : Type 0 where
  pub bounded : Bounded directory p
  pub framed : Framed directory p own frame
  pub room : Room s.height s.tries st tr
  pub inside : s.at < length body
  pub named : Named directory p (instruction_at body s)
  pub stays : kind_at body s ≡ 43 → ⊥

-- what an instruction, by its kind and the bytes behind it, does to the state of an entry of block p
pub record Does (directory : List ℕ) (p k : ℕ) (rest st : List ℕ) (h : ℕ) (tr : List ℕ) (t : ℕ) (own frame : List ℕ)
    (r : Move) (st' tr' own' frame' : List ℕ) : Type 0 where
  pub same : (env : Surroundings) (count : ℕ) → Typing env directory p
      → Moves r (body_length k) st' tr' (memory_in directory p own' frame' count)
      (effect env (instruction_of k rest) (length (drop (body_length k) rest)) (entries st h) (opened tr t) (memory_in directory p own frame count))

abbrev pub Stepped : List ℕ → ℕ → List ℕ → Place → List ℕ → List ℕ → List ℕ → List ℕ → Move → List ℕ → List ℕ → List ℕ → List ℕ → Type 0
Stepped directory p body s st tr own frame r st' tr' own' frame' =
    Does directory p (kind_at body s) (rest_at body s.at) st s.height tr s.tries own frame r st' tr' own' frame'

-- an own variable of a type is stored
pub record Storing (wanted : ValueType) (x : ℕ) (st : List ℕ) (h t : ℕ) (own frame : List ℕ) (r : Move) (own' frame' : List ℕ) : Type 0 where
  pub same : (v s : ℕ) (sizes : ℕ → ℕ) (tr : List ℕ) (c : ℕ) → x < v → (t ≤ 512) × (t * 2 ≤ length tr)
      → Moves r 1 st tr (memory v s sizes own' frame' c)
      (taking (entries st h) (λ y st₁. wanting wanted y
      (stored_to (get_or (memory v s sizes own frame c).own x unset) x y st₁ (opened tr t) (memory v s sizes own frame c))))

-- a variable of a type is handed over to sub-scope k
pub record Handing (wanted : ValueType) (k x : ℕ) (st : List ℕ) (h t : ℕ) (frame : List ℕ) (r : Move) (frame' : List ℕ) : Type 0 where
  pub same : (v s : ℕ) (sizes : ℕ → ℕ) (tr own : List ℕ) (c : ℕ) → v ≤ 32 → s ≤ 8 → k < s → x < sizes k → ((i : ℕ) → i < s → sizes i ≤ 32)
      → (t ≤ 512) × (t * 2 ≤ length tr)
      → Moves r 2 st tr (memory v s sizes own frame' c)
      (taking (entries st h) (λ y st₁. wanting wanted y
      (overridden (get_or (memory v s sizes own frame c).callees k (waiting [])) k x y st₁ (opened tr t) (memory v s sizes own frame c))))

pub record StoreAt (rest : List ℕ) (p : ℕ) (st : List ℕ) (h : ℕ) (own frame : List ℕ) : Type 0 where
  pub stack : (h ≤ length st) × (h ≤ 1024)
  pub block : p < 32
  pub variable : get_or rest 0 0 < 32
  pub cell : get_or rest 0 0 < length own
  pub flag : get_or rest 0 0 < length frame

pub record OverrideAt (rest directory : List ℕ) (p : ℕ) (st : List ℕ) (h : ℕ) (frame : List ℕ) : Type 0 where
  pub stack : (h ≤ length st) × (h ≤ 1024)
  pub block : p < 32
  pub callee : block_in directory p (get_or rest 0 0) < 32
  pub inside : InFrame (get_or rest 0 0) (get_or rest 1 0) frame
