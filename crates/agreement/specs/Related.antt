-- How what the machine holds within a block is related to the state of an evaluation.
use Rattle.std.specs.Prelude.{ℕ, ◌+◌, ◌<◌, ◌≡◌, true, false, List, [], map, length, get_or, Option, None}
use Rattle.cells.specs.Cells.{held}
use Rattle.order.specs.Order.{among}
use Rattle.book.specs.Syntax.{Scope}
use Rattle.book.specs.References.{scope_at}
use Rattle.book.specs.Typing.{type_at, called_type_at}
use Rattle.evaluation.specs.Run.{Entered, State}
use Rattle.evaluation.specs.Types.{Fitting}
use Rattle.machine.specs.Machine as machine
use Rattle.machine.specs.Machine.{Memory, own_at, callee_at, ran, Surroundings}
use Rattle.machine.specs.Run.{cell_of}
use Rattle.agreement.specs.Meets.{HoldsValue}
use Rattle.calculus.specs.declared.Value.{Value}

-- nothing handed over to the scope that sub-scope k names
abbrev pub nothing_handed : List Scope → Scope → ℕ → List (Option Value)
nothing_handed book s k = map (λ x. None) (scope_at book (get_or s.sub_scopes k 0)).variables

-- what the machine holds once these steps are done, and no others, where the evaluation has come to the state
pub record Related (book : List Scope) (s : Scope) (given : List (Option Value)) (steps : List ℕ) (st : State) (m : Memory) : Type 0 where
  pub count : m.count ≡ st.count
  pub own_length : length m.own ≡ length s.variables
  pub callees_length : length m.callees ≡ length s.sub_scopes
  pub stored : (w : ℕ) → w < length s.variables → among steps w ≡ true → HoldsValue (own_at m w) (held (get_or st.own w None))
  pub unset : (w : ℕ) → w < length s.variables → among steps w ≡ false → own_at m w ≡ cell_of (get_or given w None)
  pub entered : (k : ℕ) → k < length s.sub_scopes → among steps (length s.variables + k) ≡ true
      → callee_at m k ≡ machine.entered (get_or st.called k [])
  pub waiting : (k : ℕ) → k < length s.sub_scopes → among steps (length s.variables + k) ≡ false
      → callee_at m k ≡ machine.waiting (nothing_handed book s k)

-- what a block's run rests on is what the evaluation of its scope does: the types, and what entering a sub-scope comes to
pub record SameSurroundings (book : List Scope) (enter : ℕ → List (Option Value) → Entered) (s : Scope) (env : Surroundings) : Type 0 where
  pub own_types : (x : ℕ) → env.own_type x ≡ type_at s x
  pub called_types : (k : ℕ) → k < length s.sub_scopes → (x : ℕ) → env.called_type k x ≡ called_type_at book s k x
  pub enters : (k : ℕ) → k < length s.sub_scopes → (gs : List (Option Value)) → Fitting (scope_at book (get_or s.sub_scopes k 0)).variables gs
      → env.enters k gs ≡ ran (enter (get_or s.sub_scopes k 0) gs)
