-- What holds of the state before a step: every read meets a value that is set and of its type.
use Rattle.std.specs.Prelude.{ℕ, ◌+◌, ◌-◌, ◌<◌, ◌≤◌, ◌≡◌, true, false, List, [], ◌∷◌, ◌++◌, length, get_or, set, Ok, Option, None, Some}
use Rattle.calculus.specs.Terms.{Term}
use Rattle.calculus.specs.Evaluation.{step}
use Rattle.calculus.specs.declared.Value.{Value}
use Rattle.order.specs.Order.{among}
use Rattle.book.specs.Syntax.{Scope}
use Rattle.book.specs.References.{scope_at}
use Rattle.book.specs.Typing.{type_at, called_type_at}
use Rattle.book.specs.Trees.{tree, own_target, called_target}
use Rattle.book.specs.Steps.{depends_on, step_order}
use Rattle.book.specs.declared.ValueType.{ValueType}
use Rattle.evaluation.specs.Handing.{Handing, handed, handing}
use Rattle.evaluation.specs.Run.{Entered, values, State, env_of, begin}
use Rattle.evaluation.specs.Types.{Holds, HoldsAt, ValuesFit, Typed}

-- the scope that the call of step x enters, and what it hands over
abbrev pub callee_of : Scope → ℕ → ℕ
callee_of s x = get_or s.sub_scopes (x - length s.variables) 0

abbrev pub hands_over : List Scope → Scope → State → ℕ → Handing
hands_over book s st x = handing (env_of st) s (x - length s.variables) 0 (scope_at book (callee_of s x)).variables

-- the state after own variable x has got a value, and after sub-scope k has been entered
abbrev pub with_variable : State → ℕ → Value → State
with_variable st x y = record { own = set st.own x (Some y); called = st.called; count = st.count }

abbrev pub with_call : State → ℕ → List Value → ℕ → State
with_call st k vs n = record { own = st.own; called = set st.called k vs; count = st.count + n }

-- a run of the scope's steps reaches this state, with these steps left; `enter` is what entering a scope with given variables comes to
pub data Reached (book : List Scope) (enter : ℕ → List (Option Value) → Entered) (s : Scope) (given : List (Option Value)) : List ℕ → State → Type 0 where
  start : Reached book enter s given (step_order s) (begin s)
  variable : {x : ℕ} {xs : List ℕ} {st : State} (y : Value) → Reached book enter s given (x ∷ xs) st → x < length s.variables
      → step (get_or given x None) (env_of st) (tree s (own_target x)) ≡ Ok y
      → Reached book enter s given xs (with_variable st x y)
  call : {x : ℕ} {xs : List ℕ} {st : State} (gs : List (Option Value)) (vs : List Value) (n : ℕ) → Reached book enter s given (x ∷ xs) st
      → length s.variables ≤ x
      → hands_over book s st x ≡ handed gs
      → enter (callee_of s x) gs ≡ values vs n
      → Reached book enter s given xs (with_call st (x - length s.variables) vs n)

-- all that step x depends on is there: own variables set and of their types, sub-scopes entered with values of their variables' types
pub record Ready (book : List Scope) (s : Scope) (x : ℕ) (st : State) : Type 0 where
  pub variables : (w : ℕ) → w < length s.variables → depends_on s x w ≡ true → Holds (type_at s w) (get_or st.own w None)
  pub calls : (k : ℕ) → k < length s.sub_scopes → depends_on s x (length s.variables + k) ≡ true
      → ValuesFit (scope_at book (get_or s.sub_scopes k 0)).variables (get_or st.called k [])

-- every variable that the term reads is set and of its type, and the term is of the type
abbrev pub TermReady : State → Term → ValueType → Type 0
TermReady st = Typed (λ x t. Holds t (get_or st.own x None)) (λ k x t. HoldsAt t (get_or st.called k []) x)

-- the trees of step x can be evaluated: an own variable's, or those of the overrides of call k
pub record TreesReady (book : List Scope) (s : Scope) (x : ℕ) (st : State) : Type 0 where
  pub own : x < length s.variables → TermReady st (tree s (own_target x)) (type_at s x)
  pub overrides : (k : ℕ) → k < length s.sub_scopes → x ≡ length s.variables + k
      → (v : ℕ) → TermReady st (tree s (called_target k v)) (called_type_at book s k v)

-- what the state holds once these steps are done, and no others
pub record Done (book : List Scope) (s : Scope) (steps : List ℕ) (st : State) : Type 0 where
  pub own_length : length st.own ≡ length s.variables
  pub called_length : length st.called ≡ length s.sub_scopes
  pub stored : (w : ℕ) → w < length s.variables → among steps w ≡ true → Holds (type_at s w) (get_or st.own w None)
  pub unset : (w : ℕ) → w < length s.variables → among steps w ≡ false → get_or st.own w None ≡ None
  pub entered : (k : ℕ) → k < length s.sub_scopes → among steps (length s.variables + k) ≡ true
      → ValuesFit (scope_at book (get_or s.sub_scopes k 0)).variables (get_or st.called k [])
  pub waiting : (k : ℕ) → k < length s.sub_scopes → among steps (length s.variables + k) ≡ false → get_or st.called k [] ≡ []

-- the steps done so far, where these are left
pub record Progress (book : List Scope) (s : Scope) (left : List ℕ) (st : State) : Type 0 where
  pub steps : List ℕ
  pub split : step_order s ≡ steps ++ left
  pub done : Done book s steps st
