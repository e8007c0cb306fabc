-- What a scope means, without an order of steps and without a run: the source paper's figure 7, but for an empty override, which falls back since
-- paper 02, No. 5, as equations that the values of a scope solve.
-- It speaks of values alone: a scope whose run ends empty, in conflict or out of range means nothing, and which of these it is the order of steps
-- decides. In a book that is not accepted there may be several solutions, as where a variable is defined by itself.
use Rattle.std.specs.Prelude.{ℕ, ◌<◌, ◌≡◌, true, false, List, [], length, get_or, Ok, Err, Option, None, Some}
use Rattle.calculus.specs.Evaluation.{Env, eval}
use Rattle.calculus.specs.Overriding.{overridable}
use Rattle.calculus.specs.declared.Value.{Value}
use Rattle.calculus.specs.declared.Value.TheVariants.{Truth}
use Rattle.answers.specs.declared.Cause.TheVariants.{Empty}
use Rattle.book.specs.Syntax.{Scope}
use Rattle.book.specs.References.{scope_at}
use Rattle.book.specs.Trees.{tree, has_clause, own_target, called_target}

-- every variable has its value: the own ones, and those of each sub-scope
abbrev pub holding : List Value → List (List Value) → Env
holding vs cs = record { own = λ x. get_or vs x (Truth false); called = λ k x. get_or (get_or cs k []) x (Truth false) }

-- what a scope hands over for variable v of its sub-scope k
pub data Overrides (e : Env) (s : Scope) (k v : ℕ) : Option Value → Type 0 where
  -- C-SCOPE: "a thunked ∅ to start with"; "A target of an override without clauses is simply not given"
  without : has_clause s (called_target k v) ≡ false → Overrides e s k v None
  -- C-DEF of a sub-scope's variable, for which nothing was provided before
  with : (y : Value) → has_clause s (called_target k v) ≡ true → eval e (overridable None (tree s (called_target k v))) ≡ Ok y
      → Overrides e s k v (Some y)
  -- "an empty override hands nothing over" (paper 02, No. 5)
  empty : has_clause s (called_target k v) ≡ true → eval e (overridable None (tree s (called_target k v))) ≡ Err Empty
      → Overrides e s k v None

-- the equations of a scope with what is given to it: values vs of its variables, cs of those of its sub-scopes, and what it hands over to each
pub record Solves (book : List Scope) (s : Scope) (given : List (Option Value)) (vs : List Value) (handed : ℕ → List (Option Value)) (cs : List (List Value)) : Type 0 where
  pub own_length : length vs ≡ length s.variables
  pub called_length : length cs ≡ length s.sub_scopes
  pub handed_length : (k : ℕ) → k < length s.sub_scopes → length (handed k) ≡ length (scope_at book (get_or s.sub_scopes k 0)).variables
  -- C-DEF: every variable's default, with what is given as its exception, gives its value
  pub variables : (x : ℕ) → x < length s.variables
      → eval (holding vs cs) (overridable (get_or given x None) (tree s (own_target x))) ≡ Ok (get_or vs x (Truth false))
  pub overrides : (k : ℕ) → k < length s.sub_scopes → (v : ℕ) → v < length (handed k) → Overrides (holding vs cs) s k v (get_or (handed k) v None)

-- scope i of a book, with what is given to it, means these values; a number that no scope has stands for a scope without variables
pub data Means (book : List Scope) : ℕ → List (Option Value) → List Value → Type 0 where
  -- C-CALL: every sub-scope, with what is handed over to it, means its values
  means : {i : ℕ} {given : List (Option Value)} {vs : List Value} (handed : ℕ → List (Option Value)) (cs : List (List Value))
      → Solves book (scope_at book i) given vs handed cs
      → ((k : ℕ) → k < length (scope_at book i).sub_scopes → Means book (get_or (scope_at book i).sub_scopes k 0) (handed k) (get_or cs k []))
      → Means book i given vs
