-- The meaning before paper 02, No. 5, "Today an empty override ends the caller", and the runs that meet an empty override under it.
use Rattle.std.specs.Prelude.{ℕ, ◌+◌, ◌-◌, ◌<◌, ◌≤◌, ◌≡◌, true, List, ◌∷◌, length, get_or, Result, Ok, Err, Option, None, Some}
use Rattle.calculus.specs.Evaluation.{Env, eval, step}
use Rattle.calculus.specs.declared.Value.{Value}
use Rattle.answers.specs.declared.Cause.TheVariants.{Empty}
use Rattle.book.specs.Syntax.{Scope}
use Rattle.book.specs.Decode.{scopes_of}
use Rattle.book.specs.References.{scope_at}
use Rattle.book.specs.Trees.{tree, has_clause, own_target, called_target}
use Rattle.book.specs.Steps.{step_order}
use Rattle.book.specs.declared.Variable.{Variable}
use Rattle.evaluation.specs.Handing.{Handed, hands, stops, Handing, handed, handing_by}
use Rattle.evaluation.specs.Run.{Entered, values, State, env_of, begin, run_scope_by}
use Rattle.evaluation.specs.Evaluate.{Reply, evaluate_by}
use Rattle.evaluation.specs.Readiness.{callee_of, with_variable, with_call}
use Rattle.evaluation.specs.Answers.{Entering}
use Rattle.answers.specs.declared.Cause.{Cause}

-- whatever an override tree ends by ends the run
abbrev pub ends_caller : Result Value Cause → Handed
ends_caller (Ok y) = hands (Some y)
ends_caller (Err c) = stops c

abbrev pub former_hands_over : List Scope → Scope → State → ℕ → Handing
former_hands_over book s st x = handing_by ends_caller (env_of st) s (x - length s.variables) 0 (scope_at book (callee_of s x)).variables

abbrev pub former_run_scope : List Scope → ℕ → List (Option Value) → Entered
former_run_scope = run_scope_by ends_caller

abbrev pub former_evaluate : List ℕ → ℕ → List ℕ → ℕ → Reply
former_evaluate = evaluate_by ends_caller

-- a call meets "an empty override", of the variables from v on: the first override tree without a value is empty
pub record CallMeetsEmpty (e : Env) (s : Scope) (k v : ℕ) (xs : List Variable) : Type 0 where
  pub place : ℕ
  pub there : place < length xs
  pub some : has_clause s (called_target k (v + place)) ≡ true
  pub empty : eval e (tree s (called_target k (v + place))) ≡ Err Empty
  pub before : (u : ℕ) → u < place → has_clause s (called_target k (v + u)) ≡ true → (y : Value) × (eval e (tree s (called_target k (v + u))) ≡ Ok y)

-- the former run, from a state of scope i on with these steps left, meets an empty override; "Runs that meet no such override keep their answers"
pub data MeetsEmptyFrom (book : List Scope) : ℕ → List (Option Value) → List ℕ → State → Type 0 where
  -- the next call meets an empty override
  here : {i : ℕ} {given : List (Option Value)} {x : ℕ} {xs : List ℕ} {st : State} → length (scope_at book i).variables ≤ x
      → CallMeetsEmpty (env_of st) (scope_at book i) (x - length (scope_at book i).variables) 0 (scope_at book (callee_of (scope_at book i) x)).variables
      → MeetsEmptyFrom book i given (x ∷ xs) st
  -- the scope that the next call enters meets one
  deeper : {i : ℕ} {given : List (Option Value)} {x : ℕ} {xs : List ℕ} {st : State} (gs : List (Option Value)) → length (scope_at book i).variables ≤ x
      → former_hands_over book (scope_at book i) st x ≡ handed gs
      → MeetsEmptyFrom book (callee_of (scope_at book i) x) gs (step_order (scope_at book (callee_of (scope_at book i) x))) (begin (scope_at book (callee_of (scope_at book i) x)))
      → MeetsEmptyFrom book i given (x ∷ xs) st
  -- the next step, a variable or a call, gives values, and the run meets one later
  variable : {i : ℕ} {given : List (Option Value)} {x : ℕ} {xs : List ℕ} {st : State} (y : Value) → x < length (scope_at book i).variables
      → step (get_or given x None) (env_of st) (tree (scope_at book i) (own_target x)) ≡ Ok y
      → MeetsEmptyFrom book i given xs (with_variable st x y)
      → MeetsEmptyFrom book i given (x ∷ xs) st
  call : {i : ℕ} {given : List (Option Value)} {x : ℕ} {xs : List ℕ} {st : State} (gs : List (Option Value)) (vs : List Value) (n : ℕ) → length (scope_at book i).variables ≤ x
      → former_hands_over book (scope_at book i) st x ≡ handed gs
      → former_run_scope book (callee_of (scope_at book i) x) gs ≡ values vs n
      → MeetsEmptyFrom book i given xs (with_call st (x - length (scope_at book i).variables) vs n)
      → MeetsEmptyFrom book i given (x ∷ xs) st

-- the former run of scope i with these given variables meets one, at whatever depth
abbrev pub MeetsEmpty : List Scope → ℕ → List (Option Value) → Type 0
MeetsEmpty book i given = MeetsEmptyFrom book i given (step_order (scope_at book i)) (begin (scope_at book i))

-- so does the evaluation that these bytes ask for, where it is not refused
pub record EvaluationMeets (bytes : List ℕ) (i : ℕ) (list : List ℕ) (room : ℕ) : Type 0 where
  pub entering : Entering bytes i list room
  pub meets : MeetsEmpty (scopes_of bytes) i entering.given
