-- Running the steps of a scope, and entering scopes.
use Rattle.std.specs.Prelude.{ℕ, ◌+◌, ◌-◌, false, cond, List, [], ◌∷◌, map, reverse, length, get_or, set, eqb, ltb, Result, Ok, Err, Option, None, Some}
use Rattle.calculus.specs.Evaluation.{Env, step}
use Rattle.calculus.specs.declared.Value.{Value}
use Rattle.calculus.specs.declared.Value.TheVariants.{Truth}
use Rattle.answers.specs.declared.Cause.{Cause}
use Rattle.answers.specs.declared.Cause.TheVariants.{Empty}
use Rattle.cells.specs.Cells.{held}
use Rattle.book.specs.Syntax.{Scope}
use Rattle.book.specs.References.{scope_at}
use Rattle.book.specs.Trees.{tree, own_target}
use Rattle.book.specs.Scopes.{blocks}
use Rattle.book.specs.Steps.{step_order}
use Rattle.evaluation.specs.Handing.{Handed, falls_back, Handing, handed, failed, handing_by}

-- what a run of a scope comes to: the values of its variables, or the cause of its end; each with the scopes entered
pub data Entered : Type 0 where
  values : List Value → ℕ → Entered
  ended : Cause → ℕ → Entered

-- what the steps so far have set: own variables, the variables of the sub-scopes entered, and the scopes entered
pub record State : Type 0 where
  pub own : List (Option Value)
  pub called : List (List Value)
  pub count : ℕ

abbrev pub env_of : State → Env
env_of s = record { own = λ x. held (get_or s.own x None); called = λ k x. get_or (get_or s.called k []) x (Truth false) }

-- "A step without a value ends the whole run with that outcome"
abbrev pub on_value : Result Value Cause → ℕ → (Value → Entered) → Entered
on_value (Ok v) count go = go v
on_value (Err c) count go = ended c count

abbrev pub on_entered : Entered → ℕ → (List Value → ℕ → Entered) → Entered
on_entered (values vs n) count go = go vs (count + n)
on_entered (ended c n) count go = ended c (count + n)

-- an override that ends the run ends it before the scope is entered
abbrev pub on_handing : Handing → ℕ → (List (Option Value) → Entered) → Entered
on_handing (handed gs) count go = go gs
on_handing (failed c) count go = ended c count

-- "The count of scopes entered is one for the scope asked for and one for each entry the run made"
abbrev pub begin : Scope → State
begin s = record { own = map (λ v. None) s.variables; called = map (λ k. []) s.sub_scopes; count = 1 }

-- `by`: what the outcome of an override tree hands over
module _ (by : Result Value Cause → Handed) where
  -- the steps in their order; `enter` is what entering a scope with given variables comes to
  module _ (book : List Scope) (enter : ℕ → List (Option Value) → Entered) (s : Scope) (given : List (Option Value)) where
    -- "A given variable takes the given value and its tree is not evaluated"
    abbrev pub run_variable : ℕ → State → (State → Entered) → Entered
    run_variable x st go =
        on_value (step (get_or given x None) (env_of st) (tree s (own_target x))) st.count
        (λ v. go (record { own = set st.own x (Some v); called = st.called; count = st.count }))

    -- "hands over those values and enters"
    abbrev pub run_call_by : ℕ → State → (State → Entered) → Entered
    run_call_by k st go =
        let i = get_or s.sub_scopes k 0 in
        on_handing (handing_by by (env_of st) s k 0 (scope_at book i).variables) st.count
        (λ gs. on_entered (enter i gs) st.count (λ vs n. go (record { own = st.own; called = set st.called k vs; count = n })))

    unfoldable pub run_steps_by : List ℕ → State → Entered
    run_steps_by [] st = values (map held st.own) st.count
    run_steps_by (x ∷ xs) st =
        let v = length s.variables in
        let variable = run_variable x st (λ t. run_steps_by xs t) in
        let call = run_call_by (x - v) st (λ t. run_steps_by xs t) in
        cond (ltb x v) variable call

  -- entering scope i, whose block and all blocks it enters stand in the list, last block first
  unfoldable pub enter_by : List Scope → List ℕ → ℕ → List (Option Value) → Entered
  -- a block that is not there: no scope of an accepted book meets it (accepted_entered_real)
  enter_by book [] i given = ended Empty 0
  enter_by book (b ∷ earlier) i given =
      let s = scope_at book i in
      let here = run_steps_by book (λ j gs. enter_by book earlier j gs) s given (step_order s) (begin s) in
      cond (eqb b i) here (enter_by book earlier i given)

  -- entering scope i of a book, with all its blocks there
  abbrev pub run_scope_by : List Scope → ℕ → List (Option Value) → Entered
  run_scope_by book = enter_by book (reverse (blocks book))

-- The meaning: an empty override falls back

abbrev pub run_steps : List Scope → (ℕ → List (Option Value) → Entered) → Scope → List (Option Value) → List ℕ → State → Entered
run_steps = run_steps_by falls_back

abbrev pub enter : List Scope → List ℕ → ℕ → List (Option Value) → Entered
enter = enter_by falls_back

abbrev pub run_scope : List Scope → ℕ → List (Option Value) → Entered
run_scope = run_scope_by falls_back
