-- Running the steps of a scope.
--     variable_turn, variable_end                a variable's step that gives a value, and one that does not
--     call_turn, call_failed, call_end           a call that gives values, one whose overrides do not, one whose scope does not
--     steps_congruent     a run depends only on what entering the scope's sub-scopes comes to
--     by_step             what holds of each way that a step can go holds of the run from it
--     steps_count         the count never falls along a run
--     reached_same        what a run comes to from a state that it reaches is what it comes to from the start
-- Assumes nothing.
use Prim.Native.Nat.{ℕ, suc, ◌<◌, ◌≤◌, ◌+◌, ◌-◌}
use mathlib.Core.Path.{◌≡◌, refl, sym, ap, subst, ◌∙◌}
use mathlib.Core.Bool.{true, false}
use mathlib.Core.List.{List, [], ◌∷◌}
use mathlib.Core.Logic.{⊎_elim}
use native.Mathlib.Omega.{arith}
use lib.ListN.{length, get_or, set}
use lib.Dec.{ltb}
use borrow.Author.Tests.{ltb-true, ltb-false, lt-ltb, le-ltb}
use Rattle.std.specs.Prelude.{Result, Ok, Err, Option, None}
use Rattle.calculus.specs.Evaluation.{step}
use Rattle.calculus.specs.declared.Value.{Value}
use Rattle.answers.specs.declared.Cause.{Cause}
use Rattle.laws.proofs.Booleans.{decide}
use Rattle.book.specs.Syntax.{Scope}
use Rattle.book.specs.References.{scope_at}
use Rattle.book.specs.Trees.{tree, own_target}
use Rattle.book.specs.Steps.{step_count, step_order}
use Rattle.evaluation.specs.Handing.{Handed, Handing, handed, failed, handing_by}
use Rattle.evaluation.specs.Run.{Entered, values, ended, State, env_of, on_value, on_entered, on_handing, begin, run_steps_by, run_steps}
use Rattle.evaluation.specs.Readiness.{Reached, callee_of, hands_over, with_variable, with_call}

-- the scopes entered
abbrev pub count_of : Entered → ℕ
count_of (values vs n) = n
count_of (ended c n) = n

-- every step of the list is one of the scope's
abbrev pub Steps : Scope → List ℕ → Type 0
Steps s xs = (j : ℕ) → j < length xs → get_or xs j 0 < step_count s

-- the sub-scope of a step that is no variable's
pub call_number : (s : Scope) (x : ℕ) → x < step_count s → length s.variables ≤ x → x - length s.variables < length s.sub_scopes
unfolding step_count
call_number s x l h = omega arith

-- One step of a run

module _ (book : List Scope) (enter : ℕ → List (Option Value) → Entered) (s : Scope) (given : List (Option Value)) (x : ℕ) (xs : List ℕ) (st : State) where
  module _ (l : x < length s.variables) where
    pub variable_turn : (y : Value) → step (get_or given x None) (env_of st) (tree s (own_target x)) ≡ Ok y
        → run_steps book enter s given (x ∷ xs) st
        ≡ run_steps book enter s given xs (with_variable st x y)
    unfolding run_steps_by
    variable_turn y e =
        rw (lt-ltb x (length s.variables) l)
        (ap (λ (o : Result Value Cause). on_value o st.count (λ v. run_steps book enter s given xs (with_variable st x v))) e)

    pub variable_end : (c : Cause) → step (get_or given x None) (env_of st) (tree s (own_target x)) ≡ Err c
        → run_steps book enter s given (x ∷ xs) st ≡ ended c st.count
    unfolding run_steps_by
    variable_end c e = rw (lt-ltb x (length s.variables) l, e)

  module _ (l : length s.variables ≤ x) where
    pub call_turn : (gs : List (Option Value)) (vs : List Value) (n : ℕ)
        → hands_over book s st x ≡ handed gs
        → enter (callee_of s x) gs ≡ values vs n
        → run_steps book enter s given (x ∷ xs) st
        ≡ run_steps book enter s given xs (with_call st (x - length s.variables) vs n)
    unfolding run_steps_by
    call_turn gs vs n h e = rw (le-ltb x (length s.variables) l, h, e)

    pub call_failed : (c : Cause)
        → hands_over book s st x ≡ failed c
        → run_steps book enter s given (x ∷ xs) st ≡ ended c st.count
    unfolding run_steps_by
    call_failed c h = rw (le-ltb x (length s.variables) l, h)

    pub call_end : (gs : List (Option Value)) (c : Cause) (n : ℕ)
        → hands_over book s st x ≡ handed gs
        → enter (callee_of s x) gs ≡ ended c n
        → run_steps book enter s given (x ∷ xs) st ≡ ended c (st.count + n)
    unfolding run_steps_by
    call_end gs c n h e = rw (le-ltb x (length s.variables) l, h, e)

-- A whole run

module _ (by : Result Value Cause → Handed) (book : List Scope) (s : Scope) (given : List (Option Value)) (e f : ℕ → List (Option Value) → Entered)
    (same : (k : ℕ) → k < length s.sub_scopes → (gs : List (Option Value))
    → e (get_or s.sub_scopes k 0) gs ≡ f (get_or s.sub_scopes k 0) gs) where
  pub steps_congruent : (xs : List ℕ) → Steps s xs → (st : State) → run_steps_by by book e s given xs st ≡ run_steps_by by book f s given xs st
  unfolding run_steps_by
  steps_congruent [] below st = refl
  steps_congruent (x ∷ xs) below st =
      let v = length s.variables in
      let rest : (t : State) → run_steps_by by book e s given xs t ≡ run_steps_by by book f s given xs t =
      λ t. steps_congruent xs (λ j l. below (suc j) (omega arith)) t in
      ⊎_elim
      (λ (q : ltb x v ≡ true).
      rw q
      (λ i. on_value (step (get_or given x None) (env_of st) (tree s (own_target x))) st.count
      (λ y. rest (with_variable st x y) i)))
      (λ (q : ltb x v ≡ false).
      let k = x - v in
      let there : k < length s.sub_scopes = call_number s x (below 0 (omega arith)) (ltb-false x v q) in
      rw q
      (λ i. on_handing (handing_by by (env_of st) s k 0 (scope_at book (get_or s.sub_scopes k 0)).variables) st.count
      (λ gs. on_entered (same k there gs i) st.count
      (λ vs n. rest (record { own = st.own; called = set st.called k vs; count = n }) i))))
      (decide (ltb x v))

module _ (book : List Scope) (enter : ℕ → List (Option Value) → Entered) (s : Scope) (given : List (Option Value)) where
  module _ (P : Entered → Type 0) (x : ℕ) (xs : List ℕ) (st : State)
      (variable : x < length s.variables → (y : Value) → step (get_or given x None) (env_of st) (tree s (own_target x)) ≡ Ok y
      → P (run_steps book enter s given xs (with_variable st x y)))
      (call : length s.variables ≤ x → (gs : List (Option Value)) (vs : List Value) (n : ℕ)
      → hands_over book s st x ≡ handed gs
      → enter (callee_of s x) gs ≡ values vs n
      → P (run_steps book enter s given xs (with_call st (x - length s.variables) vs n)))
      (stops : (c : Cause) → P (ended c st.count))
      (ends : length s.variables ≤ x → (gs : List (Option Value)) (c : Cause) (n : ℕ)
      → hands_over book s st x ≡ handed gs
      → enter (callee_of s x) gs ≡ ended c n → P (ended c (st.count + n))) where
    abbrev Goal : Type 0
    Goal = P (run_steps book enter s given (x ∷ xs) st)

    own_step_lem : x < length s.variables → (o : Result Value Cause) → step (get_or given x None) (env_of st) (tree s (own_target x)) ≡ o → Goal
    own_step_lem l (Ok y) e = subst P (sym (variable_turn book enter s given x xs st l y e)) (variable l y e)
    own_step_lem l (Err c) e = subst P (sym (variable_end book enter s given x xs st l c e)) (stops c)

    entered_step : length s.variables ≤ x → (gs : List (Option Value))
        → hands_over book s st x ≡ handed gs
        → (r : Entered) → enter (callee_of s x) gs ≡ r → Goal
    entered_step l gs h (values vs n) e = subst P (sym (call_turn book enter s given x xs st l gs vs n h e)) (call l gs vs n h e)
    entered_step l gs h (ended c n) e = subst P (sym (call_end book enter s given x xs st l gs c n h e)) (ends l gs c n h e)

    call_step : length s.variables ≤ x → (o : Handing)
        → hands_over book s st x ≡ o → Goal
    call_step l (handed gs) h = entered_step l gs h (enter (callee_of s x) gs) refl
    call_step l (failed c) h = subst P (sym (call_failed book enter s given x xs st l c h)) (stops c)

    pub by_step : P (run_steps book enter s given (x ∷ xs) st)
    by_step =
        ⊎_elim
        (λ (q : ltb x (length s.variables) ≡ true). own_step_lem (ltb-true x (length s.variables) q) _ refl)
        (λ (q : ltb x (length s.variables) ≡ false). call_step (ltb-false x (length s.variables) q) _ refl)
        (decide (ltb x (length s.variables)))

  pub steps_count : (xs : List ℕ) (st : State) → st.count ≤ count_of (run_steps book enter s given xs st)
  unfolding run_steps_by
  steps_count [] st = omega arith
  steps_count (x ∷ xs) st =
      by_step (λ r. st.count ≤ count_of r) x xs st
      (λ l y e. steps_count xs (with_variable st x y))
      (λ l gs vs n h e.
      omega
      (arith, steps_count xs (with_call st (x - length s.variables) vs n)))
      (λ c. omega arith)
      (λ l gs c n h e. omega arith)

  pub reached_same : (xs : List ℕ) (st : State) → Reached book enter s given xs st
      → run_steps book enter s given (step_order s) (begin s) ≡ run_steps book enter s given xs st
  reached_same xs st (Reached.start) = refl
  reached_same xs st (Reached.variable {x = x} {xs = ys} {st = t} y r l e) =
      reached_same (x ∷ ys) t r ∙ variable_turn book enter s given x ys t l y e
  reached_same xs st (Reached.call {x = x} {xs = ys} {st = t} gs vs n r l h e) =
      reached_same (x ∷ ys) t r ∙ call_turn book enter s given x ys t l gs vs n h e
