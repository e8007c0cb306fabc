-- Along a run every read meets a value that is set and of its type.
--     trees_ready         where all that a step depends on is there, its trees can be evaluated
--     progress_ready      so it is of the next step, all before it in the order being done
--     progress_new, progress_below    the next step is one of the scope's and not yet done
--     reached_progress    what the state holds where a run of a scope's steps has come so far
--     reached_ready       before each step all that it depends on is there
--     steps_fit           a run that ends in values ends in one for each variable, of its type
--     reached_handed      what a call hands over fits the variables of the scope that it enters
--     accepted_fit        of an accepted book: so does entering a scope with values that fit its variables
--     accepted_progress, accepted_new, accepted_ready, accepted_trees, accepted_handed    and the above of each step that is reached
-- Assumes nothing.
use Prim.Native.Nat.{ℕ, zero, suc, ◌<◌, ◌≤◌, ◌+◌, ◌-◌}
use mathlib.Core.Path.{◌≡◌, refl, sym, ap, subst, ◌∙◌}
use mathlib.Core.Bool.{Bool, true, false, false≢true}
use mathlib.Core.List.{List, [], ◌∷◌, ◌++◌, map}
use mathlib.Core.Logic.{⊎_elim}
use native.Mathlib.Omega.{arith}
use lib.ListN.{length, get_or, set, length-set, length-map, get_or-map}
use lib.Seq.{get_or-set_same, get_or-set_other}
use lib.Dec.{eqb}
use borrow.Author.Tests.{eqb-true, eqb-false, ne_eqb}
use Rattle.std.specs.Prelude.{Result, Ok, Option, None, Some}
use Rattle.calculus.specs.Terms.{Term}
use Rattle.calculus.specs.Evaluation.{Env, eval, step, takes}
use Rattle.calculus.specs.declared.Value.{Value}
use Rattle.cells.specs.Cells.{held}
use Rattle.order.specs.Order.{among}
use Rattle.calculus.proofs.Overriding.{step_default}
use Rattle.laws.proofs.Booleans.{decide}
use Rattle.book.specs.Syntax.{Scope}
use Rattle.book.specs.Decode.{scopes_of}
use Rattle.book.specs.References.{scope_at}
use Rattle.book.specs.Typing.{type_at, called_type_at}
use Rattle.book.specs.Trees.{tree, own_target, called_target}
use Rattle.book.specs.Steps.{reads, depends_on, step_count, step_order}
use Rattle.book.specs.Judge.{judge}
use Rattle.book.specs.declared.ValueType.{ValueType}
use Rattle.book.specs.declared.ValueType.TheVariants.{YesNo}
use Rattle.book.specs.declared.Variable.{Variable}
use Rattle.acceptance.specs.Accepted.{WithinLimits, WellFormed, CompleteOrder}
use Rattle.acceptance.proofs.Orders.{accepted_book}
use Rattle.acceptance.proofs.Reading.{variable_depends, call_depends}
use Rattle.evaluation.specs.Handing.{handed}
use Rattle.evaluation.specs.Run.{Entered, values, State, env_of, begin, run_steps_by, run_steps, run_scope}
use Rattle.evaluation.specs.Types.{HasType, Holds, MayHold, HoldsAt, Fitting, ValuesFit, OutcomeFits, EnteredFits, OwnNamed, CalledNamed, WellTyped}
use Rattle.evaluation.specs.Readiness.{Reached, Ready, TermReady, TreesReady, Progress, callee_of, hands_over, with_variable, with_call}
use Rattle.evaluation.specs.Meaning.{Overrides}
use Rattle.evaluation.proofs.Next.{next_below, next_after, next_new, snoc_other, snoc_here, append_more, append_none}
use Rattle.evaluation.proofs.Running.{by_step}
use Rattle.evaluation.proofs.Entering.{accepted_entered_steps, accepted_by_blocks}
use Rattle.evaluation.proofs.Soundness.{Passes, typed_map, held_type, ready_typed}
use Rattle.evaluation.proofs.Trees.{tree_typed}
use Rattle.evaluation.proofs.Environments.{Each, each_rest, handing_overrides}
use Rattle.answers.specs.declared.Cause.{Cause}

-- Lists of values

fit_at : (xs : List Variable) (vs : List Value) (x : ℕ) → ValuesFit xs vs → x < length xs
    → HoldsAt (get_or xs x (record { holds = YesNo })).holds vs x
fit_at [] vs x h l = absurd (omega arith)
fit_at (y ∷ xs) [] x h l = absurd h
fit_at (y ∷ xs) (v ∷ vs) zero h l = h.0
fit_at (y ∷ xs) (v ∷ vs) (suc x) h l = fit_at xs vs x h.1 (omega arith)

fitting_at : (xs : List Variable) (gs : List (Option Value)) (x : ℕ) → Fitting xs gs
    → MayHold (get_or xs x (record { holds = YesNo })).holds (get_or gs x None)
fitting_at [] [] x h = tt
fitting_at [] (g ∷ gs) x h = absurd h
fitting_at (y ∷ xs) [] x h = absurd h
fitting_at (y ∷ xs) (g ∷ gs) zero h = h.0
fitting_at (y ∷ xs) (g ∷ gs) (suc x) h = fitting_at xs gs x h.1

all_held : (xs : List Variable) (gs : List (Option Value)) → length gs ≡ length xs
    → ((w : ℕ) → w < length xs → Holds (get_or xs w (record { holds = YesNo })).holds (get_or gs w None)) → ValuesFit xs (map held gs)
all_held [] [] e h = tt
all_held [] (g ∷ gs) e h = absurd (omega arith)
all_held (x ∷ xs) [] e h = absurd (omega arith)
all_held (x ∷ xs) (g ∷ gs) e h = (held_type x.holds g (h 0 (omega arith)), all_held xs gs (omega arith) (λ w l. h (suc w) (omega arith)))

-- Ready steps

module _ (book : List Scope) (s : Scope) (formed : WellFormed book s) (within : WithinLimits s) where
  -- what a step depends on is there to be read
  passes : (x : ℕ) (st : State) → Ready book s x st → (r : ℕ → Bool) → ((w : ℕ) → r w ≡ true → depends_on s x w ≡ true)
      → Passes (length s.variables) (OwnNamed s) (λ w t. Holds t (get_or st.own w None))
      (CalledNamed book s) (λ k w t. HoldsAt t (get_or st.called k []) w) r
  passes x st ready r depends =
      record {
        own = λ w t e n. subst (λ (a : ValueType). Holds a (get_or st.own w None)) n.1 (ready.variables w n.0 (depends w e));
        calls = λ k w t e n.
            subst (λ (a : ValueType). HoldsAt a (get_or st.called k []) w) n.2
            (fit_at (scope_at book (get_or s.sub_scopes k 0)).variables (get_or st.called k []) w
            (ready.calls k n.0 (depends (length s.variables + k) e)) n.1);
      }

  term_ready : (x : ℕ) (st : State) → Ready book s x st → (t : Term) (u : ValueType)
      → ((w : ℕ) → reads (length s.variables) w t ≡ true → depends_on s x w ≡ true) → WellTyped book s t u → TermReady st t u
  term_ready x st ready t u depends =
      typed_map (length s.variables) (OwnNamed s) (λ w t₁. Holds t₁ (get_or st.own w None))
      (CalledNamed book s) (λ k w t₁. HoldsAt t₁ (get_or st.called k []) w) t u
      (passes x st ready (λ w. reads (length s.variables) w t) depends)

  pub trees_ready : (x : ℕ) (st : State) → Ready book s x st → TreesReady book s x st
  trees_ready x st r = record { own = own_ready; overrides = override_ready }
    where
      few : length s.clauses ≤ 255
      few = omega (arith, within.clauses)

      own_ready : x < length s.variables → TermReady st (tree s (own_target x)) (type_at s x)
      own_ready l =
          term_ready x st r (tree s (own_target x)) (type_at s x) (λ w e. (variable_depends book s formed within x w l).1 e)
          (tree_typed book s formed few (own_target x))

      override_ready : (k : ℕ) → k < length s.sub_scopes → x ≡ length s.variables + k
          → (u : ℕ) → TermReady st (tree s (called_target k u)) (called_type_at book s k u)
      override_ready k l e u =
          let other : eqb k 255 ≡ false = ne_eqb k 255 (λ q. omega (arith, within.sub_scopes)) in
          term_ready x st r (tree s (called_target k u)) (called_type_at book s k u)
          (λ w q. rw e ((call_depends book s formed within k w l).1 (u, q)))
          (rw other at (tree_typed book s formed few (called_target k u)))

-- Along a run

below_steps : (s : Scope) (w : ℕ) → w < length s.variables → w < step_count s
unfolding step_count
below_steps s w l = omega arith

-- a variable's step gives a value of its type
step_typed : (t : ValueType) (g : Option Value) (o : Result Value Cause) (y : Value) → MayHold t g → OutcomeFits t o → takes g o ≡ Ok y → HasType t y
step_typed t None o y h f e = subst (OutcomeFits t) e f
step_typed t (Some v) o y h f e = subst (OutcomeFits t) e h

-- so is what a call hands over for a variable
override_typed : (t : ValueType) (e : Env) (s : Scope) (k v : ℕ) (g : Option Value) → OutcomeFits t (eval e (tree s (called_target k v)))
    → Overrides e s k v g → MayHold t g
override_typed t e s k v g f (Overrides.without q) = tt
override_typed t e s k v g f (Overrides.empty q p) = tt
override_typed t e s k v g f (Overrides.with y q p) = subst (OutcomeFits t) (step_default None e (tree s (called_target k v)) ∙ p) f

each_fits : (e : Env) (s : Scope) (k v : ℕ) (xs : List Variable) (gs : List (Option Value))
    → ((j : ℕ) → j < length xs → OutcomeFits (get_or xs j (record { holds = YesNo })).holds (eval e (tree s (called_target k (v + j)))))
    → Each e s k v xs gs → Fitting xs gs
each_fits e s k v [] [] h r = tt
each_fits e s k v [] (g ∷ gs) h r = absurd (let z = r.size in omega arith)
each_fits e s k v (x ∷ xs) [] h r = absurd (let z = r.size in omega arith)
each_fits e s k v (x ∷ xs) (g ∷ gs) h r =
    let z : v + 0 ≡ v = omega arith in
    let here : OutcomeFits x.holds (eval e (tree s (called_target k v))) = rw z at (h 0 (omega arith)) in
    let p = each_rest e s k v x xs g gs r in (
      override_typed x.holds e s k v g here p.0,
      each_fits e s k (suc v) xs gs (λ j l. let y : suc v + j ≡ v + suc j = omega arith in rw y (h (suc j) (omega arith))) p.1,
    )

module _ (book : List Scope) (enter : ℕ → List (Option Value) → Entered) (s : Scope) (given : List (Option Value))
    (formed : WellFormed book s) (within : WithinLimits s) (orders : CompleteOrder (depends_on s) (step_count s) (step_order s))
    (fitting : Fitting s.variables given)
    (fit : (k : ℕ) → k < length s.sub_scopes → (gs : List (Option Value)) → Fitting (scope_at book (get_or s.sub_scopes k 0)).variables gs
    → EnteredFits (scope_at book (get_or s.sub_scopes k 0)).variables (enter (get_or s.sub_scopes k 0) gs)) where
  pub progress_below : (x : ℕ) (xs : List ℕ) (st : State) → Progress book s (x ∷ xs) st → x < step_count s
  progress_below x xs st p = next_below (depends_on s) (step_count s) (step_order s) orders x xs p.steps p.split

  pub progress_ready : (x : ℕ) (xs : List ℕ) (st : State) → Progress book s (x ∷ xs) st → Ready book s x st
  unfolding step_count
  progress_ready x xs st p =
      let before = next_after (depends_on s) (step_count s) (step_order s) orders x xs p.steps p.split in
      record {
        variables = λ w l e. p.done.stored w l (before w (omega arith) e);
        calls = λ k l e. p.done.entered k l (before (length s.variables + k) (omega arith) e);
      }

  -- the next step is not yet done
  pub progress_new : (x : ℕ) (xs : List ℕ) (st : State) (p : Progress book s (x ∷ xs) st) → among p.steps x ≡ false
  progress_new x xs st p = next_new (depends_on s) (step_count s) (step_order s) orders x xs p.steps p.split

  begin_progress : Progress book s (step_order s) (begin s)
  unfolding among
  begin_progress =
      record {
        steps = [];
        split = refl;
        done =
            record {
              own_length = length-map s.variables (λ v. None);
              called_length = length-map s.sub_scopes (λ k. []);
              stored = λ w l m. absurd (false≢true m);
              unset = λ w l m. get_or-map {B = (Option Value)} (λ (v : Variable). None) s.variables w (record { holds = YesNo });
              entered = λ k l m. absurd (false≢true m);
              waiting = λ k l m. get_or-map {B = List Value} (λ (k : ℕ). []) s.sub_scopes k 0;
            };
      }

  variable_progress : (x : ℕ) (xs : List ℕ) (st : State) (y : Value) → Progress book s (x ∷ xs) st → x < length s.variables
      → step (get_or given x None) (env_of st) (tree s (own_target x)) ≡ Ok y
      → Progress book s xs (with_variable st x y)
  variable_progress x xs st y p l e =
      let d = p.done in
      let ready = trees_ready book s formed within x st (progress_ready x xs st p) in
      let typed : HasType (type_at s x) y =
      step_typed (type_at s x) (get_or given x None) (eval (env_of st) (tree s (own_target x))) y (fitting_at s.variables given x fitting)
      (ready_typed st (tree s (own_target x)) (type_at s x) (ready.own l)) e in
      let inside : x < length st.own = omega (arith, d.own_length) in
      record {
        steps = p.steps ++ x ∷ [];
        split = p.split ∙ append_more p.steps x xs;
        done =
            record {
              own_length = length-set st.own x (Some y) ∙ d.own_length;
              called_length = d.called_length;
              stored = λ w h m.
                  ⊎_elim
                  (λ (q : eqb w x ≡ true).
                  let same : w ≡ x = eqb-true w x q in
                  subst (λ (z : ℕ). Holds (type_at s z) (get_or (set st.own x (Some y)) z None)) (sym same)
                  (rw (get_or-set_same st.own x (Some y) None inside) typed))
                  (λ (q : eqb w x ≡ false).
                  let ne : w ≡ x → ⊥ = eqb-false w x q in
                  rw (get_or-set_other st.own x w (Some y) None ne)
                  (d.stored w h (sym (snoc_other p.steps x w ne) ∙ m)))
                  (decide (eqb w x));
              unset = λ w h m.
                  ⊎_elim
                  (λ (q : eqb w x ≡ true).
                  absurd (false≢true (sym m ∙ snoc_here p.steps x w (eqb-true w x q))))
                  (λ (q : eqb w x ≡ false).
                  let ne : w ≡ x → ⊥ = eqb-false w x q in
                  get_or-set_other st.own x w (Some y) None ne ∙ d.unset w h (sym (snoc_other p.steps x w ne) ∙ m))
                  (decide (eqb w x));
              entered = λ k h m. d.entered k h (sym (snoc_other p.steps x (length s.variables + k) (λ q. omega arith)) ∙ m);
              waiting = λ k h m. d.waiting k h (sym (snoc_other p.steps x (length s.variables + k) (λ q. omega arith)) ∙ m);
            };
      }

  handed_fit : (x : ℕ) (xs : List ℕ) (st : State) (gs : List (Option Value)) → Progress book s (x ∷ xs) st → length s.variables ≤ x
      → hands_over book s st x ≡ handed gs → Fitting (scope_at book (callee_of s x)).variables gs
  unfolding step_count
  handed_fit x xs st gs p l e =
      let k = x - length s.variables in
      let callee = (scope_at book (callee_of s x)).variables in
      let low : x < length s.variables + length s.sub_scopes = progress_below x xs st p in
      let ready = trees_ready book s formed within x st (progress_ready x xs st p) in
      each_fits (env_of st) s k 0 callee gs
      (λ j h.
      let z : 0 + j ≡ j = omega arith in
      rw z (ready_typed st (tree s (called_target k j)) (called_type_at book s k j) (ready.overrides k (omega arith) (omega arith) j)))
      (handing_overrides (env_of st) s k 0 callee gs e)

  call_progress : (x : ℕ) (xs : List ℕ) (st : State) (gs : List (Option Value)) (vs : List Value) (n : ℕ) → Progress book s (x ∷ xs) st
      → length s.variables ≤ x
      → hands_over book s st x ≡ handed gs
      → enter (callee_of s x) gs ≡ values vs n
      → Progress book s xs (with_call st (x - length s.variables) vs n)
  unfolding step_count
  call_progress x xs st gs vs n p l h e =
      let d = p.done in
      let v = length s.variables in
      let k = x - v in
      let callee = (scope_at book (get_or s.sub_scopes k 0)).variables in
      let low : x < v + length s.sub_scopes = progress_below x xs st p in
      let there : k < length s.sub_scopes = omega arith in
      let fits : Fitting callee gs = handed_fit x xs st gs p l h in
      let typed : ValuesFit callee vs = subst (EnteredFits callee) e (fit k there gs fits) in
      let inside : k < length st.called = omega (arith, d.called_length) in
      record {
        steps = p.steps ++ x ∷ [];
        split = p.split ∙ append_more p.steps x xs;
        done =
            record {
              own_length = d.own_length;
              called_length = length-set st.called k vs ∙ d.called_length;
              stored = λ w r m. d.stored w r (sym (snoc_other p.steps x w (λ q. omega arith)) ∙ m);
              unset = λ w r m. d.unset w r (sym (snoc_other p.steps x w (λ q. omega arith)) ∙ m);
              entered = λ j r m.
                  ⊎_elim
                  (λ (q : eqb j k ≡ true).
                  let same : j ≡ k = eqb-true j k q in
                  subst (λ (z : ℕ). ValuesFit (scope_at book (get_or s.sub_scopes z 0)).variables (get_or (set st.called k vs) z [])) (sym same)
                  (rw (get_or-set_same st.called k vs [] inside) typed))
                  (λ (q : eqb j k ≡ false).
                  let ne : j ≡ k → ⊥ = eqb-false j k q in
                  rw (get_or-set_other st.called k j vs [] ne)
                  (d.entered j r (sym (snoc_other p.steps x (v + j) (λ t. ne (omega arith))) ∙ m)))
                  (decide (eqb j k));
              waiting = λ j r m.
                  ⊎_elim
                  (λ (q : eqb j k ≡ true).
                  let same : j ≡ k = eqb-true j k q in
                  let here : v + j ≡ x = omega arith in
                  absurd (false≢true (sym m ∙ snoc_here p.steps x (v + j) here)))
                  (λ (q : eqb j k ≡ false).
                  let ne : j ≡ k → ⊥ = eqb-false j k q in
                  get_or-set_other st.called k j vs [] ne ∙ d.waiting j r (sym (snoc_other p.steps x (v + j) (λ t. ne (omega arith))) ∙ m))
                  (decide (eqb j k));
            };
      }

  pub reached_progress : (xs : List ℕ) (st : State) → Reached book enter s given xs st → Progress book s xs st
  reached_progress xs st (Reached.start) = begin_progress
  reached_progress xs st (Reached.variable {x = x} {xs = ys} {st = t} y r l e) = variable_progress x ys t y (reached_progress (x ∷ ys) t r) l e
  reached_progress xs st (Reached.call {x = x} {xs = ys} {st = t} gs vs n r l h e) =
      call_progress x ys t gs vs n (reached_progress (x ∷ ys) t r) l h e

  pub reached_ready : (x : ℕ) (xs : List ℕ) (st : State) → Reached book enter s given (x ∷ xs) st → Ready book s x st
  reached_ready x xs st r = progress_ready x xs st (reached_progress (x ∷ xs) st r)

  -- what a call hands over fits the variables of the scope that it enters
  pub reached_handed : (x : ℕ) (xs : List ℕ) (st : State) (gs : List (Option Value)) → Reached book enter s given (x ∷ xs) st → length s.variables ≤ x
      → hands_over book s st x ≡ handed gs
      → Fitting (scope_at book (callee_of s x)).variables gs
  reached_handed x xs st gs r = handed_fit x xs st gs (reached_progress (x ∷ xs) st r)

  pub steps_fit : (xs : List ℕ) (st : State) → Reached book enter s given xs st → EnteredFits s.variables (run_steps book enter s given xs st)
  unfolding run_steps_by
  steps_fit [] st r =
      let p = reached_progress [] st r in
      let d = p.done in
      all_held s.variables st.own d.own_length (λ w l.
      d.stored w l (ap (λ (ys : List ℕ). among ys w) (sym (p.split ∙ append_none p.steps)) ∙ orders.every w (below_steps s w l)))
  steps_fit (x ∷ xs) st r =
      let k = x - length s.variables in
      by_step book enter s given (EnteredFits s.variables) x xs st
      (λ l y e. steps_fit xs (with_variable st x y) (Reached.variable y r l e))
      (λ l gs vs n h e.
      steps_fit xs (with_call st k vs n) (Reached.call gs vs n r l h e))
      (λ c. tt)
      (λ l gs c n h e. tt)

-- Of an accepted book

module _ (bytes : List ℕ) (n : ℕ) (accepted : judge bytes ≡ Ok n) where
  pub accepted_fit : (i : ℕ) → i < n → (given : List (Option Value)) → Fitting (scope_at (scopes_of bytes) i).variables given
      → EnteredFits (scope_at (scopes_of bytes) i).variables (run_scope (scopes_of bytes) i given)
  accepted_fit =
      accepted_by_blocks bytes n accepted
      (λ i. (given : List (Option Value)) → Fitting (scope_at (scopes_of bytes) i).variables given
      → EnteredFits (scope_at (scopes_of bytes) i).variables (run_scope (scopes_of bytes) i given))
      turn
    where
      turn : (i : ℕ) → i < n
          → ((k : ℕ) → k < length (scope_at (scopes_of bytes) i).sub_scopes → (gs : List (Option Value))
          → Fitting (scope_at (scopes_of bytes) (get_or (scope_at (scopes_of bytes) i).sub_scopes k 0)).variables gs
          → EnteredFits (scope_at (scopes_of bytes) (get_or (scope_at (scopes_of bytes) i).sub_scopes k 0)).variables
          (run_scope (scopes_of bytes) (get_or (scope_at (scopes_of bytes) i).sub_scopes k 0) gs))
          → (given : List (Option Value)) → Fitting (scope_at (scopes_of bytes) i).variables given
          → EnteredFits (scope_at (scopes_of bytes) i).variables (run_scope (scopes_of bytes) i given)
      turn i l earlier given fitting =
          let book = scopes_of bytes in
          let s = scope_at book i in
          let a = accepted_book bytes n accepted in
          rw (accepted_entered_steps bytes n accepted i l given)
          (steps_fit book (run_scope book) s given (a.formed i l) (a.within i) (a.step_orders i l) fitting earlier
          (step_order s) (begin s) Reached.start)

  -- a run of scope i, entered with values that fit its variables
  module _ (i : ℕ) (l : i < n) (given : List (Option Value)) (fitting : Fitting (scope_at (scopes_of bytes) i).variables given) where
    sub_scopes_fit : (k : ℕ) → k < length (scope_at (scopes_of bytes) i).sub_scopes → (gs : List (Option Value))
        → Fitting (scope_at (scopes_of bytes) (get_or (scope_at (scopes_of bytes) i).sub_scopes k 0)).variables gs
        → EnteredFits (scope_at (scopes_of bytes) (get_or (scope_at (scopes_of bytes) i).sub_scopes k 0)).variables
        (run_scope (scopes_of bytes) (get_or (scope_at (scopes_of bytes) i).sub_scopes k 0) gs)
    sub_scopes_fit k h =
        let a = accepted_book bytes n accepted in
        accepted_fit (get_or (scope_at (scopes_of bytes) i).sub_scopes k 0) (omega (arith, a.count, (a.formed i l).sub_scopes_named k h))

    pub accepted_progress : (xs : List ℕ) (st : State)
        → Reached (scopes_of bytes) (run_scope (scopes_of bytes)) (scope_at (scopes_of bytes) i) given xs st
        → Progress (scopes_of bytes) (scope_at (scopes_of bytes) i) xs st
    accepted_progress =
        let book = scopes_of bytes in
        let a = accepted_book bytes n accepted in
        reached_progress book (run_scope book) (scope_at book i) given (a.formed i l) (a.within i) (a.step_orders i l) fitting sub_scopes_fit

    pub accepted_new : (x : ℕ) (xs : List ℕ) (st : State) (p : Progress (scopes_of bytes) (scope_at (scopes_of bytes) i) (x ∷ xs) st)
        → (x < step_count (scope_at (scopes_of bytes) i)) × (among p.steps x ≡ false)
    accepted_new x xs st p =
        let book = scopes_of bytes in
        let a = accepted_book bytes n accepted in
        let s = scope_at book i in (
          progress_below book (run_scope book) s given (a.formed i l) (a.within i) (a.step_orders i l) fitting sub_scopes_fit x xs st p,
          progress_new book (run_scope book) s given (a.formed i l) (a.within i) (a.step_orders i l) fitting sub_scopes_fit x xs st p,
        )

    pub accepted_ready : (x : ℕ) (xs : List ℕ) (st : State)
        → Reached (scopes_of bytes) (run_scope (scopes_of bytes)) (scope_at (scopes_of bytes) i) given (x ∷ xs) st
        → Ready (scopes_of bytes) (scope_at (scopes_of bytes) i) x st
    accepted_ready =
        let book = scopes_of bytes in
        let a = accepted_book bytes n accepted in
        reached_ready book (run_scope book) (scope_at book i) given (a.formed i l) (a.within i) (a.step_orders i l) fitting sub_scopes_fit

    pub accepted_trees : (x : ℕ) (xs : List ℕ) (st : State)
        → Reached (scopes_of bytes) (run_scope (scopes_of bytes)) (scope_at (scopes_of bytes) i) given (x ∷ xs) st
        → TreesReady (scopes_of bytes) (scope_at (scopes_of bytes) i) x st
    accepted_trees x xs st r =
        let book = scopes_of bytes in
        let a = accepted_book bytes n accepted in
        trees_ready book (scope_at book i) (a.formed i l) (a.within i) x st (accepted_ready x xs st r)

    pub accepted_handed : (x : ℕ) (xs : List ℕ) (st : State) (gs : List (Option Value))
        → Reached (scopes_of bytes) (run_scope (scopes_of bytes)) (scope_at (scopes_of bytes) i) given (x ∷ xs) st
        → length (scope_at (scopes_of bytes) i).variables ≤ x → hands_over (scopes_of bytes) (scope_at (scopes_of bytes) i) st x ≡ handed gs
        → Fitting (scope_at (scopes_of bytes) (callee_of (scope_at (scopes_of bytes) i) x)).variables gs
    accepted_handed =
        let book = scopes_of bytes in
        let a = accepted_book bytes n accepted in
        reached_handed book (run_scope book) (scope_at book i) given (a.formed i l) (a.within i) (a.step_orders i l) fitting sub_scopes_fit
