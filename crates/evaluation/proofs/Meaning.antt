-- What a scope means is what it runs to, in whatever order its steps are taken.
--     run_solves          where a run of the steps in some order ends in values, these solve the scope's equations
--     solution_runs       where values solve them, a run of the steps in any order ends in these values
--     run_means, means_run        of an accepted book: a scope is run to values if and only if it means them
--     means_unique                what a scope means is unique
--     order_means, means_order    the same for its steps in any order in which each stands once and after all that it depends on
--     any_order                   so the order decides nothing but which end a run without values comes to, and its count
-- Assumes nothing.
use Prim.Native.Nat.{ℕ, suc, ◌<◌, ◌≤◌, ◌+◌, ◌-◌}
use mathlib.Core.Path.{◌≡◌, refl, sym, ap, subst, ◌∙◌}
use mathlib.Core.Bool.{true, false, false≢true, true≢false}
use mathlib.Core.List.{List, [], ◌∷◌, ◌++◌, map}
use mathlib.Core.Logic.{⊎_elim}
use native.Mathlib.Omega.{arith}
use lib.ListN.{length, get_or, set, length-set, length-map, get_or-map}
use lib.Seq.{get_or-set_same, get_or-set_other}
use lib.Dec.{eqb, ltb}
use borrow.Author.Tests.{eqb-true, eqb-false, ltb-true, ltb-false}
use Rattle.std.specs.Prelude.{Ok, Option, None, Some}
use Rattle.calculus.specs.Evaluation.{Env, step, takes}
use Rattle.calculus.specs.declared.Value.{Value}
use Rattle.calculus.specs.declared.Value.TheVariants.{Truth}
use Rattle.cells.specs.Cells.{held}
use Rattle.order.specs.Order.{among}
use Rattle.calculus.proofs.Overriding.{step_default}
use Rattle.laws.proofs.Booleans.{decide}
use Rattle.book.specs.Syntax.{Scope}
use Rattle.book.specs.Decode.{scopes_of}
use Rattle.book.specs.References.{scope_at}
use Rattle.book.specs.Scopes.{weight}
use Rattle.book.specs.Trees.{tree, own_target}
use Rattle.book.specs.Steps.{depends_on, step_count, step_order}
use Rattle.book.specs.Judge.{judge}
use Rattle.book.specs.declared.Variable.{Variable}
use Rattle.acceptance.specs.Accepted.{WithinLimits, WellFormed, CompleteOrder}
use Rattle.acceptance.proofs.Orders.{accepted_book}
use Rattle.evaluation.specs.Handing.{Handing, handed, failed, handing}
use Rattle.evaluation.specs.Run.{Entered, values, ended, State, env_of, begin, run_steps_by, run_steps, run_scope}
use Rattle.evaluation.specs.Readiness.{callee_of, hands_over, with_variable, with_call}
use Rattle.evaluation.specs.Meaning.{holding, Solves, Means}
use Rattle.evaluation.proofs.Next.{next_below, next_after, next_new, snoc_here, snoc_more, snoc_other, append_more, append_none}
use Rattle.evaluation.proofs.Running.{by_step, call_number, variable_turn, call_turn}
use Rattle.evaluation.proofs.Entering.{accepted_entered_steps, accepted_by_blocks}
use Rattle.evaluation.proofs.Environments.{SameFor, tree_same, handing_same, Each, handing_overrides, overrides_handing}
use Rattle.evaluation.proofs.Counts.{Bounded, order_bounded, values_count}

all_held : (gs : List (Option Value)) (vs : List Value) → length gs ≡ length vs
    → ((w : ℕ) → w < length gs → get_or gs w None ≡ Some (get_or vs w (Truth false))) → map held gs ≡ vs
all_held [] [] e h = refl
all_held [] (v ∷ vs) e h = absurd (omega arith)
all_held (g ∷ gs) [] e h = absurd (omega arith)
all_held (g ∷ gs) (v ∷ vs) e h =
    let here : held g ≡ v = ap held (h 0 (omega arith)) in
    rw (here, all_held gs vs (omega arith) (λ w l. h (suc w) (omega arith)))

-- a run of a scope's steps in an order that is complete; `enter` is what entering a scope with given variables comes to
module _ (book : List Scope) (enter : ℕ → List (Option Value) → Entered) (s : Scope) (given : List (Option Value))
    (formed : WellFormed book s) (within : WithinLimits s)
    (order : List ℕ) (complete : CompleteOrder (depends_on s) (step_count s) order) where
  abbrev own : ℕ
  own = length s.variables

  abbrev calls : ℕ
  calls = length s.sub_scopes

  -- the variables of the scope that sub-scope k names
  abbrev callee : ℕ → List Variable
  callee k = (scope_at book (get_or s.sub_scopes k 0)).variables

  own_step_lem : (w : ℕ) → w < own → w < step_count s
  unfolding step_count
  own_step_lem w l = omega arith

  call_step : (k : ℕ) → k < calls → own + k < step_count s
  unfolding step_count
  call_step k l = omega arith

  -- a solution of the scope's equations, in which each call gives the values of its sub-scope
  pub record Solution (vs : List Value) : Type 0 where
    pub hands_out : ℕ → List (Option Value)
    pub called_values : List (List Value)
    pub solves : Solves book s given vs hands_out called_values
    pub entered : (k : ℕ) → k < length s.sub_scopes → (n : ℕ) × (enter (get_or s.sub_scopes k 0) (hands_out k) ≡ values (get_or called_values k []) n)

  -- From a run to a solution

  -- what the steps done have set stays
  record Kept (done : List ℕ) (st last : State) : Type 0 where
    own : (w : ℕ) → w < length s.variables → among done w ≡ true → get_or last.own w None ≡ get_or st.own w None
    called : (k : ℕ) → k < length s.sub_scopes → among done (length s.variables + k) ≡ true
        → get_or last.called k [] ≡ get_or st.called k []

  -- a call's overrides and the scope that it enters give these values
  record Calls (e : Env) (k : ℕ) (vs : List Value) : Type 0 where
    gives : List (Option Value)
    hands : handing e s k 0 (callee k) ≡ handed gives
    count : ℕ
    enters : enter (get_or s.sub_scopes k 0) gives ≡ values vs count

  -- the last state of a run from a state on: each step not done before gives, in its environment, what was set
  record Final (done : List ℕ) (st : State) (vs : List Value) : Type 0 where
    last : State
    ends : map held last.own ≡ vs
    own_length : length last.own ≡ length s.variables
    called_length : length last.called ≡ length s.sub_scopes
    kept : Kept done st last
    variables : (x : ℕ) → x < length s.variables → among done x ≡ false
        → step (get_or given x None) (env_of last) (tree s (own_target x)) ≡ Ok (held (get_or last.own x None))
    calls : (k : ℕ) → k < length s.sub_scopes → among done (length s.variables + k) ≡ false → Calls (env_of last) k (get_or last.called k [])

  abbrev FinalOf : List ℕ → State → Entered → Type 0
  FinalOf done st (values vs n) = Final done st vs
  FinalOf done st (ended c n) = Unit {0}

  -- the next step is x
  module _ (x : ℕ) (xs done : List ℕ) (split : order ≡ done ++ x ∷ xs) (st : State) where
    other : (w : ℕ) → among done w ≡ true → w ≡ x → ⊥
    other w m e = true≢false (sym m ∙ ap (among done) e ∙ next_new (depends_on s) (step_count s) order complete x xs done split)

    before : (w : ℕ) → w < step_count s → depends_on s x w ≡ true → among done w ≡ true
    before = next_after (depends_on s) (step_count s) order complete x xs done split

    kept_same : (last : State) → Kept done st last → SameFor (env_of st) (env_of last) s x
    kept_same last k =
        record {
          own = λ w l d. ap held (sym (k.own w l (before w (own_step_lem w l) d)));
          called = λ j l d v. ap (λ us. get_or us v (Truth false)) (sym (k.called j l (before (own + j) (call_step j l) d)));
        }

    module _ (l : x < own) (y : Value) (e : step (get_or given x None) (env_of st) (tree s (own_target x)) ≡ Ok y) (inside : length st.own ≡ own) where
      variable_kept : (last : State) → Kept (done ++ x ∷ []) (with_variable st x y) last → Kept done st last
      variable_kept last k =
          record {
            own = λ w h m. k.own w h (snoc_more done x w m) ∙ get_or-set_other st.own x w (Some y) None (other w m);
            called = λ j h m. k.called j h (snoc_more done x (own + j) m);
          }

      variable_final : (r : Entered) → FinalOf (done ++ x ∷ []) (with_variable st x y) r → FinalOf done st r
      variable_final (ended c n) f = tt
      variable_final (values vs n) f =
          let last = f.last in
          let kept = variable_kept last f.kept in
          let set_here : get_or last.own x None ≡ Some y =
          f.kept.own x l (snoc_here done x x refl) ∙ get_or-set_same st.own x (Some y) None (omega (arith, inside)) in
          let here : step (get_or given x None) (env_of last) (tree s (own_target x)) ≡ Ok (held (get_or last.own x None)) =
          ap (takes (get_or given x None)) (sym (tree_same (env_of st) (env_of last) book s formed within x (kept_same last kept) l))
          ∙ e ∙ ap (λ g. Ok (held g)) (sym set_here) in
          record {
            last = last;
            ends = f.ends;
            own_length = f.own_length;
            called_length = f.called_length;
            kept = kept;
            variables = λ z h m.
                ⊎_elim
                (λ (q : eqb z x ≡ true).
                subst (λ (w : ℕ). step (get_or given w None) (env_of last) (tree s (own_target w)) ≡ Ok (held (get_or last.own w None)))
                (sym (eqb-true z x q)) here)
                (λ (q : eqb z x ≡ false). f.variables z h (snoc_other done x z (eqb-false z x q) ∙ m))
                (decide (eqb z x));
            calls = λ k h m. f.calls k h (snoc_other done x (own + k) (λ q. omega arith) ∙ m);
          }

    module _ (l : own ≤ x) (gs : List (Option Value)) (us : List Value) (n : ℕ) (h : hands_over book s st x ≡ handed gs) (e : enter (callee_of s x) gs ≡ values us n)
        (inside : length st.called ≡ calls) where
      abbrev k : ℕ
      k = x - own

      there : k < calls
      there = call_number s x (next_below (depends_on s) (step_count s) order complete x xs done split) l

      call_kept : (last : State) → Kept (done ++ x ∷ []) (with_call st k us n) last → Kept done st last
      call_kept last p =
          record {
            own = λ w r m. p.own w r (snoc_more done x w m);
            called = λ j r m.
                p.called j r (snoc_more done x (own + j) m)
                ∙ get_or-set_other st.called k j us [] (λ q. other (own + j) m (omega arith));
          }

      call_final : (r : Entered) → FinalOf (done ++ x ∷ []) (with_call st k us n) r → FinalOf done st r
      call_final (ended c m) f = tt
      call_final (values vs m) f =
          let last = f.last in
          let kept = call_kept last f.kept in
          let at : own + k ≡ x = omega arith in
          let set_here : get_or last.called k [] ≡ us =
          f.kept.called k there (snoc_here done x (own + k) at) ∙ get_or-set_same st.called k us [] (omega (arith, inside, there)) in
          let here : Calls (env_of last) k (get_or last.called k []) =
          record {
            gives = gs;
            hands = sym (handing_same (env_of st) (env_of last) book s formed within x (kept_same last kept) k there (sym at) 0 (callee k)) ∙ h;
            count = n;
            enters = e ∙ ap (λ ws. values ws n) (sym set_here);
          } in
          record {
            last = last;
            ends = f.ends;
            own_length = f.own_length;
            called_length = f.called_length;
            kept = kept;
            variables = λ z r q. f.variables z r (snoc_other done x z (λ t. omega arith) ∙ q);
            calls = λ j r q.
                ⊎_elim
                (λ (t : eqb j k ≡ true). subst (λ (w : ℕ). Calls (env_of last) w (get_or last.called w [])) (sym (eqb-true j k t)) here)
                (λ (t : eqb j k ≡ false). f.calls j r (snoc_other done x (own + j) (λ p. eqb-false j k t (omega arith)) ∙ q))
                (decide (eqb j k));
          }

  final : (xs done : List ℕ) (st : State) → order ≡ done ++ xs → length st.own ≡ own → length st.called ≡ calls
      → FinalOf done st (run_steps book enter s given xs st)
  unfolding run_steps_by
  final [] done st split a b =
      let all : (w : ℕ) → w < step_count s → among done w ≡ false → ⊥ = λ w l m.
      false≢true (sym m ∙ ap (λ (ys : List ℕ). among ys w) (sym (split ∙ append_none done)) ∙ complete.every w l) in
      record {
        last = st;
        ends = refl;
        own_length = a;
        called_length = b;
        kept = record { own = λ w l m. refl; called = λ k l m. refl };
        variables = λ x l m. absurd (all x (own_step_lem x l) m);
        calls = λ k l m. absurd (all (own + k) (call_step k l) m);
      }
  final (x ∷ xs) done st split a b =
      let split' = split ∙ append_more done x xs in
      by_step book enter s given (FinalOf done st) x xs st
      (λ l y e. variable_final x xs done split st l y e a (run_steps book enter s given xs (with_variable st x y))
      (final xs (done ++ x ∷ []) (with_variable st x y) split' (length-set st.own x (Some y) ∙ a) b))
      (λ l gs us n h e. call_final x xs done split st l gs us n h e b (run_steps book enter s given xs (with_call st (x - own) us n))
      (final xs (done ++ x ∷ []) (with_call st (x - own) us n) split' a (length-set st.called (x - own) us ∙ b)))
      (λ c. tt)
      (λ l gs c n h e. tt)

  -- what is handed over; nothing where an override has no value
  abbrev handed_in : Handing → List (Option Value)
  handed_in (handed gs) = gs
  handed_in (failed c) = []

  holding_last : (st : State) → holding (map held st.own) st.called ≡ env_of st
  holding_last st i =
      record {
        own = λ x. get_or-map held st.own x None i;
        called = λ k x. get_or (get_or st.called k []) x (Truth false);
      }

  module _ (vs : List Value) (f : Final [] (begin s) vs) where
    abbrev last : State
    last = f.last

    abbrev found : ℕ → List (Option Value)
    found k = handed_in (handing (env_of last) s k 0 (callee k))

    call_of : (k : ℕ) → k < calls → Calls (env_of last) k (get_or last.called k [])
    unfolding among
    call_of k l = f.calls k l refl

    found_gives : (k : ℕ) (l : k < calls) → found k ≡ (call_of k l).gives
    found_gives k l = ap handed_in (call_of k l).hands

    each_of : (k : ℕ) → k < calls → Each (env_of last) s k 0 (callee k) (found k)
    each_of k l =
        subst (Each (env_of last) s k 0 (callee k)) (sym (found_gives k l))
        (handing_overrides (env_of last) s k 0 (callee k) (call_of k l).gives (call_of k l).hands)

    solved : Solves book s given (map held last.own) found last.called
    unfolding among
    solved =
        record {
          own_length = length-map last.own held ∙ f.own_length;
          called_length = f.called_length;
          handed_length = λ k l. (each_of k l).size;
          variables = λ x l.
              sym (step_default (get_or given x None) (holding (map held last.own) last.called) (tree s (own_target x)))
              ∙ rw (holding_last last) (f.variables x l refl)
              ∙ ap Ok (sym (get_or-map held last.own x None));
          overrides = λ k l v h.
              let z : 0 + v ≡ v = omega arith in
              rw (holding_last last) (rw z at ((each_of k l).overrides v h));
        }

    found_solution : Solution (map held last.own)
    found_solution =
        record {
          hands_out = found;
          called_values = last.called;
          solves = solved;
          entered = λ k l. ((call_of k l).count, ap (enter (get_or s.sub_scopes k 0)) (found_gives k l) ∙ (call_of k l).enters);
        }

  pub run_solves : (vs : List Value) (n : ℕ) → run_steps book enter s given order (begin s) ≡ values vs n → Solution vs
  run_solves vs n e =
      let f : Final [] (begin s) vs =
      subst (FinalOf [] (begin s)) e
      (final order [] (begin s) refl (length-map s.variables (λ v. None)) (length-map s.sub_scopes (λ k. []))) in
      subst Solution f.ends (found_solution vs f)

  -- From a solution to a run

  module _ (vs : List Value) (solution : Solution vs) where
    abbrev hands_out : ℕ → List (Option Value)
    hands_out = solution.hands_out

    abbrev cs : List (List Value)
    cs = solution.called_values

    abbrev solves : Solves book s given vs hands_out cs
    solves = solution.solves

    -- the steps done have set what they are to set
    record Along (done : List ℕ) (st : State) : Type 0 where
      own_length : length st.own ≡ length s.variables
      called_length : length st.called ≡ length s.sub_scopes
      own : (w : ℕ) → w < length s.variables → among done w ≡ true → get_or st.own w None ≡ Some (get_or vs w (Truth false))
      called : (k : ℕ) → k < length s.sub_scopes → among done (length s.variables + k) ≡ true → get_or st.called k [] ≡ get_or cs k []

    module _ (x : ℕ) (xs done : List ℕ) (split : order ≡ done ++ x ∷ xs) (st : State) (a : Along done st) where
      along_same : SameFor (env_of st) (holding vs cs) s x
      along_same =
          let before = next_after (depends_on s) (step_count s) order complete x xs done split in
          record {
            own = λ w l d. ap held (a.own w l (before w (own_step_lem w l) d));
            called = λ j l d v. ap (λ us. get_or us v (Truth false)) (a.called j l (before (own + j) (call_step j l) d));
          }

      variable_gives : x < own → step (get_or given x None) (env_of st) (tree s (own_target x)) ≡ Ok (get_or vs x (Truth false))
      variable_gives l =
          ap (takes (get_or given x None)) (tree_same (env_of st) (holding vs cs) book s formed within x along_same l)
          ∙ step_default (get_or given x None) (holding vs cs) (tree s (own_target x))
          ∙ solves.variables x l

      variable_along : x < own → Along (done ++ x ∷ []) (with_variable st x (get_or vs x (Truth false)))
      variable_along l =
          let y = get_or vs x (Truth false) in
          record {
            own_length = length-set st.own x (Some y) ∙ a.own_length;
            called_length = a.called_length;
            own = λ w h m.
                ⊎_elim
                (λ (q : eqb w x ≡ true).
                subst (λ (z : ℕ). get_or (set st.own x (Some y)) z None ≡ Some (get_or vs z (Truth false))) (sym (eqb-true w x q))
                (get_or-set_same st.own x (Some y) None (omega (arith, a.own_length))))
                (λ (q : eqb w x ≡ false).
                let ne : w ≡ x → ⊥ = eqb-false w x q in
                get_or-set_other st.own x w (Some y) None ne ∙ a.own w h (sym (snoc_other done x w ne) ∙ m))
                (decide (eqb w x));
            called = λ k h m. a.called k h (sym (snoc_other done x (own + k) (λ q. omega arith)) ∙ m);
          }

      -- a call's step
      module _ (l : own ≤ x) where
        abbrev j : ℕ
        j = x - own

        is_call : j < calls
        is_call = call_number s x (next_below (depends_on s) (step_count s) order complete x xs done split) l

        call_hands : hands_over book s st x ≡ handed (hands_out j)
        call_hands =
            let at : x ≡ own + j = omega arith in
            handing_same (env_of st) (holding vs cs) book s formed within x along_same j is_call at 0 (callee j)
            ∙ overrides_handing (holding vs cs) s j 0 (callee j) (hands_out j)
            (record {
              size = solves.handed_length j is_call;
              overrides = λ v r. let z : 0 + v ≡ v = omega arith in rw z (solves.overrides j is_call v r);
            })

        call_along : (n : ℕ) → Along (done ++ x ∷ []) (with_call st j (get_or cs j []) n)
        call_along n =
            let us = get_or cs j [] in
            record {
              own_length = a.own_length;
              called_length = length-set st.called j us ∙ a.called_length;
              own = λ w h m. a.own w h (sym (snoc_other done x w (λ q. omega arith)) ∙ m);
              called = λ k h m.
                  ⊎_elim
                  (λ (q : eqb k j ≡ true).
                  subst (λ (z : ℕ). get_or (set st.called j us) z [] ≡ get_or cs z []) (sym (eqb-true k j q))
                  (get_or-set_same st.called j us [] (omega (arith, is_call, a.called_length))))
                  (λ (q : eqb k j ≡ false).
                  let ne : k ≡ j → ⊥ = eqb-false k j q in
                  get_or-set_other st.called j k us [] ne ∙ a.called k h (sym (snoc_other done x (own + k) (λ t. ne (omega arith))) ∙ m))
                  (decide (eqb k j));
            }

    runs : (xs done : List ℕ) (st : State) → order ≡ done ++ xs → Along done st → (n : ℕ) × (run_steps book enter s given xs st ≡ values vs n)
    unfolding run_steps_by
    runs [] done st split a = (
      st.count,
      ap (λ (ws : List Value). values ws st.count)
          (all_held st.own vs (a.own_length ∙ sym solves.own_length) (λ w l.
          let low : w < own = omega (arith, a.own_length) in
          a.own w low (ap (λ (ys : List ℕ). among ys w) (sym (split ∙ append_none done)) ∙ complete.every w (own_step_lem w low)))),
    )
    runs (x ∷ xs) done st split a =
        let split' = split ∙ append_more done x xs in
        ⊎_elim
        (λ (q : ltb x own ≡ true).
        let l : x < own = ltb-true x own q in
        let y = get_or vs x (Truth false) in
        let r = runs xs (done ++ x ∷ []) (with_variable st x y) split' (variable_along x xs done split st a l) in
        (r.0, variable_turn book enter s given x xs st l y (variable_gives x xs done split st a l) ∙ r.1))
        (λ (q : ltb x own ≡ false).
        let l : own ≤ x = ltb-false x own q in
        let k = x - own in
        let p = solution.entered k (is_call x xs done split st a l) in
        let r = runs xs (done ++ x ∷ []) (with_call st k (get_or cs k []) p.0) split' (call_along x xs done split st a l p.0) in
        (r.0, call_turn book enter s given x xs st l (hands_out k) (get_or cs k []) p.0 (call_hands x xs done split st a l) p.1 ∙ r.1))
        (decide (ltb x own))

    pub solution_runs : (n : ℕ) × (run_steps book enter s given order (begin s) ≡ values vs n)
    unfolding among
    solution_runs =
        runs order [] (begin s) refl
        (record {
          own_length = length-map s.variables (λ v. None);
          called_length = length-map s.sub_scopes (λ k. []);
          own = λ w l m. absurd (false≢true m);
          called = λ k l m. absurd (false≢true m);
        })

-- Of an accepted book

module _ (bytes : List ℕ) (n : ℕ) (accepted : judge bytes ≡ Ok n) where
  -- a run of scope i's steps in this order, in which calls enter the book's scopes
  abbrev pub run_in_order : ℕ → List (Option Value) → List ℕ → Entered
  run_in_order i given xs =
      run_steps (scopes_of bytes) (run_scope (scopes_of bytes)) (scope_at (scopes_of bytes) i) given xs (begin (scope_at (scopes_of bytes) i))

  -- each of scope i's steps once, and after all that it depends on
  abbrev pub Complete : ℕ → List ℕ → Type 0
  Complete i = CompleteOrder (depends_on (scope_at (scopes_of bytes) i)) (step_count (scope_at (scopes_of bytes) i))

  -- of the scopes that the sub-scopes of scope i name
  abbrev OfCallees : (ℕ → Type 0) → ℕ → Type 0
  OfCallees P i = (k : ℕ) → k < length (scope_at (scopes_of bytes) i).sub_scopes → P (get_or (scope_at (scopes_of bytes) i).sub_scopes k 0)

  abbrev RunMeans : ℕ → Type 0
  RunMeans i = (given : List (Option Value)) (vs : List Value) (c : ℕ) → run_scope (scopes_of bytes) i given ≡ values vs c → Means (scopes_of bytes) i given vs

  abbrev MeansRuns : ℕ → Type 0
  MeansRuns i = (given : List (Option Value)) (vs : List Value) → Means (scopes_of bytes) i given vs → (c : ℕ) × (run_scope (scopes_of bytes) i given ≡ values vs c)

  module _ (i : ℕ) (l : i < n) (given : List (Option Value)) (xs : List ℕ) (complete : Complete i xs) (vs : List Value) where
    by_callees : OfCallees RunMeans i → (c : ℕ) → run_in_order i given xs ≡ values vs c → Means (scopes_of bytes) i given vs
    by_callees earlier c e =
        let book = scopes_of bytes in
        let a = accepted_book bytes n accepted in
        let r = run_solves book (run_scope book) (scope_at book i) given (a.formed i l) (a.within i) xs complete vs c e in
        Means.means r.hands_out r.called_values r.solves
        (λ k h. earlier k h (r.hands_out k) (get_or r.called_values k []) (r.entered k h).0 (r.entered k h).1)

    to_callees : OfCallees MeansRuns i → Means (scopes_of bytes) i given vs → (c : ℕ) × (run_in_order i given xs ≡ values vs c)
    to_callees earlier (Means.means hs cs solves calls) =
        let book = scopes_of bytes in
        let a = accepted_book bytes n accepted in
        solution_runs book (run_scope book) (scope_at book i) given (a.formed i l) (a.within i) xs complete vs
        (record { hands_out = hs; called_values = cs; solves = solves; entered = λ k h. earlier k h (hs k) (get_or cs k []) (calls k h) })

  pub run_means : (i : ℕ) → i < n → (given : List (Option Value)) (vs : List Value) (c : ℕ) → run_scope (scopes_of bytes) i given ≡ values vs c
      → Means (scopes_of bytes) i given vs
  run_means =
      accepted_by_blocks bytes n accepted RunMeans (λ i l earlier given vs c e.
      by_callees i l given (step_order (scope_at (scopes_of bytes) i)) ((accepted_book bytes n accepted).step_orders i l) vs earlier c
      (sym (accepted_entered_steps bytes n accepted i l given) ∙ e))

  means_runs : (i : ℕ) → i < n → MeansRuns i
  means_runs =
      accepted_by_blocks bytes n accepted MeansRuns (λ i l earlier given vs m.
      let r = to_callees i l given (step_order (scope_at (scopes_of bytes) i)) ((accepted_book bytes n accepted).step_orders i l) vs earlier m in
      (r.0, accepted_entered_steps bytes n accepted i l given ∙ r.1))

  pub means_run : (i : ℕ) → i < n → (given : List (Option Value)) (vs : List Value) → Means (scopes_of bytes) i given vs
      → run_scope (scopes_of bytes) i given ≡ values vs (weight (scopes_of bytes) i)
  means_run i l given vs m =
      let r = means_runs i l given vs m in
      subst (λ (c : ℕ). run_scope (scopes_of bytes) i given ≡ values vs c) (values_count bytes n accepted i l given vs r.0 r.1) r.1

  -- the values of a run
  abbrev values_in : Entered → List Value
  values_in (values vs c) = vs
  values_in (ended d c) = []

  pub means_unique : (i : ℕ) → i < n → (given : List (Option Value)) (vs ws : List Value) → Means (scopes_of bytes) i given vs
      → Means (scopes_of bytes) i given ws → vs ≡ ws
  means_unique i l given vs ws p q = ap values_in (sym (means_run i l given vs p) ∙ means_run i l given ws q)

  -- Any order of the steps

  module _ (i : ℕ) (l : i < n) (given : List (Option Value)) where
    callee_below : (k : ℕ) → k < length (scope_at (scopes_of bytes) i).sub_scopes → get_or (scope_at (scopes_of bytes) i).sub_scopes k 0 < n
    callee_below k h = let a = accepted_book bytes n accepted in omega (arith, a.count, (a.formed i l).sub_scopes_named k h)

    pub order_means : (xs : List ℕ) → Complete i xs → (vs : List Value) (c : ℕ) → run_in_order i given xs ≡ values vs c → Means (scopes_of bytes) i given vs
    order_means xs complete vs = by_callees i l given xs complete vs (λ k h. run_means (get_or (scope_at (scopes_of bytes) i).sub_scopes k 0) (callee_below k h))

    pub means_order : (xs : List ℕ) → Complete i xs → (vs : List Value) → Means (scopes_of bytes) i given vs
        → run_in_order i given xs ≡ values vs (weight (scopes_of bytes) i)
    means_order xs complete vs m =
        let r = to_callees i l given xs complete vs (λ k h. means_runs (get_or (scope_at (scopes_of bytes) i).sub_scopes k 0) (callee_below k h)) m in
        subst (λ (c : ℕ). run_in_order i given xs ≡ values vs c)
        (subst (Bounded (weight (scopes_of bytes) i)) r.1 (order_bounded bytes n accepted i l given xs complete)) r.1

    pub any_order : (xs ys : List ℕ) → Complete i xs → Complete i ys → (vs : List Value) (c : ℕ)
        → run_in_order i given xs ≡ values vs c → run_in_order i given ys ≡ values vs c
    any_order xs ys first second vs c e =
        let w : c ≡ weight (scopes_of bytes) i =
        subst (Bounded (weight (scopes_of bytes) i)) e (order_bounded bytes n accepted i l given xs first) in
        rw w (means_order ys second vs (order_means xs first vs c e))
