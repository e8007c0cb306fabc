-- The code of a scope's steps does what the steps do.
--     steps_run       from any state that the steps reach, the code of those left comes to what the steps come to
-- Assumes nothing.
use Prim.Native.Nat.{ℕ, suc, ◌<◌, ◌≤◌, ◌+◌, ◌-◌}
use mathlib.Core.Path.{◌≡◌, refl, sym, ap, subst, ◌∙◌}
use mathlib.Core.Bool.{true, false, false≢true}
use mathlib.Core.List.{List, [], ◌∷◌, ◌++◌, map, append-nil, append_cancel_right}
use mathlib.Core.Logic.{⊎_elim}
use native.Mathlib.Omega.{arith}
use lib.ListN.{length, get_or, set, length-append}
use lib.Seq.{get_or-set_same, get_or-set_other, set-get_or, set-set, set_at, get_or_at, append_snoc}
use lib.Dec.{ltb}
use borrow.Author.Tests.{ltb-true, ltb-false}
use Rattle.std.specs.Prelude.{Result, Ok, Err, Option, None, Some}
use Rattle.calculus.specs.Evaluation.{eval, step}
use Rattle.calculus.specs.Terms.{Term}
use Rattle.calculus.specs.declared.Value.{Value}
use Rattle.calculus.specs.declared.Joined.TheVariants.{One}
use Rattle.answers.specs.declared.Cause.TheVariants.{Empty, Conflict, OutOfRange}
use Rattle.order.specs.Order.{among}
use Rattle.laws.proofs.Booleans.{decide}
use Rattle.book.specs.Syntax.{Scope}
use Rattle.book.specs.Decode.{scopes_of}
use Rattle.book.specs.References.{scope_at}
use Rattle.book.specs.Typing.{type_at, called_type_at}
use Rattle.book.specs.Trees.{tree, has_clause, own_target, called_target}
use Rattle.book.specs.Steps.{step_count, step_order}
use Rattle.book.specs.Judge.{judge}
use Rattle.book.specs.declared.Variable.{Variable}
use Rattle.book.specs.declared.Target.{Target}
use Rattle.acceptance.proofs.Orders.{accepted_book}
use Rattle.evaluation.specs.Handing.{hands, falls_back, Handing, handed, failed, in_front, handing_by, handing}
use Rattle.evaluation.specs.Run.{Entered, values, ended, State, env_of, run_steps_by, run_steps, run_scope}
use Rattle.evaluation.specs.Types.{HasType, Fitting, OutcomeFits}
use Rattle.evaluation.specs.Readiness.{callee_of, hands_over, with_variable, with_call, Reached, TermReady, TreesReady, Done, Progress}
use Rattle.evaluation.proofs.Running.{variable_turn, variable_end, call_turn, call_failed, call_end, call_number}
use Rattle.evaluation.proofs.Soundness.{ready_typed}
use Rattle.evaluation.proofs.Readiness.{accepted_progress, accepted_new, accepted_trees, accepted_handed}
use Rattle.translation.specs.Code.{size, code}
use Rattle.translation.specs.Measures.{Runnable}
use Rattle.translation.specs.Blocks.{variable_code, override_code, overrides_code, call_code, step_code, steps_code}
use Rattle.translation.proofs.Sizes.{code_behind}
use Rattle.machine.specs.Machine.{Callee, waiting, entered, Memory, own_at, callee_at, with_own, with_callee, jumped_if_given, Ran, ran, Surroundings}
use Rattle.machine.specs.Run.{follow, exec}
use Rattle.machine.proofs.Steps.{exec_past, step_store, step_override, step_enter, step_jump_if_given}
use Rattle.agreement.specs.Related.{nothing_handed, Related, SameSurroundings}
use Rattle.agreement.proofs.Memory.{with_callees, related_given, related_stored, related_entered, related_end, term_meets}
use Rattle.agreement.proofs.Terms.{after, run_tree, after_override, run_override}
use Rattle.answers.specs.declared.Cause.{Cause}

-- One step, where the memory is related to the state

module _ (book : List Scope) (enter : ℕ → List (Option Value) → Entered) (s : Scope) (gs : List (Option Value)) (env : Surroundings)
    (same : SameSurroundings book enter s env) (runnable : (t : Target) → Runnable (tree s t))
    (steps : List ℕ) (st : State) (m : Memory) (related : Related book s gs steps st m) (done : Done book s steps st) (k : List ℕ) where
  module _ (x : ℕ) (l : x < length s.variables) (new : among steps x ≡ false)
      (ready : TermReady st (tree s (own_target x)) (type_at s x)) where
    abbrev t : Term
    t = tree s (own_target x)

    by_given : exec env (variable_code s x k) 0 [] [] m
        ≡ follow (jumped_if_given (own_at m x) (size t + 2) [] [] m) (exec env (code t (41 ∷ x ∷ k)))
    unfolding variable_code
    by_given = step_jump_if_given env [] [] m x (size t + 2) (code t (41 ∷ x ∷ k)) (omega (arith, (runnable (own_target x)).near))

    given_run : (v : Value) → get_or gs x None ≡ Some v → exec env (variable_code s x k) 0 [] [] m ≡ exec env k 0 [] [] m
    unfolding exec
    given_run v g =
        by_given
        ∙ rw (related.unset x l new, g)
        (exec_past env (code t (41 ∷ x ∷ k)) (size t) 2 [] [] m ∙ ap (λ (r : List ℕ). exec env r 2 [] [] m) (code_behind t (41 ∷ x ∷ k)).rest)

    open_run : get_or gs x None ≡ None → exec env (variable_code s x k) 0 [] [] m ≡ after env (eval (env_of st) t) (41 ∷ x ∷ k) m
    open_run g =
        by_given
        ∙ rw (related.unset x l new, g)
        (run_tree env (env_of st) m t (type_at s x) (41 ∷ x ∷ k)
        (term_meets book s gs steps st m related done m.callees (λ j e. refl) t (type_at s x) ready) (runnable (own_target x)))

    store_run : get_or gs x None ≡ None → (v : Value) → HasType (type_at s x) v
        → exec env (41 ∷ x ∷ k) 0 (One v ∷ []) [] m ≡ exec env k 0 [] [] (with_own m x v)
    store_run g v h = step_store env [] [] m x v k (h ∙ sym (same.own_types x)) ∙ rw (related.unset x l new, g)

  module _ (c : ℕ) (low : c < length s.sub_scopes) (new : among steps (length s.variables + c) ≡ false)
      (ready : (v : ℕ) → TermReady st (tree s (called_target c v)) (called_type_at book s c v)) where
    -- the memory while values are handed over to sub-scope c
    abbrev handing_over : List (Option Value) → Memory
    handing_over hs = with_callees m (set m.callees c (waiting hs))

    at_first : m ≡ handing_over (nothing_handed book s c)
    at_first =
        ap (with_callees m)
        (sym (ap (λ (d : Callee). set m.callees c d) (sym (related.waiting c low new)) ∙ set-get_or m.callees c (waiting [])))

    -- what is held of sub-scope c, and of the others
    held_here : (hs : List (Option Value)) → callee_at (handing_over hs) c ≡ waiting hs
    held_here hs = get_or-set_same m.callees c (waiting hs) (waiting []) (omega (arith, related.callees_length))

    held_others : (hs : List (Option Value)) (j : ℕ) → among steps (length s.variables + j) ≡ true → callee_at (handing_over hs) j ≡ callee_at m j
    held_others hs j e =
        get_or-set_other m.callees c j (waiting hs) (waiting [])
        (λ q. false≢true (sym new ∙ ap (λ (i : ℕ). among steps (length s.variables + i)) (sym q) ∙ e))

    -- another list handed over, or the sub-scope entered
    put_here : (hs : List (Option Value)) (d : Callee) (n : ℕ) → with_callee (handing_over hs) c d n ≡ with_callee m c d n
    put_here hs d n = ap (λ (cs : List Callee). record { own = m.own; callees = cs; count = m.count + n }) (set-set m.callees c (waiting hs) d)

    put_handed : (hs : List (Option Value)) → with_callee m c (waiting hs) 0 ≡ handing_over hs
    put_handed hs =
        let z : m.count + 0 ≡ m.count = omega arith in
        ap (λ (n : ℕ). record { own = m.own; callees = set m.callees c (waiting hs); count = n }) z

    -- after the overrides, those before them having handed over a list
    abbrev after_handing : Handing → List (Option Value) → Ran
    after_handing (handed hs) front = exec env (43 ∷ c ∷ k) 0 [] [] (handing_over (front ++ hs))
    after_handing (failed d) front = ran (ended d m.count)

    one_more : (g : Option Value) (h : Handing) (front : List (Option Value)) → after_handing h (front ++ g ∷ []) ≡ after_handing (in_front (hands g) h) front
    one_more g (handed hs) front = ap (λ (gs₁ : List (Option Value)). exec env (43 ∷ c ∷ k) 0 [] [] (handing_over gs₁)) (append_snoc front g hs)
    one_more g (failed d) front = refl

    override_run : (v : ℕ) (y : Value) (front rest : List (Option Value)) (r : List ℕ) → length front ≡ v → HasType (called_type_at book s c v) y
        → exec env (42 ∷ c ∷ v ∷ r) 0 (One y ∷ []) [] (handing_over (front ++ None ∷ rest))
        ≡ exec env r 0 [] [] (handing_over (front ++ Some y ∷ rest))
    override_run v y front rest r e h =
        step_override env [] [] (handing_over (front ++ None ∷ rest)) c v y r (h ∙ sym (same.called_types c low v))
        ∙ rw (held_here (front ++ None ∷ rest), get_or_at front None rest None v e)
        (ap (λ (m₁ : Memory). exec env r 0 [] [] m₁)
        (put_here (front ++ None ∷ rest) (waiting (set (front ++ None ∷ rest) v (Some y))) 0
        ∙ put_handed (set (front ++ None ∷ rest) v (Some y))
        ∙ ap handing_over (set_at front None rest (Some y) v e)))

    tree_run : (v : ℕ) (r : List ℕ) (hs : List (Option Value))
        → exec env (override_code (tree s (called_target c v)) c v r) 0 [] [] (handing_over hs)
        ≡ after_override env (falls_back (eval (env_of st) (tree s (called_target c v)))) c v r (handing_over hs)
    tree_run v r hs =
        run_override env (env_of st) (handing_over hs) (tree s (called_target c v)) (called_type_at book s c v) c v r
        (term_meets book s gs steps st m related done (set m.callees c (waiting hs)) (held_others hs)
        (tree s (called_target c v)) (called_type_at book s c v) (ready v))
        (runnable (called_target c v))

    abbrev absent : List Variable → List (Option Value)
    absent xs = map (λ x. None) xs

    absent_run : (xs : List Variable) (front : List (Option Value)) (r : List ℕ) (h : Handing)
        → ((g : Option Value) → exec env r 0 [] [] (handing_over ((front ++ g ∷ []) ++ absent xs)) ≡ after_handing h (front ++ g ∷ []))
        → exec env r 0 [] [] (handing_over (front ++ None ∷ absent xs)) ≡ after_handing (in_front (hands None) h) front
    absent_run xs front r h more =
        ap (λ (hs : List (Option Value)). exec env r 0 [] [] (handing_over hs)) (sym (append_snoc front None (absent xs)))
        ∙ more None
        ∙ one_more None h front

    -- what an override's tree hands over, or its end
    evaluated_run : (v : ℕ) (xs : List Variable) (front : List (Option Value)) (r : List ℕ) (h : Handing) → length front ≡ v
        → ((g : Option Value) → exec env r 0 [] [] (handing_over ((front ++ g ∷ []) ++ absent xs)) ≡ after_handing h (front ++ g ∷ []))
        → (o : Result Value Cause) → OutcomeFits (called_type_at book s c v) o
        → after_override env (falls_back o) c v r (handing_over (front ++ None ∷ absent xs)) ≡ after_handing (in_front (falls_back o) h) front
    evaluated_run v xs front r h e more (Ok y) fits =
        override_run v y front (absent xs) r e fits
        ∙ ap (λ (hs : List (Option Value)). exec env r 0 [] [] (handing_over hs)) (sym (append_snoc front (Some y) (absent xs)))
        ∙ more (Some y)
        ∙ one_more (Some y) h front
    evaluated_run v xs front r h e more (Err Empty) fits = absent_run xs front r h more
    evaluated_run v xs front r h e more (Err Conflict) fits = refl
    evaluated_run v xs front r h e more (Err (OutOfRange o)) fits = refl

    overrides_run : (v : ℕ) (xs : List Variable) (front : List (Option Value)) → length front ≡ v
        → exec env (overrides_code s c v xs (43 ∷ c ∷ k)) 0 [] [] (handing_over (front ++ absent xs)) ≡ after_handing (handing (env_of st) s c v xs) front
    unfolding overrides_code handing_by
    overrides_run v [] front e = refl
    overrides_run v (x ∷ xs) front e =
        let o = eval (env_of st) (tree s (called_target c v)) in
        let h = handing (env_of st) s c (suc v) xs in
        let r = overrides_code s c (suc v) xs (43 ∷ c ∷ k) in
        let more : (g : Option Value) → exec env r 0 [] [] (handing_over ((front ++ g ∷ []) ++ absent xs)) ≡ after_handing h (front ++ g ∷ []) =
        λ g. overrides_run (suc v) xs (front ++ g ∷ []) (omega (arith, length-append front (g ∷ []))) in
        ⊎_elim
        (λ (q : has_clause s (called_target c v) ≡ true).
        rw q
        (tree_run v r (front ++ None ∷ absent xs)
        ∙ evaluated_run v xs front r h e more o (ready_typed st (tree s (called_target c v)) (called_type_at book s c v) (ready v))))
        (λ (q : has_clause s (called_target c v) ≡ false).
        rw q (absent_run xs front r h more))
        (decide (has_clause s (called_target c v)))

    -- after the entry
    abbrev after_entry : Entered → Ran
    after_entry (values vs n) = exec env k 0 [] [] (with_callee m c (entered vs) n)
    after_entry (ended d n) = ran (ended d (m.count + n))

    enter_run : (hs : List (Option Value)) (e : Entered) → env.enters c hs ≡ ran e
        → exec env (43 ∷ c ∷ k) 0 [] [] (handing_over hs) ≡ after_entry e
    enter_run hs (values vs n) e =
        step_enter env [] [] (handing_over hs) c k
        ∙ rw (held_here hs, e) (ap (λ (m₁ : Memory). exec env k 0 [] [] m₁) (put_here hs (entered vs) n))
    enter_run hs (ended d n) e = step_enter env [] [] (handing_over hs) c k ∙ rw (held_here hs, e)

    call_run : exec env (call_code book s c k) 0 [] [] m
        ≡ after_handing (handing (env_of st) s c 0 (scope_at book (get_or s.sub_scopes c 0)).variables) []
    unfolding call_code
    call_run =
        let xs = (scope_at book (get_or s.sub_scopes c 0)).variables in
        ap (λ (m₁ : Memory). exec env (overrides_code s c 0 xs (43 ∷ c ∷ k)) 0 [] [] m₁) at_first ∙ overrides_run 0 xs [] refl

-- All steps, of a scope of an accepted book

module _ (bytes : List ℕ) (n : ℕ) (accepted : judge bytes ≡ Ok n) (i : ℕ) (low : i < n) (gs : List (Option Value))
    (fitting : Fitting (scope_at (scopes_of bytes) i).variables gs) (env : Surroundings)
    (same : SameSurroundings (scopes_of bytes) (run_scope (scopes_of bytes)) (scope_at (scopes_of bytes) i) env)
    (runnable : (t : Target) → Runnable (tree (scope_at (scopes_of bytes) i) t)) where
  abbrev book : List Scope
  book = scopes_of bytes

  abbrev s : Scope
  s = scope_at book i

  abbrev enter : ℕ → List (Option Value) → Entered
  enter = run_scope book

  -- the code of the steps left comes to what the steps come to
  abbrev Agrees : List ℕ → Type 0
  Agrees xs = (steps : List ℕ) (st : State) (m : Memory) → step_order s ≡ steps ++ xs → Reached book enter s gs xs st
      → Related book s gs steps st m
      → exec env (steps_code book s xs []) 0 [] [] m ≡ ran (run_steps book enter s gs xs st)

  done_here : (xs steps : List ℕ) (st : State) → step_order s ≡ steps ++ xs → (p : Progress book s xs st) → p.steps ≡ steps
  done_here xs steps st split p = append_cancel_right p.steps steps xs (sym p.split ∙ split)

  module _ (x : ℕ) (xs : List ℕ) (later : Agrees xs) (steps : List ℕ) (st : State) (m : Memory) (split : step_order s ≡ steps ++ x ∷ xs)
      (reached : Reached book enter s gs (x ∷ xs) st) (related : Related book s gs steps st m) where
    abbrev progress : Progress book s (x ∷ xs) st
    progress = accepted_progress bytes n accepted i low gs fitting (x ∷ xs) st reached

    trees : TreesReady book s x st
    trees = accepted_trees bytes n accepted i low gs fitting x xs st reached

    done : Done book s steps st
    done = subst (λ (ys : List ℕ). Done book s ys st) (done_here (x ∷ xs) steps st split progress) progress.done

    new : among steps x ≡ false
    new =
        ap (λ (ys : List ℕ). among ys x) (sym (done_here (x ∷ xs) steps st split progress))
        ∙ (accepted_new bytes n accepted i low gs fitting x xs st progress).1

    below : x < step_count s
    below = (accepted_new bytes n accepted i low gs fitting x xs st progress).0

    more : step_order s ≡ (steps ++ x ∷ []) ++ xs
    more = split ∙ sym (append_snoc steps x xs)

    abbrev rest : List ℕ
    rest = steps_code book s xs []

    module _ (l : x < length s.variables) where
      abbrev tree_here : Term
      tree_here = tree s (own_target x)

      inside : x < length st.own
      inside = omega (arith, done.own_length)

      by_outcome : get_or gs x None ≡ None → (o : Result Value Cause) → eval (env_of st) tree_here ≡ o
          → after env o (41 ∷ x ∷ rest) m ≡ ran (run_steps book enter s gs (x ∷ xs) st)
      by_outcome g (Ok y) e =
          let gives : step (get_or gs x None) (env_of st) tree_here ≡ Ok y = rw g e in
          let typed : HasType (type_at s x) y = subst (OutcomeFits (type_at s x)) e (ready_typed st tree_here (type_at s x) (trees.own l)) in
          store_run book enter s gs env same runnable steps st m related done rest x l new (trees.own l) g y typed
          ∙ later (steps ++ x ∷ []) (with_variable st x y) (with_own m x y) more (Reached.variable y reached l gives)
          (related_stored book s gs steps st m related x l inside y)
          ∙ ap ran (sym (variable_turn book enter s gs x xs st l y gives))
      by_outcome g (Err c) e =
          let stops : step (get_or gs x None) (env_of st) tree_here ≡ Err c = rw g e in
          ap (λ (j : ℕ). ran (ended c j)) related.count ∙ ap ran (sym (variable_end book enter s gs x xs st l c stops))

      variable_run : (g : Option Value) → get_or gs x None ≡ g → exec env (variable_code s x rest) 0 [] [] m ≡ ran (run_steps book enter s gs (x ∷ xs) st)
      variable_run (Some y) g =
          let gives : step (get_or gs x None) (env_of st) tree_here ≡ Ok y = rw g refl in
          given_run book enter s gs env same runnable steps st m related done rest x l new (trees.own l) y g
          ∙ later (steps ++ x ∷ []) (with_variable st x y) m more (Reached.variable y reached l gives)
          (related_given book s gs steps st m related x l inside y g new)
          ∙ ap ran (sym (variable_turn book enter s gs x xs st l y gives))
      variable_run None g =
          open_run book enter s gs env same runnable steps st m related done rest x l new (trees.own l) g
          ∙ by_outcome g (eval (env_of st) tree_here) refl

    module _ (l : length s.variables ≤ x) where
      abbrev c : ℕ
      c = x - length s.variables

      there : c < length s.sub_scopes
      there = call_number s x below l

      here : x ≡ length s.variables + c
      here = omega arith

      ready : (v : ℕ) → TermReady st (tree s (called_target c v)) (called_type_at book s c v)
      ready = trees.overrides c there here

      waits : among steps (length s.variables + c) ≡ false
      waits = ap (among steps) (sym here) ∙ new

      by_entry : (hs : List (Option Value)) → hands_over book s st x ≡ handed hs → (e : Entered) → enter (callee_of s x) hs ≡ e
          → after_entry book enter s gs env same runnable steps st m related done rest c there waits ready e
          ≡ ran (run_steps book enter s gs (x ∷ xs) st)
      by_entry hs h (values vs j) e =
          later (steps ++ x ∷ []) (with_call st c vs j) (with_callee m c (entered vs) j) more (Reached.call hs vs j reached l h e)
          (related_entered book s gs steps st m related c there (omega (arith, there, done.called_length)) x here vs j)
          ∙ ap ran (sym (call_turn book enter s gs x xs st l hs vs j h e))
      by_entry hs h (ended d j) e =
          ap (λ (b : ℕ). ran (ended d (b + j))) related.count ∙ ap ran (sym (call_end book enter s gs x xs st l hs d j h e))

      by_handing : (h : Handing) → hands_over book s st x ≡ h
          → after_handing book enter s gs env same runnable steps st m related done rest c there waits ready h []
          ≡ ran (run_steps book enter s gs (x ∷ xs) st)
      by_handing (handed hs) h =
          enter_run book enter s gs env same runnable steps st m related done rest c there waits ready hs (enter (callee_of s x) hs)
          (same.enters c there hs (accepted_handed bytes n accepted i low gs fitting x xs st hs reached l h))
          ∙ by_entry hs h (enter (callee_of s x) hs) refl
      by_handing (failed d) h =
          ap (λ (b : ℕ). ran (ended d b)) related.count ∙ ap ran (sym (call_failed book enter s gs x xs st l d h))

      whole_call : exec env (call_code book s c rest) 0 [] [] m ≡ ran (run_steps book enter s gs (x ∷ xs) st)
      whole_call =
          call_run book enter s gs env same runnable steps st m related done rest c there waits ready
          ∙ by_handing (hands_over book s st x) refl

    step_run : exec env (step_code book s x rest) 0 [] [] m ≡ ran (run_steps book enter s gs (x ∷ xs) st)
    unfolding step_code
    step_run =
        ⊎_elim
        (λ (q : ltb x (length s.variables) ≡ true). rw q (variable_run (ltb-true x (length s.variables) q) (get_or gs x None) refl))
        (λ (q : ltb x (length s.variables) ≡ false). rw q (whole_call (ltb-false x (length s.variables) q)))
        (decide (ltb x (length s.variables)))

  pub steps_run : (xs steps : List ℕ) (st : State) (m : Memory)
      → step_order (scope_at (scopes_of bytes) i) ≡ steps ++ xs
      → Reached (scopes_of bytes) (run_scope (scopes_of bytes)) (scope_at (scopes_of bytes) i) gs xs st
      → Related (scopes_of bytes) (scope_at (scopes_of bytes) i) gs steps st m
      → exec env (steps_code (scopes_of bytes) (scope_at (scopes_of bytes) i) xs []) 0 [] [] m
      ≡ ran (run_steps (scopes_of bytes) (run_scope (scopes_of bytes)) (scope_at (scopes_of bytes) i) gs xs st)
  unfolding steps_code exec run_steps_by
  steps_run [] steps st m split reached related =
      let p = accepted_progress bytes n accepted i low gs fitting [] st reached in
      related_end book s gs steps st m related p.done.own_length (λ w l.
      ap (λ (ys : List ℕ). among ys w) (sym (split ∙ append-nil steps)) ∙ ((accepted_book bytes n accepted).step_orders i low).every w l)
  steps_run (x ∷ xs) steps st m split reached related = step_run x xs (steps_run xs) steps st m split reached related
