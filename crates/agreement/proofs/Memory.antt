-- What the machine holds within a block, along the steps of its scope.
--     related_begin       before the first step
--     related_given       after the step of a variable that is given
--     related_stored      after that of one that is not
--     related_entered     after a call
--     related_end         where all steps are done, the block's end finds the evaluation's values
--     term_meets          where a term can be evaluated, the machine holds what it reads
-- Assumes nothing.
use Prim.Native.Nat.{ℕ, zero, suc, ◌<◌, ◌+◌}
use mathlib.Core.Path.{◌≡◌, refl, sym, ap, subst, ◌∙◌}
use mathlib.Core.Bool.{Bool, true, false, false≢true}
use mathlib.Core.List.{List, [], ◌∷◌, ◌++◌, map}
use mathlib.Core.Logic.{◌⊎◌, inl, inr, ⊎_elim}
use native.Mathlib.Omega.{arith}
use lib.ListN.{length, get_or, set, length-set, length-map, get_or-eq_default, get_or-map}
use lib.Seq.{get_or-set_same, get_or-set_other}
use lib.Dec.{eqb, ltb}
use borrow.Author.Tests.{eqb-true, eqb-false, ltb-true, ltb-false}
use Rattle.std.specs.Prelude.{Option, None, Some}
use Rattle.calculus.specs.Terms.{Term}
use Rattle.calculus.specs.declared.Value.{Value}
use Rattle.calculus.specs.declared.Value.TheVariants.{Truth}
use Rattle.cells.specs.Cells.{held}
use Rattle.order.specs.Order.{among}
use Rattle.laws.proofs.Booleans.{decide, or_cases, neither}
use Rattle.order.proofs.Among.{among_snoc}
use Rattle.book.specs.Syntax.{Scope}
use Rattle.book.specs.References.{scope_at}
use Rattle.book.specs.Steps.{step_count}
use Rattle.book.specs.declared.ValueType.{ValueType}
use Rattle.book.specs.declared.Variable.{Variable}
use Rattle.evaluation.specs.Run as evaluation
use Rattle.evaluation.specs.Run.{values, State, env_of}
use Rattle.evaluation.specs.Types.{HasType, Holds, HoldsAt, Fitting, Typed}
use Rattle.evaluation.specs.Readiness.{TermReady, Done, with_variable, with_call}
use Rattle.evaluation.proofs.Soundness.{typed_map, held_type}
use Rattle.machine.specs.Blocks.{Block, variables_of}
use Rattle.machine.specs.Machine as machine
use Rattle.machine.specs.Machine.{Cell, given, stored, Callee, Memory, own_at, callee_at, with_own, with_callee, value_at, ran}
use Rattle.machine.specs.Run.{finals, in_front, finals_of, all_entered, at_end, cell_of, begins, begin}
use Rattle.agreement.specs.Compiled.{compiled_block}
use Rattle.agreement.specs.Meets.{HoldsValue, OwnMeets, CalledMeets}
use Rattle.agreement.specs.Related.{nothing_handed, Related}

-- one step more: it is this one, or one of those before
done_more : (steps : List ℕ) (x w : ℕ) → among (steps ++ x ∷ []) w ≡ true → (w ≡ x) ⊎ ((w ≡ x → ⊥) × (among steps w ≡ true))
done_more steps x w e =
    ⊎_elim
    (λ (q : eqb w x ≡ true). inl (eqb-true w x q))
    (λ (q : eqb w x ≡ false).
    inr (
      eqb-false w x q,
      ⊎_elim (λ p. p) (λ p. absurd (false≢true (sym q ∙ p))) (or_cases (among steps w) (eqb w x) (sym (among_snoc steps x w) ∙ e)),
    ))
    (decide (eqb w x))

left_more : (steps : List ℕ) (x w : ℕ) → among (steps ++ x ∷ []) w ≡ false → (w ≡ x → ⊥) × (among steps w ≡ false)
left_more steps x w e =
    let p = neither (among steps w) (eqb w x) (sym (among_snoc steps x w) ∙ e) in
    (eqb-false w x p.1, p.0)

-- The first step

same_length : (xs : List Variable) (gs : List (Option Value)) → Fitting xs gs → length gs ≡ length xs
same_length [] [] h = refl
same_length [] (g ∷ gs) h = absurd h
same_length (x ∷ xs) [] h = absurd h
same_length (x ∷ xs) (g ∷ gs) h = ap suc (same_length xs gs h.1)

map_at : (f : ℕ → Callee) (is : List ℕ) (k : ℕ) (d : Callee) → k < length is → get_or (map f is) k d ≡ f (get_or is k 0)
map_at f [] k d l = absurd (omega arith)
map_at f (i ∷ is) zero d l = refl
map_at f (i ∷ is) (suc k) d l = map_at f is k d (omega arith)

pub related_begin : (book : List Scope) (i : ℕ) (earlier : List Block) (gs : List (Option Value)) → Fitting (scope_at book i).variables gs
    → ((k : ℕ) → k < length (scope_at book i).sub_scopes
    → variables_of earlier (get_or (scope_at book i).sub_scopes k 0) ≡ (scope_at book (get_or (scope_at book i).sub_scopes k 0)).variables)
    → Related book (scope_at book i) gs [] (evaluation.begin (scope_at book i)) (begin earlier (compiled_block book i) gs)
unfolding among
related_begin book i earlier gs fitting known =
    let s = scope_at book i in
    record {
      count = refl;
      own_length = length-map gs cell_of ∙ same_length s.variables gs fitting;
      callees_length = length-map s.sub_scopes (begins earlier);
      stored = λ w l m. absurd (false≢true m);
      unset = λ w l m. get_or-map cell_of gs w None;
      entered = λ k l m. absurd (false≢true m);
      waiting = λ k l m.
          map_at (begins earlier) s.sub_scopes k (machine.waiting []) l
          ∙ ap (λ (xs : List Variable). machine.waiting (map (λ x. None) xs)) (known k l);
    }

-- One step more

module _ (book : List Scope) (s : Scope) (gs : List (Option Value)) (steps : List ℕ) (st : State) (m : Memory)
    (related : Related book s gs steps st m) where
  module _ (x : ℕ) (l : x < length s.variables) (inside : x < length st.own) where
    -- the sub-scopes are as before
    other_entered : (k : ℕ) → k < length s.sub_scopes → among (steps ++ x ∷ []) (length s.variables + k) ≡ true
        → callee_at m k ≡ machine.entered (get_or st.called k [])
    other_entered k h e =
        ⊎_elim (λ q. absurd (omega (arith, q, l))) (λ q. related.entered k h q.1) (done_more steps x (length s.variables + k) e)

    other_waiting : (k : ℕ) → k < length s.sub_scopes → among (steps ++ x ∷ []) (length s.variables + k) ≡ false
        → callee_at m k ≡ machine.waiting (nothing_handed book s k)
    other_waiting k h e = related.waiting k h (left_more steps x (length s.variables + k) e).1

    pub related_given : (v : Value) → get_or gs x None ≡ Some v → among steps x ≡ false
        → Related book s gs (steps ++ x ∷ []) (with_variable st x v) m
    related_given v g new =
        record {
          count = related.count;
          own_length = related.own_length;
          callees_length = related.callees_length;
          stored = λ w h e.
              ⊎_elim
              (λ (q : w ≡ x).
              subst (λ (z : ℕ). HoldsValue (own_at m z) (held (get_or (set st.own x (Some v)) z None))) (sym q)
              (rw (get_or-set_same st.own x (Some v) None inside, related.unset x l new, g) refl))
              (λ q. rw (get_or-set_other st.own x w (Some v) None q.0) (related.stored w h q.1))
              (done_more steps x w e);
          unset = λ w h e. related.unset w h (left_more steps x w e).1;
          entered = other_entered;
          waiting = other_waiting;
        }

    pub related_stored : (v : Value) → Related book s gs (steps ++ x ∷ []) (with_variable st x v) (with_own m x v)
    related_stored v =
        record {
          count = related.count;
          own_length = length-set m.own x (stored v) ∙ related.own_length;
          callees_length = related.callees_length;
          stored = λ w h e.
              ⊎_elim
              (λ (q : w ≡ x).
              subst
              (λ (z : ℕ). HoldsValue (get_or (set m.own x (stored v)) z machine.unset) (held (get_or (set st.own x (Some v)) z None)))
              (sym q)
              (rw (
                get_or-set_same st.own x (Some v) None inside,
                get_or-set_same m.own x (stored v) machine.unset (omega (arith, related.own_length)),
              ) refl))
              (λ q. rw (get_or-set_other st.own x w (Some v) None q.0, get_or-set_other m.own x w (stored v) machine.unset q.0)
              (related.stored w h q.1))
              (done_more steps x w e);
          unset = λ w h e.
              let q = left_more steps x w e in
              get_or-set_other m.own x w (stored v) machine.unset q.0 ∙ related.unset w h q.1;
          entered = other_entered;
          waiting = other_waiting;
        }

  module _ (k : ℕ) (l : k < length s.sub_scopes) (inside : k < length st.called) where
    pub related_entered : (x : ℕ) → x ≡ length s.variables + k → (vs : List Value) (n : ℕ)
        → Related book s gs (steps ++ x ∷ []) (with_call st k vs n) (with_callee m k (machine.entered vs) n)
    related_entered x here vs n =
        let v = length s.variables in
        record {
          count = ap (λ (c : ℕ). c + n) related.count;
          own_length = related.own_length;
          callees_length = length-set m.callees k (machine.entered vs) ∙ related.callees_length;
          stored = λ w h e. ⊎_elim (λ q. absurd (omega arith)) (λ q. related.stored w h q.1) (done_more steps x w e);
          unset = λ w h e. related.unset w h (left_more steps x w e).1;
          entered = λ j h e.
              ⊎_elim
              (λ (q : v + j ≡ x).
              let same : j ≡ k = omega arith in
              subst
              (λ (z : ℕ). get_or (set m.callees k (machine.entered vs)) z (machine.waiting []) ≡ machine.entered (get_or (set st.called k vs) z []))
              (sym same)
              (get_or-set_same m.callees k (machine.entered vs) (machine.waiting []) (omega (arith, related.callees_length))
              ∙ ap machine.entered (sym (get_or-set_same st.called k vs [] inside))))
              (λ q.
              let other : j ≡ k → ⊥ = λ r. q.0 (omega arith) in
              get_or-set_other m.callees k j (machine.entered vs) (machine.waiting []) other
              ∙ related.entered j h q.1
              ∙ ap machine.entered (sym (get_or-set_other st.called k j vs [] other)))
              (done_more steps x (v + j) e);
          waiting = λ j h e.
              let q = left_more steps x (v + j) e in
              let other : j ≡ k → ⊥ = λ r. q.0 (omega arith) in
              get_or-set_other m.callees k j (machine.entered vs) (machine.waiting []) other ∙ related.waiting j h q.1;
        }

-- The last step

-- a cell in front of others that all hold values
finals_front : (c : Cell) (cs : List Cell) (v : Value) (vs : List Value) → HoldsValue c v → finals_of cs ≡ finals vs
    → finals_of (c ∷ cs) ≡ finals (v ∷ vs)
finals_front machine.unset cs v vs h e = absurd h
finals_front (given w) cs v vs h e = ap (in_front w) e ∙ ap (λ (y : Value). finals (y ∷ vs)) h
finals_front (stored w) cs v vs h e = ap (in_front w) e ∙ ap (λ (y : Value). finals (y ∷ vs)) h

finals_held : (cs : List Cell) (gs : List (Option Value)) → length cs ≡ length gs
    → ((w : ℕ) → w < length gs → HoldsValue (get_or cs w machine.unset) (held (get_or gs w None))) → finals_of cs ≡ finals (map held gs)
finals_held [] [] e h = refl
finals_held [] (g ∷ gs) e h = absurd (omega arith)
finals_held (c ∷ cs) [] e h = absurd (omega arith)
finals_held (c ∷ cs) (g ∷ gs) e h =
    finals_front c cs (held g) (map held gs) (h 0 (omega arith)) (finals_held cs gs (omega arith) (λ w l. h (suc w) (omega arith)))

all_entered_lem : (cs : List Callee) → ((k : ℕ) → k < length cs → (vs : List Value) × (get_or cs k (machine.waiting []) ≡ machine.entered vs))
    → all_entered cs ≡ true
all_entered_lem [] h = refl
all_entered_lem (machine.waiting gs ∷ cs) h = absurd (false≢true (ap is_entered (h 0 (omega arith)).1))
  where
    is_entered : Callee → Bool
    is_entered (machine.waiting hs) = false
    is_entered (machine.entered vs) = true
all_entered_lem (machine.entered vs ∷ cs) h = all_entered_lem cs (λ k l. h (suc k) (omega arith))

pub related_end : (book : List Scope) (s : Scope) (gs : List (Option Value)) (steps : List ℕ) (st : State) (m : Memory)
    → Related book s gs steps st m → length st.own ≡ length s.variables → ((w : ℕ) → w < step_count s → among steps w ≡ true)
    → at_end m ≡ ran (values (map held st.own) st.count)
unfolding step_count
related_end book s gs steps st m related size all =
    let sizes = related.callees_length in
    rw (
      finals_held m.own st.own (related.own_length ∙ sym size) (λ w l. related.stored w (omega arith) (all w (omega arith))),
      all_entered_lem m.callees
          (λ k l. (get_or st.called k [], related.entered k (omega arith) (all (length s.variables + k) (omega arith)))),
      related.count,
    )

-- Terms

-- the same memory but for the sub-scopes
abbrev pub with_callees : Memory → List Callee → Memory
with_callees m cs = record { own = m.own; callees = cs; count = m.count }

at_holds : (t : ValueType) (vs : List Value) (x : ℕ) → HoldsAt t vs x
    → HoldsValue (value_at vs x) (get_or vs x (Truth false)) × HasType t (get_or vs x (Truth false))
at_holds t [] x h = absurd h
at_holds t (v ∷ vs) zero h = (refl, h)
at_holds t (v ∷ vs) (suc x) h = at_holds t vs x h

-- a place with something in it is a place of the list, and what is there was put there
there : {A : Type 0} (P : A → Type 0) (xs : List A) (d : A) (k : ℕ) → (P d → ⊥) → P (get_or xs k d) → k < length xs
there P xs d k none h =
    ⊎_elim
    (λ (q : ltb k (length xs) ≡ true). ltb-true k (length xs) q)
    (λ (q : ltb k (length xs) ≡ false). absurd (none (subst P (get_or-eq_default xs d (ltb-false k (length xs) q)) h)))
    (decide (ltb k (length xs)))

not_false : (b : Bool) → (b ≡ false → ⊥) → b ≡ true
not_false true h = refl
not_false false h = absurd (h refl)

module _ (book : List Scope) (s : Scope) (gs : List (Option Value)) (steps : List ℕ) (st : State) (m : Memory)
    (related : Related book s gs steps st m) (done : Done book s steps st)
    -- the sub-scopes that are entered are as in the memory
    (cs : List Callee) (same : (k : ℕ) → among steps (length s.variables + k) ≡ true → get_or cs k (machine.waiting []) ≡ callee_at m k) where
  own_meets : (x : ℕ) (t : ValueType) → Holds t (get_or st.own x None) → OwnMeets (env_of st) (with_callees m cs) x t
  own_meets x t h =
      let low : x < length s.variables = omega (arith, there (Holds t) st.own None x (λ a. a) h, done.own_length) in
      let is : among steps x ≡ true = not_false (among steps x) (λ q. subst (Holds t) (done.unset x low q) h) in
      (related.stored x low is, held_type t (get_or st.own x None) h)

  called_meets : (k x : ℕ) (t : ValueType) → HoldsAt t (get_or st.called k []) x → CalledMeets (env_of st) (with_callees m cs) k x t
  called_meets k x t h =
      let low : k < length s.sub_scopes = omega (arith, there (λ vs. HoldsAt t vs x) st.called [] k (λ a. a) h, done.called_length) in
      let w = length s.variables + k in
      let is : among steps w ≡ true = not_false (among steps w) (λ q. subst (λ vs. HoldsAt t vs x) (done.waiting k low q) h) in
      let p = at_holds t (get_or st.called k []) x h in
      (rw (same k is, related.entered k low is) p.0, p.1)

  pub term_meets : (t : Term) (u : ValueType) → TermReady st t u
      → Typed (OwnMeets (env_of st) (with_callees m cs)) (CalledMeets (env_of st) (with_callees m cs)) t u
  term_meets t u =
      typed_map 0 (λ x t₁. Holds t₁ (get_or st.own x None)) (OwnMeets (env_of st) (with_callees m cs))
      (λ k x t₁. HoldsAt t₁ (get_or st.called k []) x) (CalledMeets (env_of st) (with_callees m cs)) t u
      (record { own = λ x t₁ r. own_meets x t₁; calls = λ k x t₁ r. called_meets k x t₁ })
