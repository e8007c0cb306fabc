-- The run of a scope's steps over cells.
--     Running                             the cells hold what the steps so far have set; the rest of the run comes to what the whole does
--     start, stop                         before the first step, and after the last
--     variable_turn, variable-ends        a variable's step
--     call_stops, call-turn, call_ends    a call's step
--     values_few, ends-few                the count stays within the limit of weights
-- Assumes nothing.
use Prim.Native.Nat.{ℕ, suc, ◌+◌, ◌-◌, ◌*◌, ◌<◌, ◌≤◌}
use mathlib.Core.Path.{◌≡◌, refl, sym, ap, subst, ◌∙◌}
use mathlib.Core.Bool.{true, false, ◌||◌}
use mathlib.Core.List.{List, [], ◌∷◌, map, reverse}
use mathlib.Core.Logic.{◌⊎◌, inl, inr, ⊎_elim}
use native.Mathlib.Omega.{arith}
use lib.ListN.{length, get_or, set, take, drop, replicate, length-set, length-map, drop_of_length-le}
use lib.Seq.{take-suc, take_all, drop-cons, get_or-set_same, get_or-set_other}
use lib.Dec.{eqb, ltb}
use borrow.Author.Tests.{eqb-true, eqb-false, lt-ltb, le-ltb, ltb-true, ltb-false}
use Rattle.std.specs.Prelude.{Result, Ok, Err, Option, None, Some}
use Rattle.calculus.specs.Evaluation.{eval, step, takes}
use Rattle.calculus.specs.declared.Value.{Value}
use Rattle.calculus.specs.declared.Value.TheVariants.{Truth}
use Rattle.answers.specs.declared.Cause.{Cause}
use Rattle.order.specs.Order.{among}
use Rattle.laws.proofs.Booleans.{decide, or_cases}
use Rattle.order.proofs.Among.{among_snoc, among_none}
use Rattle.cells.specs.Codec.{empty_cell, cause_of, AllKept}
use Rattle.cells.specs.Cells.{given_at, held}
use Rattle.book.specs.Syntax.{Scope}
use Rattle.book.specs.Decode.{scopes_of}
use Rattle.book.specs.References.{scope_at}
use Rattle.book.specs.Scopes.{blocks, weight}
use Rattle.book.specs.Trees.{tree, own_target, called_target}
use Rattle.book.specs.Steps.{reads, depends_on, step_count, step_order}
use Rattle.book.specs.Judge.{judge}
use Rattle.book.specs.declared.Target.{Target}
use Rattle.acceptance.specs.Accepted.{WellFormed, CompleteOrder, AcceptedBook}
use Rattle.acceptance.proofs.Orders.{accepted_book}
use Rattle.acceptance.proofs.Reading.{variable_depends, call_depends}
use Rattle.acceptance.proofs.Dependencies.{steps_after}
use Rattle.terms.specs.Outcomes as cells
use Rattle.terms.proofs.Trees.{named_agrees, tree_named}
use Rattle.lists.specs.Inputs.{is_given}
use Rattle.lists.specs.Writing.{values_of}
use Rattle.evaluation.specs.Handing as overrides
use Rattle.evaluation.specs.Handing.{Handing, failed, handing}
use Rattle.evaluation.specs.Run.{Entered, values, ended, State, env_of, on_value, on_entered, on_handing, begin, run_steps_by, run_steps, enter}
use Rattle.evaluation.proofs.Handing.{handing_agrees}
use Rattle.evaluation.proofs.Running.{count_of, steps_count}
use Rattle.evaluation.proofs.Entering.{accepted_entered_steps}
use Rattle.evaluation.proofs.Counts.{bounded_count, entered_bounded}
use Rattle.scopes.specs.Steps.{step_outcome, givens_from, called_variables, called_count, HandedAll, entered_at, ran_view, Came}
use Rattle.scopes.specs.declared.Ended.{Ended}
use Rattle.scopes.proofs.Cells.{Stored, givens_at_lem, values_at, values_held, pasted, pasted_length, pasted_in, pasted_before, pasted_after, kept_pasted, kept_none}

-- the first n steps are done
abbrev pub Done : List ℕ → ℕ → ℕ → ℕ → Type 0
Done bytes i n w = among (take n (step_order (scope_at (scopes_of bytes) i))) w ≡ true

-- the cells hold what the steps so far have set, and the rest of the run comes to what the whole does
pub record Running (bytes : List ℕ) (i : ℕ) (given own called handed : List ℕ) (count n : ℕ) : Type 0 where
  pub state : State
  pub counted : state.count ≡ count
  pub at : n ≤ step_count (scope_at (scopes_of bytes) i)
  pub own_room : length own ≡ 32
  pub called_room : length (scope_at (scopes_of bytes) i).sub_scopes * 32 ≤ length called
  pub handed_room : length handed ≡ 32
  pub own_kept : AllKept own
  pub called_kept : AllKept called
  pub handed_kept : AllKept handed
  pub own_length : length state.own ≡ length (scope_at (scopes_of bytes) i).variables
  pub called_length : length state.called ≡ length (scope_at (scopes_of bytes) i).sub_scopes
  pub rest :
      run_steps (scopes_of bytes) (enter (scopes_of bytes) (reverse (blocks (scopes_of bytes)))) (scope_at (scopes_of bytes) i)
      (givens_from given 0 (length (scope_at (scopes_of bytes) i).variables)) (drop n (step_order (scope_at (scopes_of bytes) i))) state
      ≡ entered_at bytes i given
  pub owns : (x : ℕ) → x < length (scope_at (scopes_of bytes) i).variables → Done bytes i n x
      → given_at own x ≡ Some (held (get_or state.own x None))
  pub calls : (k x : ℕ) → k < length (scope_at (scopes_of bytes) i).sub_scopes → x < called_count (scopes_of bytes) i k
      → Done bytes i n (length (scope_at (scopes_of bytes) i).variables + k)
      → held (given_at called (k * 32 + x)) ≡ get_or (get_or state.called k []) x (Truth false)

more_than : (k l : ℕ) → k ≤ l → (l ≡ k → ⊥) → k < l
more_than k l h ne =
    ⊎_elim (λ (t : ltb k l ≡ true). ltb-true k l t) (λ (t : ltb k l ≡ false). absurd (ne (omega (arith, ltb-false k l t)))) (decide (ltb k l))

module _ (bytes : List ℕ) (i : ℕ) (given : List ℕ) (ok : judge bytes ≡ Ok (length (scopes_of bytes))) (here : i < length (scopes_of bytes)) where
  abbrev book : List Scope
  book = scopes_of bytes

  abbrev s : Scope
  s = scope_at book i

  abbrev vars : ℕ
  vars = length s.variables

  abbrev all_blocks : ℕ → List (Option Value) → Entered
  all_blocks = enter book (reverse (blocks book))

  abbrev gs : List (Option Value)
  gs = givens_from given 0 vars

  accepted : AcceptedBook bytes (length book)
  accepted = accepted_book bytes (length book) ok

  complete : CompleteOrder (depends_on s) (step_count s) (step_order s)
  complete = accepted.step_orders i here

  formed : WellFormed book s
  formed = accepted.formed i here

  pub entered_few : count_of (entered_at bytes i given) ≤ 4096
  unfolding entered_at
  entered_few =
      let b = bounded_count (weight book i) (all_blocks i gs) (entered_bounded bytes (length book) ok i here gs) in
      let w = accepted.weights i here in
      omega (arith, b, w)

  pub start : (own called : List ℕ) → length own ≡ 32 → AllKept own → length s.sub_scopes * 32 ≤ length called → AllKept called
      → Running bytes i given own called (replicate 32 0) 1 0
  unfolding entered_at
  start own called size kept room called_kept =
      record {
        state = begin s;
        counted = refl;
        at = omega arith;
        own_room = size;
        called_room = room;
        handed_room = refl;
        own_kept = kept;
        called_kept = called_kept;
        handed_kept = kept_none 32;
        own_length = length-map s.variables _;
        called_length = length-map s.sub_scopes _;
        rest = sym (accepted_entered_steps bytes (length book) ok i here gs);
        owns = λ x l d. among_none x d;
        calls = λ k x l m d. among_none (vars + k) d;
      }

  module _ {own called handed : List ℕ} {count n : ℕ} (r : Running bytes i given own called handed count n) (more : n < step_count s) where
    abbrev x : ℕ
    x = get_or (step_order s) n 0

    inside : n < length (step_order s)
    inside = omega (arith, complete.count)

    pub step_below : x < step_count s
    step_below = complete.below n inside

    next : drop n (step_order s) ≡ x ∷ drop (suc n) (step_order s)
    next = drop-cons (step_order s) n 0 inside

    -- a step done now or before
    done_now : (w : ℕ) → Done bytes i (suc n) w → Done bytes i n w ⊎ (w ≡ x)
    done_now w d =
        let e : (among (take n (step_order s)) w || eqb w x) ≡ true = sym (among_snoc (take n (step_order s)) x w) ∙ ap (λ (zs : List ℕ). among zs w) (sym (take-suc (step_order s) n 0 inside)) ∙ d in
        ⊎_elim (λ (p : among (take n (step_order s)) w ≡ true). inl p) (λ (p : eqb w x ≡ true). inr (eqb-true w x p)) (or_cases (among (take n (step_order s)) w) (eqb w x) e)

    -- a tree whose reads are done is the same over the cells
    agrees : (t : Target) → ((w : ℕ) → reads vars w (tree s t) ≡ true → Done bytes i n w)
        → eval (env_of r.state) (tree s t) ≡ eval (cells.env_of own called) (tree s t)
    agrees t d =
        named_agrees book s (env_of r.state) (cells.env_of own called) (Done bytes i n)
        (λ y h l. sym (ap held (r.owns y l h)))
        (λ k y h l. sym (r.calls k y l.0 l.1 h))
        (tree s t) (tree_named book s formed.nodes_named t) d

    -- a variable's step
    module _ (own_step_lem : x < vars) where
      outcome : step (get_or gs x None) (env_of r.state) (tree s (own_target x)) ≡ step_outcome bytes given own called i x
      unfolding step_outcome
      outcome =
          let z : 0 + x ≡ x = omega arith in
          let g : get_or gs x None ≡ given_at given x = givens_at_lem given 0 vars x own_step_lem ∙ ap (given_at given) z in
          let e = agrees (own_target x) (λ w h. steps_after book s w formed complete n more ((variable_depends book s formed (accepted.within i) x w own_step_lem).1 h)) in
          λ j. takes (g j) (e j)

      run : run_steps book all_blocks s gs (x ∷ drop (suc n) (step_order s)) r.state
          ≡ on_value (step_outcome bytes given own called i x) r.state.count
          (λ v. run_steps book all_blocks s gs (drop (suc n) (step_order s)) (record { own = set r.state.own x (Some v); called = r.state.called; count = r.state.count }))
      unfolding run_steps_by
      run =
          rw (lt-ltb x vars own_step_lem)
          (λ j. on_value (outcome j) r.state.count
          (λ v. run_steps book all_blocks s gs (drop (suc n) (step_order s)) (record { own = set r.state.own x (Some v); called = r.state.called; count = r.state.count })))

      whole : entered_at bytes i given
          ≡ on_value (step_outcome bytes given own called i x) r.state.count
          (λ v. run_steps book all_blocks s gs (drop (suc n) (step_order s)) (record { own = set r.state.own x (Some v); called = r.state.called; count = r.state.count }))
      whole = sym r.rest ∙ ap (λ (xs : List ℕ). run_steps book all_blocks s gs xs r.state) next ∙ run

      pub variable_ends : (c : Cause) → step_outcome bytes given own called i x ≡ Err c → entered_at bytes i given ≡ ended c count
      variable_ends c q =
          whole
          ∙ ap (λ (z : Result Value Cause). on_value z r.state.count (λ v. run_steps book all_blocks s gs (drop (suc n) (step_order s)) (record { own = set r.state.own x (Some v); called = r.state.called; count = r.state.count }))) q
          ∙ ap (ended c) r.counted

      pub variable_turn : (v : Value) (own' : List ℕ) → step_outcome bytes given own called i x ≡ Ok v → Stored own x v own' → AllKept own'
          → Running bytes i given own' called handed count (suc n)
      variable_turn v own' q put kept =
          let st = r.state in
          let new : State = record { own = set st.own x (Some v); called = st.called; count = st.count } in
          let there : x < length st.own = omega (arith, r.own_length) in
          record {
            state = new;
            counted = r.counted;
            at = more;
            own_room = put.size ∙ r.own_room;
            called_room = r.called_room;
            handed_room = r.handed_room;
            own_kept = kept;
            called_kept = r.called_kept;
            handed_kept = r.handed_kept;
            own_length = length-set st.own x (Some v) ∙ r.own_length;
            called_length = r.called_length;
            rest = sym
                (whole
                ∙ ap (λ (z : Result Value Cause). on_value z st.count (λ v. run_steps book all_blocks s gs (drop (suc n) (step_order s)) (record { own = set st.own x (Some v); called = st.called; count = st.count }))) q);
            owns = λ y l d.
                ⊎_elim
                (λ (p : eqb y x ≡ true).
                let y_is : y ≡ x = eqb-true y x p in
                rw y_is (put.here ∙ ap (λ (g : Option Value). Some (held g)) (sym (get_or-set_same st.own x (Some v) None there))))
                (λ (p : eqb y x ≡ false).
                let ne : y ≡ x → ⊥ = eqb-false y x p in
                put.there y ne
                ∙ ⊎_elim (λ (h : Done bytes i n y). r.owns y l h) (λ (h : y ≡ x). absurd (ne h)) (done_now y d)
                ∙ ap (λ (g : Option Value). Some (held g)) (sym (get_or-set_other st.own x y (Some v) None ne)))
                (decide (eqb y x));
            calls = λ k y l m d.
                ⊎_elim (λ (h : Done bytes i n (vars + k)). r.calls k y l m h) (λ (h : vars + k ≡ x). absurd (omega arith)) (done_now (vars + k) d);
          }

    -- a call's step
    module _ (k : ℕ) (call_step : vars + k ≡ x) where
      pub call_below : k < length s.sub_scopes
      unfolding step_count
      call_below = let b = step_below in omega arith

      abbrev j : ℕ
      j = get_or s.sub_scopes k 0

      over : handing (env_of r.state) s k 0 (called_variables book i k) ≡ handing (cells.env_of own called) s k 0 (called_variables book i k)
      over =
          handing_agrees (env_of r.state) (cells.env_of own called) s k
          (λ v. agrees (called_target k v) (λ w h.
          steps_after book s w formed complete n more
          (ap (λ (z : ℕ). depends_on s z w) (sym call_step) ∙ (call_depends book s formed (accepted.within i) k w call_below).1 (v, h))))
          0 (called_variables book i k)

      abbrev later : List (Option Value) → Entered
      later handed' =
          on_entered (all_blocks j handed') r.state.count
          (λ vs m. run_steps book all_blocks s gs (drop (suc n) (step_order s)) (record { own = r.state.own; called = set r.state.called k vs; count = m }))

      run_call : run_steps book all_blocks s gs (x ∷ drop (suc n) (step_order s)) r.state
          ≡ on_handing (handing (cells.env_of own called) s k 0 (called_variables book i k)) r.state.count later
      unfolding run_steps_by
      run_call =
          let e : x - vars ≡ k = omega arith in
          rw (le-ltb x vars (omega arith), e)
          (ap (λ (o : Handing). on_handing o r.state.count later) over)

      whole_call : entered_at bytes i given ≡ on_handing (handing (cells.env_of own called) s k 0 (called_variables book i k)) r.state.count later
      whole_call = sym r.rest ∙ ap (λ (xs : List ℕ). run_steps book all_blocks s gs xs r.state) next ∙ run_call

      module _ {o : ℕ} {handed' : List ℕ} (h : HandedAll bytes own called i k o handed') where
        pub call_stops : empty_cell ≤ o → entered_at bytes i given ≡ ended (cause_of o) count
        call_stops high =
            let q : failed (cause_of o) ≡ handing (cells.env_of own called) s k 0 (called_variables book i k) = rw (le-ltb o empty_cell high) at h.same in
            whole_call ∙ ap (λ (z : Handing). on_handing z r.state.count later) (sym q) ∙ ap (ended (cause_of o)) r.counted

        handed_over : o < empty_cell → entered_at bytes i given ≡ later (givens_from handed' 0 (called_count book i k))
        handed_over low =
            let q : overrides.handed (givens_from handed' 0 (called_count book i k)) ≡ handing (cells.env_of own called) s k 0 (called_variables book i k) =
            rw (lt-ltb o empty_cell low) at h.same in
            whole_call ∙ ap (λ (z : Handing). on_handing z r.state.count later) (sym q)

        -- the scope entered came to q
        module _ (low : o < empty_cell) {q : Result ℕ Ended} {part : List ℕ} (came : Came bytes j handed' q part) where
          pub call_came : entered_at bytes i given
              ≡ on_entered (ran_view q part (called_count book i k)) r.state.count
              (λ vs m. run_steps book all_blocks s gs (drop (suc n) (step_order s)) (record { own = r.state.own; called = set r.state.called k vs; count = m }))
          unfolding entered_at
          call_came =
              handed_over low
              ∙ ap (λ (z : Entered). on_entered z r.state.count (λ vs m. run_steps book all_blocks s gs (drop (suc n) (step_order s)) (record { own = r.state.own; called = set r.state.called k vs; count = m }))) (sym came.same)

          pub call_ends : (d : Ended) → q ≡ Err d → entered_at bytes i given ≡ ended d.cause (count + d.count)
          call_ends d e =
              call_came
              ∙ ap (λ (z : Result ℕ Ended). on_entered (ran_view z part (called_count book i k)) r.state.count (λ vs m. run_steps book all_blocks s gs (drop (suc n) (step_order s)) (record { own = r.state.own; called = set r.state.called k vs; count = m }))) e
              ∙ ap (λ (z : ℕ). ended d.cause (z + d.count)) r.counted

          pub ends_few : (d : Ended) → q ≡ Err d → count + d.count ≤ 4096
          ends_few d e = let f : count_of (ended d.cause (count + d.count)) ≤ 4096 = subst (λ (z : Entered). count_of z ≤ 4096) (call_ends d e) entered_few in f

          pub call_values : (m : ℕ) → q ≡ Ok m → entered_at bytes i given
              ≡ run_steps book all_blocks s gs (drop (suc n) (step_order s)) (record { own = r.state.own; called = set r.state.called k (values_of part (called_count book i k)); count = count + m })
          call_values m e =
              call_came
              ∙ ap (λ (z : Result ℕ Ended). on_entered (ran_view z part (called_count book i k)) r.state.count (λ vs m. run_steps book all_blocks s gs (drop (suc n) (step_order s)) (record { own = r.state.own; called = set r.state.called k vs; count = m }))) e
              ∙ ap (λ (z : ℕ). run_steps book all_blocks s gs (drop (suc n) (step_order s)) (record { own = r.state.own; called = set r.state.called k (values_of part (called_count book i k)); count = z + m })) r.counted

          pub values_few : (m : ℕ) → q ≡ Ok m → count + m ≤ 4096
          values_few m e =
              let st : State = record { own = r.state.own; called = set r.state.called k (values_of part (called_count book i k)); count = count + m } in
              let a : count + m ≤ count_of (run_steps book all_blocks s gs (drop (suc n) (step_order s)) st) = steps_count book all_blocks s gs (drop (suc n) (step_order s)) st in
              let b : count_of (run_steps book all_blocks s gs (drop (suc n) (step_order s)) st) ≤ 4096 = subst (λ (z : Entered). count_of z ≤ 4096) (call_values m e) entered_few in
              omega (arith, a, b)

          pub call_turn : (m : ℕ) → q ≡ Ok m → Running bytes i given own (pasted called (k * 32) 32 part) handed' (count + m) (suc n)
          unfolding values_of
          call_turn m e =
              let st = r.state in
              let room : k * 32 + 32 ≤ length called = omega (arith, call_below, r.called_room) in
              let there : k < length st.called = omega (arith, r.called_length, call_below) in
              record {
                state = record { own = st.own; called = set st.called k (values_of part (called_count book i k)); count = count + m };
                counted = refl;
                at = more;
                own_room = r.own_room;
                called_room = omega (arith, pasted_length called part (k * 32) 32 came.size room, r.called_room);
                handed_room = h.size;
                own_kept = r.own_kept;
                called_kept = kept_pasted called (k * 32) 32 part r.called_kept came.kept;
                handed_kept = h.kept;
                own_length = r.own_length;
                called_length = length-set st.called k (values_of part (called_count book i k)) ∙ r.called_length;
                rest = sym (call_values m e);
                owns = λ y l d.
                    ⊎_elim (λ (p : Done bytes i n y). r.owns y l p) (λ (p : y ≡ x). absurd (omega arith)) (done_now y d);
                calls = λ k' y l b d.
                    ⊎_elim
                    (λ (p : eqb k' k ≡ true).
                    let same : k' ≡ k = eqb-true k' k p in
                    let low : y < called_count book i k = subst (λ (z : ℕ). y < called_count book i z) same b in
                    let wide : y < 32 = omega (arith, low, (accepted.within j).variables) in
                    let z : 0 + y ≡ y = omega arith in
                    rw same
                    (ap held (pasted_in called part (k * 32) 32 came.size room y wide ∙ ap (given_at part) (sym z))
                    ∙ sym (values_at part 0 (called_count book i k) y low)
                    ∙ ap (λ (vs : List Value). get_or vs y (Truth false)) (sym (get_or-set_same st.called k (values_of part (called_count book i k)) [] there))))
                    (λ (p : eqb k' k ≡ false).
                    let ne : k' ≡ k → ⊥ = eqb-false k' k p in
                    let wide : y < 32 = omega (arith, b, (accepted.within (get_or s.sub_scopes k' 0)).variables) in
                    let old : Done bytes i n (vars + k') = ⊎_elim (λ (q : Done bytes i n (vars + k')). q) (λ (q : vars + k' ≡ x). absurd (ne (omega arith))) (done_now (vars + k') d) in
                    ap held (apart k' y wide ne room)
                    ∙ r.calls k' y l b old
                    ∙ ap (λ (vs : List Value). get_or vs y (Truth false)) (sym (get_or-set_other st.called k k' (values_of part (called_count book i k)) [] ne)))
                    (decide (eqb k' k));
              }
            where
              apart : (k' y : ℕ) → y < 32 → (k' ≡ k → ⊥) → k * 32 + 32 ≤ length called
                  → given_at (pasted called (k * 32) 32 part) (k' * 32 + y) ≡ given_at called (k' * 32 + y)
              apart k' y wide ne room =
                  ⊎_elim
                  (λ (t : ltb k' k ≡ true). let l = ltb-true k' k t in pasted_before called part (k * 32) 32 came.size room (k' * 32 + y) (omega arith))
                  (λ (t : ltb k' k ≡ false).
                  let l = ltb-false k' k t in
                  let m : k < k' = more_than k k' l ne in
                  pasted_after called part (k * 32) 32 came.size room (k' * 32 + y) (omega arith))
                  (decide (ltb k' k))

  pub stop : {own called handed : List ℕ} {count n : ℕ} → Running bytes i given own called handed count n → step_count s ≤ n → Came bytes i given (Ok count) own
  unfolding values_of run_steps_by step_count
  stop {own} {called} {handed} {count} {n} r l =
      let st = r.state in
      let all_done : (x : ℕ) → x < vars → Done bytes i n x =
      λ x h. ap (λ (xs : List ℕ). among xs x) (take_all n (step_order s) (omega (arith, complete.count))) ∙ complete.every x (omega arith) in
      let held_own : (x : ℕ) → x < vars → given_at own x ≡ Some (held (get_or st.own x None)) = λ x h. r.owns x h (all_done x h) in
      let nil : drop n (step_order s) ≡ [] = drop_of_length-le (step_order s) {i = n} (omega (arith, complete.count)) in
      let over : values (map held st.own) st.count ≡ entered_at bytes i given =
      ap (λ (xs : List ℕ). run_steps book all_blocks s gs xs st) (sym nil) ∙ r.rest in
      let vals : map held st.own ≡ values_of own vars =
      values_held own 0 st.own (λ x h. let z : 0 + x ≡ x = omega arith in ap (given_at own) z ∙ held_own x (omega (arith, r.own_length)))
      ∙ ap (values_of own) r.own_length in
      record {
        size = r.own_room;
        kept = r.own_kept;
        same = sym (λ t. values (vals t) (r.counted t)) ∙ over;
        present = λ m e x h. ap is_given (held_own x h);
      }
