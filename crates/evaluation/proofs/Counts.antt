-- The count of scopes entered: "in a run that ends with values it equals the weight".
--     steps_bounded       the count of a run from some step on, by the weights of the sub-scopes still to be called
--     entered_bounded     the count of entering a scope: at most its weight, and equal to it where the run ends in values
--     order_bounded       so it is of a run of the scope's steps in any order that is complete
--     values_count        of an accepted book: a run that ends in values has entered as many scopes as the weight says
--     ended_count         one that ends with a cause, at least one and at most as many
--     entered_small, reached_small    the count is 4,096 at most, and so it is in each state that the run reaches
-- Assumes nothing.
use Prim.Native.Nat.{ℕ, zero, suc, ◌<◌, ◌≤◌, ◌+◌, ◌-◌}
use mathlib.Core.Path.{◌≡◌, refl, sym, ap, subst, ◌∙◌}
use mathlib.Core.Bool.{Bool, true, false, cond}
use mathlib.Core.List.{List, [], ◌∷◌}
use mathlib.Core.Logic.{⊎_elim}
use native.Mathlib.Omega.{arith}
use native.Mathlib.Nat.{eq-or-lt_of_le}
use lib.ListN.{length, get_or}
use lib.Dec.{eqb, ltb}
use borrow.Author.Tests.{eqb-true, eqb-false, ne_eqb, lt-ltb, le-ltb}
use Rattle.std.specs.Prelude.{Option, Ok}
use Rattle.calculus.specs.declared.Value.{Value}
use Rattle.answers.specs.declared.Cause.{Cause}
use Rattle.order.specs.Order.{among}
use Rattle.laws.proofs.Booleans.{decide}
use Rattle.order.proofs.Among.{among_place}
use Rattle.book.specs.Syntax.{Scope}
use Rattle.book.specs.Decode.{scopes_of}
use Rattle.book.specs.References.{scope_at}
use Rattle.book.specs.Scopes.{sum, weight}
use Rattle.book.specs.Steps.{depends_on, step_count, step_order}
use Rattle.book.specs.Judge.{judge}
use Rattle.book.proofs.Sums.{range}
use Rattle.book.proofs.Weights.{weight_sum}
use Rattle.acceptance.specs.Accepted.{CompleteOrder}
use Rattle.acceptance.proofs.Acceptance.{accepted_faultless}
use Rattle.acceptance.proofs.Orders.{accepted_book}
use Rattle.evaluation.specs.Run.{Entered, values, ended, State, begin, run_steps_by, run_steps, run_scope}
use Rattle.evaluation.specs.Readiness.{Reached, with_variable, with_call}
use Rattle.evaluation.proofs.Running.{Steps, call_number, count_of, by_step, steps_count, reached_same}
use Rattle.evaluation.proofs.Entering.{accepted_complete, accepted_entered_steps, accepted_entered_count, accepted_by_blocks}

-- Sums

range_same : (f g : ℕ → ℕ) (a m : ℕ) → ((j : ℕ) → a ≤ j → j < a + m → f j ≡ g j) → range f a m ≡ range g a m
unfolding range
range_same f g a zero h = refl
range_same f g a (suc m) h =
    let here : f a ≡ g a = h a (omega arith) (omega arith) in
    rw (here, range_same f g (suc a) m (λ j l r. h j (omega arith) (omega arith)))

range_none : (f : ℕ → ℕ) (a m : ℕ) → ((j : ℕ) → a ≤ j → j < a + m → f j ≡ 0) → range f a m ≡ 0
unfolding range
range_none f a zero h = refl
range_none f a (suc m) h =
    let here : f a ≡ 0 = h a (omega arith) (omega arith) in
    let rest : range f (suc a) m ≡ 0 = range_none f (suc a) m (λ j l r. h j (omega arith) (omega arith)) in
    omega arith

range_split : (f : ℕ → ℕ) (a p m : ℕ) → range f a (p + m) ≡ range f a p + range f (a + p) m
unfolding range
range_split f a zero m =
    let e : 0 + m ≡ m = omega arith in
    let d : a + 0 ≡ a = omega arith in
    rw (e, d) (omega arith)
range_split f a (suc p) m =
    let e : suc p + m ≡ suc (p + m) = omega arith in
    let d : a + suc p ≡ suc a + p = omega arith in
    let r = range_split f (suc a) p m in
    rw (e, d) (omega (arith, r))

range_list : (f w : ℕ → ℕ) (xs : List ℕ) (a : ℕ) → ((k : ℕ) → k < length xs → f (a + k) ≡ w (get_or xs k 0))
    → range f a (length xs) ≡ sum w xs
unfolding range sum
range_list f w [] a h = refl
range_list f w (x ∷ xs) a h =
    let z : a + 0 ≡ a = omega arith in
    let here : f a ≡ w x = rw z at (h 0 (omega arith)) in
    rw (here, range_list f w xs (suc a) (λ k l. let y : suc a + k ≡ a + suc k = omega arith in rw y (h (suc k) (omega arith))))

module _ (f : ℕ → ℕ) where
  -- f of the numbers of a list, 0 of others
  abbrev within : List ℕ → ℕ → ℕ
  within xs j = cond (among xs j) (f j) 0

  within_other : (x : ℕ) (xs : List ℕ) (j : ℕ) → (j ≡ x → ⊥) → within (x ∷ xs) j ≡ within xs j
  unfolding among
  within_other x xs j h = rw (ne_eqb j x h)

  within_here : (x : ℕ) (xs : List ℕ) → within (x ∷ xs) x ≡ f x
  unfolding among
  within_here x xs =
      ⊎_elim (λ q. rw q) (λ q. absurd (eqb-false x x q refl)) (decide (eqb x x))

  range_later : (x : ℕ) (xs : List ℕ) (a m : ℕ) → x < a → range (within (x ∷ xs)) a m ≡ range (within xs) a m
  range_later x xs a m l = range_same (within (x ∷ xs)) (within xs) a m (λ j h r. within_other x xs j (λ q. omega arith))

  range_one : (x : ℕ) (xs : List ℕ) → among xs x ≡ false → (a m : ℕ) → a ≤ x → x < a + m
      → range (within (x ∷ xs)) a m ≡ f x + range (within xs) a m
  unfolding range
  range_one x xs new a zero l h = absurd (omega arith)
  range_one x xs new a (suc m) l h =
      ⊎_elim
      (λ (q : eqb a x ≡ true).
      let e : a ≡ x = eqb-true a x q in
      let here : within (x ∷ xs) a ≡ f x = ap (within (x ∷ xs)) e ∙ within_here x xs in
      let without : within xs a ≡ 0 = ap (within xs) e ∙ ap (λ (b : Bool). cond b (f x) 0) new in
      let rest = range_later x xs (suc a) m (omega arith) in
      omega (arith, here, without, rest))
      (λ (q : eqb a x ≡ false).
      let ne : a ≡ x → ⊥ = eqb-false a x q in
      let here = within_other x xs a ne in
      let more : suc a ≤ x = ⊎_elim (λ (t : a ≡ x). absurd (ne t)) (λ (t : a < x). t) (eq-or-lt_of_le {n = a} {m = x} l) in
      let rest = range_one x xs new (suc a) m more (omega arith) in
      omega (arith, here, rest))
      (decide (eqb a x))

  -- a sum over a list without repetitions
  sum_range : (n : ℕ) (xs : List ℕ) → ((i : ℕ) → i < length xs → get_or xs i 0 < n)
      → ((i j : ℕ) → i < length xs → j < length xs → get_or xs i 0 ≡ get_or xs j 0 → i ≡ j)
      → sum f xs ≡ range (within xs) 0 n
  unfolding sum among
  sum_range n [] below once = sym (range_none (within []) 0 n (λ j l h. refl))
  sum_range n (x ∷ xs) below once =
      let new : among xs x ≡ false =
      ⊎_elim
      (λ (q : among xs x ≡ true).
      let p = among_place xs x q in
      let z : ◌≡◌ {A = ℕ} 0 (suc p.0) = once 0 (suc p.0) (omega arith) (omega (arith, p.1)) (sym p.2) in
      absurd (omega arith))
      (λ (q : among xs x ≡ false). q)
      (decide (among xs x)) in
      let rest = sum_range n xs (λ i l. below (suc i) (omega arith)) (λ i j l h e.
      let z : suc i ≡ suc j = once (suc i) (suc j) (omega arith) (omega arith) e in omega arith) in
      let first : x < n = below 0 (omega arith) in
      sym (range_one x xs new 0 n (omega arith) (omega arith) ∙ ap (λ (t : ℕ). f x + t) (sym rest))

  order_sum : (edge : ℕ → ℕ → Bool) (n : ℕ) (xs : List ℕ) → CompleteOrder edge n xs → sum f xs ≡ range f 0 n
  order_sum edge n xs c =
      sum_range n xs c.below c.once
      ∙ range_same (within xs) f 0 n (λ j l h. ap (λ (b : Bool). cond b (f j) 0) (c.every j (omega arith)))

-- The count along a run

-- at most w, and equal to it where the run ends in values
abbrev pub Bounded : ℕ → Entered → Type 0
Bounded w (values vs n) = n ≡ w
Bounded w (ended c n) = n ≤ w

pub bounded_count : (w : ℕ) (r : Entered) → Bounded w r → count_of r ≤ w
bounded_count w (values vs c) h = omega arith
bounded_count w (ended d c) h = h

module _ (book : List Scope) (enter : ℕ → List (Option Value) → Entered) (s : Scope) (given : List (Option Value)) (weigh : ℕ → ℕ)
    (bounded : (k : ℕ) → k < length s.sub_scopes → (handed : List (Option Value))
    → Bounded (weigh (get_or s.sub_scopes k 0)) (enter (get_or s.sub_scopes k 0) handed)) where
  -- what a step adds to the count
  unfoldable pub added : ℕ → ℕ
  added x = cond (ltb x (length s.variables)) 0 (weigh (get_or s.sub_scopes (x - length s.variables) 0))

  added_variable : (x : ℕ) → x < length s.variables → added x ≡ 0
  unfolding added
  added_variable x l = rw (lt-ltb x (length s.variables) l)

  added_call : (x : ℕ) → length s.variables ≤ x → added x ≡ weigh (get_or s.sub_scopes (x - length s.variables) 0)
  unfolding added
  added_call x l = rw (le-ltb x (length s.variables) l)

  pub steps_bounded : (xs : List ℕ) → Steps s xs → (st : State) → Bounded (st.count + sum added xs) (run_steps book enter s given xs st)
  unfolding run_steps_by sum
  steps_bounded [] below st = omega arith
  steps_bounded (x ∷ xs) below st =
      let later : Steps s xs = λ j l. below (suc j) (omega arith) in
      let k = x - length s.variables in
      by_step book enter s given (Bounded (st.count + (added x + sum added xs))) x xs st
      (λ l y e.
      let z : st.count + (added x + sum added xs) ≡ st.count + sum added xs = omega (arith, added_variable x l) in
      rw z (steps_bounded xs later (with_variable st x y)))
      (λ l gs vs n h e.
      let w : n ≡ weigh (get_or s.sub_scopes k 0) =
      subst (Bounded (weigh (get_or s.sub_scopes k 0))) e (bounded k (call_number s x (below 0 (omega arith)) l) gs) in
      let z : st.count + (added x + sum added xs) ≡ st.count + n + sum added xs = omega (arith, added_call x l, w) in
      rw z (steps_bounded xs later (with_call st k vs n)))
      (λ c. omega arith)
      (λ l gs c n h e.
      let w : n ≤ weigh (get_or s.sub_scopes k 0) =
      subst (Bounded (weigh (get_or s.sub_scopes k 0))) e (bounded k (call_number s x (below 0 (omega arith)) l) gs) in
      omega (arith, added_call x l, w))

  -- each sub-scope is called once
  pub added_sum : (xs : List ℕ) → CompleteOrder (depends_on s) (step_count s) xs → sum added xs ≡ sum weigh s.sub_scopes
  unfolding step_count
  added_sum xs c =
      let v = length s.variables in
      order_sum added (depends_on s) (step_count s) xs c
      ∙ range_split added 0 v (length s.sub_scopes)
      ∙ own_sum
    where
      own_sum : range added 0 (length s.variables) + range added (0 + length s.variables) (length s.sub_scopes) ≡ sum weigh s.sub_scopes
      own_sum =
          let v = length s.variables in
          let z : 0 + v ≡ v = omega arith in
          let none : range added 0 v ≡ 0 = range_none added 0 v (λ j l h. added_variable j (omega arith)) in
          let all : range added v (length s.sub_scopes) ≡ sum weigh s.sub_scopes = range_list added weigh s.sub_scopes v (λ k l.
          let e : v + k - v ≡ k = omega arith in
          added_call (v + k) (omega arith) ∙ rw e) in
          rw (z, none, all) (omega arith)

module _ (bytes : List ℕ) (n : ℕ) (accepted : judge bytes ≡ Ok n) where
  -- what entering the scopes that the sub-scopes of scope i name comes to
  abbrev CallsBounded : ℕ → Type 0
  CallsBounded i = (k : ℕ) → k < length (scope_at (scopes_of bytes) i).sub_scopes → (given : List (Option Value))
      → Bounded (weight (scopes_of bytes) (get_or (scope_at (scopes_of bytes) i).sub_scopes k 0))
      (run_scope (scopes_of bytes) (get_or (scope_at (scopes_of bytes) i).sub_scopes k 0) given)

  scope_bounded : (i : ℕ) → i < n → CallsBounded i → (given : List (Option Value)) (xs : List ℕ)
      → CompleteOrder (depends_on (scope_at (scopes_of bytes) i)) (step_count (scope_at (scopes_of bytes) i)) xs
      → Bounded (weight (scopes_of bytes) i)
      (run_steps (scopes_of bytes) (run_scope (scopes_of bytes)) (scope_at (scopes_of bytes) i) given xs (begin (scope_at (scopes_of bytes) i)))
  scope_bounded i l earlier given xs orders =
      let book = scopes_of bytes in
      let s = scope_at book i in
      let all = run_scope book in
      let a = accepted_book bytes n accepted in
      let complete = accepted_complete bytes n accepted in
      let w : weight book i ≡ 1 + sum (added book all s given (weight book) earlier) xs =
      weight_sum book complete.count (accepted_faultless bytes n accepted).named i (omega (arith, a.count))
      ∙ ap suc (sym (added_sum book all s given (weight book) earlier xs orders))
      ∙ omega arith in
      rw w (steps_bounded book all s given (weight book) earlier xs orders.below (begin s))

  pub entered_bounded : (i : ℕ) → i < n → (given : List (Option Value))
      → Bounded (weight (scopes_of bytes) i) (run_scope (scopes_of bytes) i given)
  entered_bounded =
      accepted_by_blocks bytes n accepted
      (λ i. (given : List (Option Value)) → Bounded (weight (scopes_of bytes) i) (run_scope (scopes_of bytes) i given))
      (λ i l earlier given.
      rw (accepted_entered_steps bytes n accepted i l given)
      (scope_bounded i l earlier given (step_order (scope_at (scopes_of bytes) i)) ((accepted_book bytes n accepted).step_orders i l)))

  pub order_bounded : (i : ℕ) → i < n → (given : List (Option Value)) (xs : List ℕ)
      → CompleteOrder (depends_on (scope_at (scopes_of bytes) i)) (step_count (scope_at (scopes_of bytes) i)) xs
      → Bounded (weight (scopes_of bytes) i)
      (run_steps (scopes_of bytes) (run_scope (scopes_of bytes)) (scope_at (scopes_of bytes) i) given xs (begin (scope_at (scopes_of bytes) i)))
  order_bounded i l =
      let a = accepted_book bytes n accepted in
      scope_bounded i l (λ k h. entered_bounded (get_or (scope_at (scopes_of bytes) i).sub_scopes k 0)
      (omega (arith, a.count, (a.formed i l).sub_scopes_named k h)))

  pub values_count : (i : ℕ) → i < n → (given : List (Option Value)) (vs : List Value) (c : ℕ)
      → run_scope (scopes_of bytes) i given ≡ values vs c → c ≡ weight (scopes_of bytes) i
  values_count i l given vs c e = subst (Bounded (weight (scopes_of bytes) i)) e (entered_bounded i l given)

  pub ended_count : (i : ℕ) → i < n → (given : List (Option Value)) (cause : Cause) (c : ℕ)
      → run_scope (scopes_of bytes) i given ≡ ended cause c → (1 ≤ c) × (c ≤ weight (scopes_of bytes) i)
  ended_count i l given cause c e = (
    subst (λ (r : Entered). 1 ≤ count_of r) e (accepted_entered_count bytes n accepted i l given),
    subst (Bounded (weight (scopes_of bytes) i)) e (entered_bounded i l given),
  )

  pub entered_small : (i : ℕ) → i < n → (given : List (Option Value)) → count_of (run_scope (scopes_of bytes) i given) ≤ 4096
  entered_small i l given =
      let most = bounded_count (weight (scopes_of bytes) i) (run_scope (scopes_of bytes) i given) (entered_bounded i l given) in
      omega (arith, most, (accepted_book bytes n accepted).weights i l)

  pub reached_small : (i : ℕ) → i < n → (given : List (Option Value)) (xs : List ℕ) (st : State)
      → Reached (scopes_of bytes) (run_scope (scopes_of bytes)) (scope_at (scopes_of bytes) i) given xs st → st.count ≤ 4096
  reached_small i l given xs st r =
      let book = scopes_of bytes in
      let s = scope_at book i in
      let same = accepted_entered_steps bytes n accepted i l given ∙ reached_same book (run_scope book) s given xs st r in
      let all : count_of (run_steps book (run_scope book) s given xs st) ≤ 4096 =
      subst (λ (t : Entered). count_of t ≤ 4096) same (entered_small i l given) in
      omega (arith, all, steps_count book (run_scope book) s given xs st)
