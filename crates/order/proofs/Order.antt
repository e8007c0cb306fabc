-- The order: no vertex twice, each the ready one of lowest number after those before it; whole if and only if no vertex reaches itself.
--     order_length                at most n vertices
--     order_no_repeats            each is below n and not among those before it
--     order_after_dependencies    each stands after all that it depends on
--     order_lowest                at each place stands the ready vertex of lowest number
--     order_ends                  after the last no vertex is ready
--     order_all                   it has n vertices if and only if each vertex below n is in it
--     order_complete              it has n vertices if and only if no vertex reaches itself
--     order_or_cycle              it has n vertices, or some vertex reaches itself
--     order_congruent             it depends only on the edges among the vertices below n
--     taken_more, taken-rest      what a turn takes, and that nothing is taken once none is ready
-- Assumes nothing.
use Prim.Native.Nat.{ℕ, zero, suc, ◌<◌, ◌≤◌, ◌+◌}
use mathlib.Core.Path.{◌≡◌, refl, sym, ap, subst, ◌∙◌}
use mathlib.Core.Bool.{Bool, true, false, not, ◌||◌, false≢true}
use mathlib.Core.List.{List, [], ◌∷◌, ◌++◌}
use mathlib.Core.Logic.{◌⊎◌, inl, inr, ⊎_elim, ◌↔◌}
use native.Mathlib.Omega.{arith}
use native.Mathlib.Nat.{eq-or-lt_of_le}
use lib.ListN.{length, get_or, take, length-append, get_or-append}
use lib.Seq.{take-append-le, take-append_seam, get_or-append_seam}
use lib.Dec.{eqb}
use borrow.Author.Tests.{eqb-true, lt-ltb, le-ltb, not-true, not-false}
use Rattle.order.specs.Search.{none}
use Rattle.order.specs.Order.{among, ready, next, taken, order}
use Rattle.order.specs.Reaching.{Reaches}
use Rattle.laws.proofs.Booleans.{decide, or_cases}
use Rattle.order.proofs.Search.{none_each, none_not}
use Rattle.order.proofs.Ready.{ready_done, ready_new, ready_met, blocked, next_bound, next_ready, next_before, next_congruent}
use Rattle.order.proofs.Count.{count, with_one, count_bound, count_lacks, count_all, count_same, count_more, count_none}
use Rattle.order.proofs.Reaching.{cycle}
use Rattle.order.proofs.Among.{among_snoc}

module _ (edge : ℕ → ℕ → Bool) (n : ℕ) where
  pub taken_more : (k : ℕ) → next edge n (among (taken edge n k)) < n
      → taken edge n (suc k) ≡ taken edge n k ++ (next edge n (among (taken edge n k)) ∷ [])
  unfolding taken
  taken_more k h = rw (lt-ltb (next edge n (among (taken edge n k))) n h)

  taken_same : (k : ℕ) → n ≤ next edge n (among (taken edge n k)) → taken edge n (suc k) ≡ taken edge n k
  unfolding taken
  taken_same k h = rw (le-ltb (next edge n (among (taken edge n k))) n h)

  pub taken_rest : (k j : ℕ) → n ≤ next edge n (among (taken edge n k)) → taken edge n (k + j) ≡ taken edge n k
  taken_rest k zero h = let e : k + 0 ≡ k = omega arith in rw e
  taken_rest k (suc j) h =
      let e : k + suc j ≡ suc (k + j) = omega arith in
      let r = taken_rest k j h in
      rw e (taken_same (k + j) (rw r h) ∙ r)

  -- a list that grew, from none, by the ready vertex of lowest number
  data Grown : List ℕ → Type 0 where
    empty : Grown []
    more : {xs : List ℕ} {v : ℕ} → Grown xs → v < n → v ≡ next edge n (among xs) → Grown (xs ++ (v ∷ []))

  grown : (k : ℕ) → Grown (taken edge n k)
  unfolding taken
  grown zero = empty
  grown (suc k) =
      ⊎_elim
      (λ (e : next edge n (among (taken edge n k)) ≡ n). rw (taken_same k (omega arith)) (grown k))
      (λ (h : next edge n (among (taken edge n k)) < n). rw (taken_more k h) (more (grown k) h refl))
      (eq-or-lt_of_le (next_bound edge n (among (taken edge n k)) _ refl))

  -- the last vertex was ready
  ready_last : (xs : List ℕ) (v : ℕ) → v < n → v ≡ next edge n (among xs) → ready edge n (among xs) v ≡ true
  ready_last xs v l e = rw e (next_ready edge n (among xs) (rw e at l))

  -- what the vertices depend on is among them
  closed_one : {xs : List ℕ} → Grown xs → (v w : ℕ) → among xs v ≡ true → w < n → edge v w ≡ true → among xs w ≡ true
  unfolding among
  closed_one empty v w m l e = m
  closed_one (more {xs = xs} {v = u} g ul ue) v w m l e =
      among_snoc xs u w
      ∙ ap (λ (b : Bool). b || eqb w u)
      (⊎_elim
      (λ a. closed_one g v w a l e)
      (λ a. ready_met edge n (among xs) u w (ready_last xs u ul ue) l (ap (λ (k : ℕ). edge k w) (sym (eqb-true v u a)) ∙ e))
      (or_cases (among xs v) (eqb v u) (sym (among_snoc xs u v) ∙ m)))

  closed : {xs : List ℕ} → Grown xs → {v w : ℕ} → Reaches edge n v w → among xs v ≡ true → among xs w ≡ true
  closed g (Reaches.direct {v = v} {w = w} l e) m = closed_one g v w m l e
  closed g (Reaches.through {v = v} {u = u} l e r) m = closed g r (closed_one g v u m l e)

  -- none of them reaches itself
  no_cycle : {xs : List ℕ} → Grown xs → (v : ℕ) → among xs v ≡ true → Reaches edge n v v → ⊥
  unfolding among
  no_cycle empty v m c = false≢true m
  no_cycle (more {xs = xs} {v = u} g ul ue) v m c =
      let r = ready_last xs u ul ue in
      ⊎_elim
      (λ a. no_cycle g v a c)
      (λ a.
      let c' : Reaches edge n u u = subst (λ (k : ℕ). Reaches edge n k k) (eqb-true v u a) c in
      false≢true (sym (ready_new edge n (among xs) u r) ∙ back r c'))
      (or_cases (among xs v) (eqb v u) (sym (among_snoc xs u v) ∙ m))
    where
      back : ready edge n (among xs) u ≡ true → {w : ℕ} → Reaches edge n u w → among xs w ≡ true
      back r (Reaches.direct {w = w} l e) = ready_met edge n (among xs) u w r l e
      back r (Reaches.through {u = t} l e s) = closed g s (ready_met edge n (among xs) u t r l e)

  -- as many vertices as there are numbers below n among them
  counted : {xs : List ℕ} → Grown xs → count (among xs) n ≡ length xs
  unfolding among
  counted empty = count_same (among []) (λ w. false) n (λ w l. refl) ∙ count_none n
  counted (more {xs = xs} {v = v} g l e) =
      count_same (among (xs ++ (v ∷ []))) (with_one (among xs) v) n (λ w h. among_snoc xs v w)
      ∙ count_more (among xs) n v l (ready_new edge n (among xs) v (ready_last xs v l e))
      ∙ ap suc (counted g)
      ∙ sym (length-append xs (v ∷ []) ∙ omega arith)

  placed : {xs : List ℕ} → Grown xs → (i : ℕ) → i < length xs → (get_or xs i 0 < n) × (get_or xs i 0 ≡ next edge n (among (take i xs)))
  placed empty i h = absurd (omega arith)
  placed (more {xs = xs} {v = v} g l r) i h =
      let h' = rw (length-append xs (v ∷ [])) at h in
      ⊎_elim
      (λ (e : i ≡ length xs). rw (e, take-append_seam, get_or-append_seam) (l, r))
      (λ b. rw (take-append-le i xs (v ∷ []) (omega arith), get_or-append xs (v ∷ []) 0 i b) (placed g i b))
      (eq-or-lt_of_le {n = i} {m = length xs} (omega arith))

  -- k turns take k vertices, or none is ready after them
  full_or_ended : (k : ℕ) → (length (taken edge n k) ≡ k) ⊎ (n ≤ next edge n (among (taken edge n k)))
  unfolding taken
  full_or_ended zero = inl refl
  full_or_ended (suc k) =
      ⊎_elim
      (λ (e : next edge n (among (taken edge n k)) ≡ n). inr (rw (taken_same k (omega arith)) (omega arith)))
      (λ (h : next edge n (among (taken edge n k)) < n).
      ⊎_elim
      (λ e. inl (ap length (taken_more k h) ∙ length-append (taken edge n k) _ ∙ omega arith))
      (λ ended. absurd (omega arith))
      (full_or_ended k))
      (eq-or-lt_of_le (next_bound edge n (among (taken edge n k)) _ refl))

  order_grown : Grown (order edge n)
  unfolding order
  order_grown = grown n

  pub order_length : length (order edge n) ≤ n
  order_length = omega (arith, counted order_grown, count_bound (among (order edge n)) n)

  pub order_lowest : (i : ℕ) → i < length (order edge n) → get_or (order edge n) i 0 ≡ next edge n (among (take i (order edge n)))
  order_lowest i h = (placed order_grown i h).1

  placed_ready : (i : ℕ) → i < length (order edge n) → ready edge n (among (take i (order edge n))) (get_or (order edge n) i 0) ≡ true
  placed_ready i h = ready_last _ _ (placed order_grown i h).0 (order_lowest i h)

  pub order_no_repeats : (i : ℕ) → i < length (order edge n)
      → (get_or (order edge n) i 0 < n) × (among (take i (order edge n)) (get_or (order edge n) i 0) ≡ false)
  order_no_repeats i h = ((placed order_grown i h).0, ready_new edge n _ _ (placed_ready i h))

  pub order_after_dependencies : (i : ℕ) → i < length (order edge n)
      → (w : ℕ) → w < n → edge (get_or (order edge n) i 0) w ≡ true → among (take i (order edge n)) w ≡ true
  order_after_dependencies i h w l e = ready_met edge n _ _ w (placed_ready i h) l e

  pub order_all : (length (order edge n) ≡ n) ↔ ((v : ℕ) → v < n → among (order edge n) v ≡ true)
  order_all = (
    λ e v l.
        ⊎_elim
        (λ q. q)
        (λ q. absurd (omega (arith, count_lacks (among (order edge n)) n v l q, counted order_grown)))
        (decide (among (order edge n) v)),
    λ h. sym (counted order_grown) ∙ count_all (among (order edge n)) n h,
  )

  pub order_ends : (v : ℕ) → v < n → ready edge n (among (order edge n)) v ≡ false
  unfolding order
  order_ends v l =
      ⊎_elim
      (λ e. ready_done edge n (among (order edge n)) v (order_all.0 e v l))
      (λ (h : n ≤ next edge n (among (taken edge n n))). next_before edge n (among (order edge n)) v (omega arith))
      (full_or_ended n)

  pub order_or_cycle : (length (order edge n) ≡ n) ⊎ ((v : ℕ) × (v < n) × Reaches edge n v v)
  order_or_cycle =
      let left : ℕ → Bool = λ v. not (among (order edge n) v) in
      ⊎_elim
      (λ q. inl (order_all.1 (λ v l. not-false (among (order edge n) v) (none_each left n q v l))))
      (λ q.
      let a = none_not left n q in
      inr
      (cycle edge n left
      (λ v l o.
      let b = blocked edge n (among (order edge n)) v (order_ends v l) (not-true (among (order edge n) v) o) in
      (b.0, b.1, b.2, ap not b.3))
      a.0
      a.1
      a.2))
      (decide (none left n))

  pub order_complete : (length (order edge n) ≡ n) ↔ ((v : ℕ) → v < n → Reaches edge n v v → ⊥)
  order_complete = (
    λ e v l. no_cycle order_grown v (order_all.0 e v l),
    λ h. ⊎_elim (λ e. e) (λ c. absurd (h c.0 c.1 c.2)) order_or_cycle,
  )

module _ (edge edge' : ℕ → ℕ → Bool) (n : ℕ) (same : (v w : ℕ) → v < n → w < n → edge v w ≡ edge' v w) where
  taken_congruent : (k : ℕ) → taken edge n k ≡ taken edge' n k
  unfolding taken
  taken_congruent zero = refl
  taken_congruent (suc k) =
      let before = taken_congruent k in
      let v = next_congruent edge edge' n (among (taken edge n k)) (among (taken edge n k)) same (λ w l. refl) in
      rw (v, before)

  pub order_congruent : order edge n ≡ order edge' n
  unfolding order
  order_congruent = taken_congruent n
