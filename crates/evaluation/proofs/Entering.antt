-- Entering a scope of an accepted book.
--     entered_same            what entering a scope comes to does not depend on blocks after its own
--     entered_whole           so it is the same with all blocks as with those up to its own
--     entered_place           so it is with any number of blocks above its place
--     called_place            the block of a scope that a sub-scope names has a lower place
--     entered_steps           it is a run of the scope's steps, in which each call enters the scope that its sub-scope names
--     entered_count           at least one scope is entered
--     by_blocks               what holds of a scope if it holds of those that its sub-scopes name holds of every scope
--     accepted_..             each of these of an accepted book; accepted_entered_real, that it is not what entering an absent block comes to
-- Assumes nothing.
use Prim.Native.Nat.{ℕ, zero, suc, ◌<◌, ◌≤◌, ◌+◌, ◌-◌}
use mathlib.Core.Path.{◌≡◌, refl, sym, ap, subst, ◌∙◌}
use mathlib.Core.Bool.{Bool, true, false, cond, ◌||◌, or-true, true≢false}
use mathlib.Core.List.{List, [], ◌∷◌, reverse, reverse-append}
use mathlib.Core.Logic.{⊎_elim}
use native.Mathlib.Omega.{arith}
use lib.ListN.{length, get_or, take}
use lib.Seq.{take-suc, take_all, get_or-take, length-take-le}
use lib.Dec.{eqb}
use borrow.Author.Tests.{eqb-true, eq-eqb}
use Rattle.std.specs.Prelude.{Result, Option, Ok}
use Rattle.answers.specs.declared.Cause.TheVariants.{Empty}
use Rattle.order.specs.Order.{among}
use Rattle.laws.proofs.Booleans.{decide}
use Rattle.order.proofs.Among.{among_at, among_place}
use Rattle.order.proofs.Order.{order_no_repeats}
use Rattle.book.specs.Syntax.{Scope}
use Rattle.book.specs.Decode.{scopes_of}
use Rattle.book.specs.References.{scope_at}
use Rattle.book.specs.Scopes.{calls, blocks}
use Rattle.book.specs.Steps.{depends_on, step_count, step_order}
use Rattle.book.specs.Judge.{judge}
use Rattle.book.proofs.Weights.{new_block, block_snoc}
use Rattle.acceptance.specs.Accepted.{WellFormed, CompleteOrder}
use Rattle.acceptance.proofs.Orders.{blocks_after, accepted_book}
use Rattle.evaluation.specs.Handing.{Handed, falls_back}
use Rattle.evaluation.specs.Run.{Entered, ended, begin, run_steps_by, run_steps, enter_by, enter, run_scope_by, run_scope}
use Rattle.evaluation.proofs.Running.{Steps, count_of, steps_congruent, steps_count}
use Rattle.answers.specs.declared.Cause.{Cause}
use Rattle.calculus.specs.declared.Value.{Value}

-- the order of steps holds steps of the scope only
pub steps_of : (s : Scope) → Steps s (step_order s)
unfolding step_order
steps_of s j l = (order_no_repeats (depends_on s) (step_count s) j l).0

module _ (book : List Scope) (complete : CompleteOrder (calls book) (length book) (blocks book)) where
  module _ (by : Result Value Cause → Handed) where
    -- entering once the first k blocks are there
    abbrev pub after : ℕ → ℕ → List (Option Value) → Entered
    after k = enter_by by book (reverse (take k (blocks book)))

    after_more : (k : ℕ) → k < length book → (i : ℕ) (given : List (Option Value))
        → after (suc k) i given
        ≡ cond (eqb (get_or (blocks book) k 0) i)
        (run_steps_by by book (after k) (scope_at book i) given (step_order (scope_at book i)) (begin (scope_at book i)))
        (after k i given)
    unfolding enter_by
    after_more k l i given =
        ap (λ (bs : List ℕ). enter_by by book bs i given)
        (ap reverse (take-suc (blocks book) k 0 (omega (arith, complete.count)))
        ∙ reverse-append (take k (blocks book)) (get_or (blocks book) k 0 ∷ []))

    same_more : (k d i : ℕ) → k + d ≤ length book → among (take k (blocks book)) i ≡ true → (given : List (Option Value))
        → (after (k + d) i given ≡ after k i given) × (among (take (k + d) (blocks book)) i ≡ true)
    same_more k zero i l m given = let e : k + 0 ≡ k = omega arith in rw e (refl, m)
    same_more k (suc d) i l m given =
        let e : k + suc d ≡ suc (k + d) = omega arith in
        let n = k + d in
        let r = same_more k d i (omega arith) m given in
        let x = get_or (blocks book) n 0 in
        let other : eqb x i ≡ false =
        ⊎_elim
        (λ (q : eqb x i ≡ true).
        absurd (true≢false (sym r.1 ∙ ap (among (take n (blocks book))) (sym (eqb-true x i q)) ∙ new_block book complete.count n (omega arith))))
        (λ (q : eqb x i ≡ false). q)
        (decide (eqb x i)) in
        rw e (
          (rw other at (after_more n (omega arith) i given)) ∙ r.0,
          block_snoc book complete.count n (omega arith) i ∙ ap (λ (t : Bool). t || eqb i x) r.1,
        )

    pub entered_same : (k l i : ℕ) → k ≤ l → l ≤ length book → among (take k (blocks book)) i ≡ true → (given : List (Option Value))
        → enter_by by book (reverse (take l (blocks book))) i given ≡ enter_by by book (reverse (take k (blocks book))) i given
    entered_same k l i h m q given =
        let e : k + (l - k) ≡ l = omega arith in
        let r = (same_more k (l - k) i (omega arith) q given).0 in
        ap (λ (n : ℕ). after n i given) (sym e) ∙ r

    whole : take (length book) (blocks book) ≡ blocks book
    whole = take_all (length book) (blocks book) (omega (arith, complete.count))

    -- a scope whose block is among the first k
    pub entered_whole : (k i : ℕ) → k ≤ length book → among (take k (blocks book)) i ≡ true → (given : List (Option Value))
        → run_scope_by by book i given ≡ enter_by by book (reverse (take k (blocks book))) i given
    entered_whole k i h q given =
        ap (λ (bs : List ℕ). enter_by by book (reverse bs) i given) (sym whole) ∙ entered_same k (length book) i h (omega arith) q given

    pub entered_place : (p l i : ℕ) → p < l → l ≤ length book → get_or (blocks book) p 0 ≡ i → (given : List (Option Value))
        → enter_by by book (reverse (take l (blocks book))) i given ≡ run_scope_by by book i given
    entered_place p l i h m e given =
        let room : length (take l (blocks book)) ≡ l = length-take-le l (blocks book) (omega (arith, complete.count)) in
        let there : among (take l (blocks book)) i ≡ true =
        ap (among (take l (blocks book))) (sym (get_or-take l (blocks book) p 0 h ∙ e)) ∙ among_at (take l (blocks book)) p (omega arith) in
        sym (entered_whole l i m there given)

  -- the place of a scope's block
  pub block_place : (i : ℕ) → i < length book → (k : ℕ) × (k < length book) × (get_or (blocks book) k 0 ≡ i)
  block_place i l = let p = among_place (blocks book) i (complete.every i l) in (p.0, omega (arith, complete.count, p.1), p.2)

  module _ (formed : (i : ℕ) → i < length book → WellFormed book (scope_at book i)) where
    -- the sub-scopes of the scope of block k
    before : (k : ℕ) → k < length book → (i : ℕ) → get_or (blocks book) k 0 ≡ i → (j : ℕ) → j < length (scope_at book i).sub_scopes
        → among (take k (blocks book)) (get_or (scope_at book i).sub_scopes j 0) ≡ true
    before k l i e j h =
        let z : length (scope_at book (get_or (blocks book) k 0)).sub_scopes ≡ length (scope_at book i).sub_scopes =
        ap (λ (b : ℕ). length (scope_at book b).sub_scopes) e in
        ap (λ (b : ℕ). among (take k (blocks book)) (get_or (scope_at book b).sub_scopes j 0)) (sym e)
        ∙ blocks_after book complete formed k l j (omega arith)

    pub entered_steps : (by : Result Value Cause → Handed) (i : ℕ) → i < length book → (given : List (Option Value))
        → run_scope_by by book i given
        ≡ run_steps_by by book (run_scope_by by book) (scope_at book i) given (step_order (scope_at book i)) (begin (scope_at book i))
    entered_steps by i l given =
        let p = block_place i l in
        let k = p.0 in
        let few : k < length book = p.1 in
        let s = scope_at book i in
        let is : eqb (get_or (blocks book) k 0) i ≡ true = eq-eqb (get_or (blocks book) k 0) i p.2 in
        let there : among (take (suc k) (blocks book)) i ≡ true =
        block_snoc book complete.count k few i
        ∙ ap (λ (t : Bool). among (take k (blocks book)) i || t) (eq-eqb i (get_or (blocks book) k 0) (sym p.2))
        ∙ or-true (among (take k (blocks book)) i) in
        entered_whole by (suc k) i (omega arith) there given
        ∙ (rw is at (after_more by k few i given))
        ∙ steps_congruent by book s given (after by k) (run_scope_by by book)
        (λ j h handed. sym (entered_whole by k (get_or s.sub_scopes j 0) (omega arith) (before k few i p.2 j h) handed))
        (step_order s) (steps_of s) (begin s)

    pub entered_count : (i : ℕ) → i < length book → (given : List (Option Value)) → 1 ≤ count_of (run_scope book i given)
    entered_count i l given =
        let s = scope_at book i in
        rw (entered_steps falls_back i l given) (steps_count book (run_scope book) s given (step_order s) (begin s))

    pub called_place : (p : ℕ) → p < length book → (i : ℕ) → get_or (blocks book) p 0 ≡ i → (k : ℕ) → k < length (scope_at book i).sub_scopes
        → (q : ℕ) → q < length book → get_or (blocks book) q 0 ≡ get_or (scope_at book i).sub_scopes k 0 → q < p
    called_place p l i e k h q r f =
        let c = get_or (scope_at book i).sub_scopes k 0 in
        let a = among_place (take p (blocks book)) c (before p l i e k h) in
        let room : length (take p (blocks book)) ≡ p = length-take-le p (blocks book) (omega (arith, complete.count)) in
        let low : a.0 < p = omega (arith, a.1, room) in
        let same : a.0 ≡ q =
        complete.once a.0 q (omega (arith, complete.count)) (omega (arith, complete.count))
        (sym (get_or-take p (blocks book) a.0 0 low) ∙ a.2 ∙ sym f) in
        omega arith

    module _ (P : ℕ → Type 0)
        (turn : (i : ℕ) → i < length book
        → ((j : ℕ) → j < length (scope_at book i).sub_scopes → P (get_or (scope_at book i).sub_scopes j 0)) → P i) where
      first_blocks : (l k : ℕ) → l ≤ length book → k < l → P (get_or (blocks book) k 0)
      first_blocks zero k h m = absurd (omega arith)
      first_blocks (suc l) k h m =
          let i = get_or (blocks book) k 0 in
          turn i (complete.below k (omega (arith, complete.count))) (λ j r.
          let q = among_place (take k (blocks book)) (get_or (scope_at book i).sub_scopes j 0) (before k (omega arith) i refl j r) in
          let room : length (take k (blocks book)) ≡ k = length-take-le k (blocks book) (omega (arith, complete.count)) in
          let low : q.0 < k = omega (arith, q.1, room) in
          subst P (sym (get_or-take k (blocks book) q.0 0 low) ∙ q.2) (first_blocks l q.0 (omega arith) (omega arith)))

      pub by_blocks : (i : ℕ) → i < length book → P i
      by_blocks i l =
          let p = block_place i l in
          subst P p.2 (first_blocks (length book) p.0 (omega arith) p.1)

-- the order of blocks and the scopes of an accepted book
pub accepted_complete : (bytes : List ℕ) (n : ℕ) → judge bytes ≡ Ok n
    → CompleteOrder (calls (scopes_of bytes)) (length (scopes_of bytes)) (blocks (scopes_of bytes))
accepted_complete bytes n e =
    let a = accepted_book bytes n e in
    subst (λ (m : ℕ). CompleteOrder (calls (scopes_of bytes)) m (blocks (scopes_of bytes))) a.count a.block_order

pub accepted_formed : (bytes : List ℕ) (n : ℕ) → judge bytes ≡ Ok n → (i : ℕ) → i < length (scopes_of bytes)
    → WellFormed (scopes_of bytes) (scope_at (scopes_of bytes) i)
accepted_formed bytes n e i l = let a = accepted_book bytes n e in a.formed i (omega (arith, a.count))

module _ (bytes : List ℕ) (n : ℕ) (accepted : judge bytes ≡ Ok n) where
  abbrev book : List Scope
  book = scopes_of bytes

  below : (i : ℕ) → i < n → i < length book
  below i l = omega (arith, (accepted_book bytes n accepted).count)

  pub accepted_entered_same : (k l i : ℕ) → k ≤ l → l ≤ n → among (take k (blocks (scopes_of bytes))) i ≡ true → (given : List (Option Value))
      → enter (scopes_of bytes) (reverse (take l (blocks (scopes_of bytes)))) i given
      ≡ enter (scopes_of bytes) (reverse (take k (blocks (scopes_of bytes)))) i given
  accepted_entered_same k l i h m =
      entered_same book (accepted_complete bytes n accepted) falls_back k l i h (omega (arith, (accepted_book bytes n accepted).count))

  pub accepted_entered_whole : (k i : ℕ) → k ≤ n → among (take k (blocks (scopes_of bytes))) i ≡ true → (given : List (Option Value))
      → run_scope (scopes_of bytes) i given ≡ enter (scopes_of bytes) (reverse (take k (blocks (scopes_of bytes)))) i given
  accepted_entered_whole k i h =
      entered_whole book (accepted_complete bytes n accepted) falls_back k i (omega (arith, (accepted_book bytes n accepted).count))

  pub accepted_entered_place : (p l i : ℕ) → p < l → l ≤ n → get_or (blocks (scopes_of bytes)) p 0 ≡ i → (given : List (Option Value))
      → enter (scopes_of bytes) (reverse (take l (blocks (scopes_of bytes)))) i given ≡ run_scope (scopes_of bytes) i given
  accepted_entered_place p l i h m =
      entered_place book (accepted_complete bytes n accepted) falls_back p l i h (omega (arith, (accepted_book bytes n accepted).count))

  pub accepted_called_place : (p : ℕ) → p < n → (i : ℕ) → get_or (blocks (scopes_of bytes)) p 0 ≡ i
      → (k : ℕ) → k < length (scope_at (scopes_of bytes) i).sub_scopes
      → (q : ℕ) → q < n → get_or (blocks (scopes_of bytes)) q 0 ≡ get_or (scope_at (scopes_of bytes) i).sub_scopes k 0 → q < p
  accepted_called_place p l i e k h q r =
      called_place book (accepted_complete bytes n accepted) (accepted_formed bytes n accepted) p (below p l) i e k h q (below q r)

  pub accepted_entered_by : (by : Result Value Cause → Handed) (i : ℕ) → i < n → (given : List (Option Value))
      → run_scope_by by (scopes_of bytes) i given
      ≡ run_steps_by by (scopes_of bytes) (run_scope_by by (scopes_of bytes)) (scope_at (scopes_of bytes) i) given
      (step_order (scope_at (scopes_of bytes) i)) (begin (scope_at (scopes_of bytes) i))
  accepted_entered_by by i l = entered_steps book (accepted_complete bytes n accepted) (accepted_formed bytes n accepted) by i (below i l)

  pub accepted_entered_steps : (i : ℕ) → i < n → (given : List (Option Value))
      → run_scope (scopes_of bytes) i given
      ≡ run_steps (scopes_of bytes) (run_scope (scopes_of bytes)) (scope_at (scopes_of bytes) i) given
      (step_order (scope_at (scopes_of bytes) i)) (begin (scope_at (scopes_of bytes) i))
  accepted_entered_steps = accepted_entered_by falls_back

  pub accepted_entered_count : (i : ℕ) → i < n → (given : List (Option Value)) → 1 ≤ count_of (run_scope (scopes_of bytes) i given)
  accepted_entered_count i l = entered_count book (accepted_complete bytes n accepted) (accepted_formed bytes n accepted) i (below i l)

  pub accepted_entered_real : (i : ℕ) → i < n → (given : List (Option Value)) → run_scope (scopes_of bytes) i given ≡ ended Empty 0 → ⊥
  accepted_entered_real i l given e =
      let none : 1 ≤ 0 = subst (λ (r : Entered). 1 ≤ count_of r) e (accepted_entered_count i l given) in
      omega arith

  pub accepted_by_blocks : (P : ℕ → Type 0)
      → ((i : ℕ) → i < n
      → ((k : ℕ) → k < length (scope_at (scopes_of bytes) i).sub_scopes → P (get_or (scope_at (scopes_of bytes) i).sub_scopes k 0)) → P i)
      → (i : ℕ) → i < n → P i
  accepted_by_blocks P turn i l =
      by_blocks book (accepted_complete bytes n accepted) (accepted_formed bytes n accepted) P
      (λ j h. turn j (omega (arith, (accepted_book bytes n accepted).count)))
      i (below i l)
