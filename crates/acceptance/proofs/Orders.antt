-- The orders of an accepted book: of its blocks, and of the steps of each scope.
--     complete_order         an order that lacks no vertex is complete
--     blocks_complete        the order of blocks holds every scope exactly once, each after all scopes that its sub-scopes name
--     blocks_after           a scope's block stands after that of each of its sub-scopes
--     steps_complete         the order of steps holds every step exactly once, each after all that it depends on
--     accepted_book          all that is so in an accepted book
-- Assumes nothing.
use Prim.Native.Nat.{ℕ, ◌<◌}
use mathlib.Core.Path.{◌≡◌, sym, ap, ◌∙◌}
use mathlib.Core.Bool.{Bool, true, false, false≢true}
use mathlib.Core.List.{List}
use mathlib.Core.Logic.{⊎_elim}
use native.Mathlib.Omega.{arith}
use native.Mathlib.Nat.{eq-or-lt_of_le}
use lib.ListN.{length, get_or, take}
use lib.Seq.{get_or-take, length-take-le}
use lib.Dec.{ltb}
use borrow.Author.Tests.{eqb-true, ltb-true, ltb-false, not-false}
use Rattle.std.specs.Prelude.{Ok}
use Rattle.order.specs.Order.{order, among}
use Rattle.laws.proofs.Booleans.{decide}
use Rattle.order.proofs.Order.{order_all, order_no_repeats, order_after_dependencies}
use Rattle.book.specs.Syntax.{Scope, empty_scope}
use Rattle.book.specs.Decode.{scopes_of}
use Rattle.book.specs.References.{scope_at}
use Rattle.book.specs.Scopes.{calls, blocks, scope_cycle}
use Rattle.book.specs.Steps.{depends_on, step_count, step_order, dependency_cycle_in, dependency_cycle}
use Rattle.book.specs.Judge.{judge}
use Rattle.acceptance.specs.Accepted.{WellFormed, CompleteOrder, AcceptedBook}
use Rattle.order.proofs.Among.{among_at}
use Rattle.book.proofs.Searches.{any_false}
use Rattle.acceptance.proofs.Acceptance.{accepted_faultless, accepted_count}
use Rattle.acceptance.proofs.Limits.{accepted_within, accepted_scopes, accepted_size}
use Rattle.acceptance.proofs.WellFormed.{faultless_formed, faultless_weight}

module _ (edge : ℕ → ℕ → Bool) (n : ℕ) where
  earlier : (i j : ℕ) → i < j → j < length (order edge n) → get_or (order edge n) i 0 ≡ get_or (order edge n) j 0 → ⊥
  earlier i j l h e =
      let xs = order edge n in
      let room : length (take j xs) ≡ j = length-take-le j xs (omega arith) in
      let there : among (take j xs) (get_or (take j xs) i 0) ≡ true = among_at (take j xs) i (omega arith) in
      false≢true (sym (order_no_repeats edge n j h).1 ∙ ap (among (take j xs)) (sym e ∙ sym (get_or-take j xs i 0 l)) ∙ there)

  pub complete_order : length (order edge n) ≡ n → CompleteOrder edge n (order edge n)
  complete_order full =
      record {
        count = full;
        below = λ i h. (order_no_repeats edge n i h).0;
        every = (order_all edge n).0 full;
        once = once;
        after = order_after_dependencies edge n;
      }
    where
      once : (i j : ℕ) → i < length (order edge n) → j < length (order edge n) → get_or (order edge n) i 0 ≡ get_or (order edge n) j 0 → i ≡ j
      once i j l h e =
          ⊎_elim
          (λ q. absurd (earlier i j (ltb-true i j q) h e))
          (λ q.
          ⊎_elim
          (λ (p : j ≡ i). sym p)
          (λ (p : j < i). absurd (earlier j i p l (sym e)))
          (eq-or-lt_of_le (ltb-false i j q)))
          (decide (ltb i j))

pub blocks_complete : (book : List Scope) → scope_cycle book ≡ false → CompleteOrder (calls book) (length book) (blocks book)
unfolding scope_cycle blocks
blocks_complete book e =
    complete_order (calls book) (length book)
    (eqb-true (length (order (calls book) (length book))) (length book) (not-false _ e))

pub steps_complete : (s : Scope) → dependency_cycle_in s ≡ false → CompleteOrder (depends_on s) (step_count s) (step_order s)
unfolding dependency_cycle_in step_order
steps_complete s e =
    complete_order (depends_on s) (step_count s)
    (eqb-true (length (order (depends_on s) (step_count s))) (step_count s) (not-false _ e))

-- a scope that block j is of calls what each of its sub-scopes names
pub blocks_after : (book : List Scope) → CompleteOrder (calls book) (length book) (blocks book)
    → ((i : ℕ) → i < length book → WellFormed book (scope_at book i))
    → (j : ℕ) → j < length book → (k : ℕ) → k < length (scope_at book (get_or (blocks book) j 0)).sub_scopes
    → among (take j (blocks book)) (get_or (scope_at book (get_or (blocks book) j 0)).sub_scopes k 0) ≡ true
unfolding calls
blocks_after book c w j l k h =
    let b = get_or (blocks book) j 0 in
    let in_blocks : j < length (blocks book) = omega (arith, c.count) in
    let known : b < length book = c.below j in_blocks in
    c.after j in_blocks (get_or (scope_at book b).sub_scopes k 0) ((w b known).sub_scopes_named k h) (among_at (scope_at book b).sub_scopes k h)

pub accepted_book : (bytes : List ℕ) (n : ℕ) → judge bytes ≡ Ok n → AcceptedBook bytes n
unfolding dependency_cycle
accepted_book bytes n e =
    let f = accepted_faultless bytes n e in
    let count = accepted_count bytes n e in
    let book = scopes_of bytes in
    record {
      count = count;
      size = accepted_size bytes n e;
      scopes = accepted_scopes bytes n e;
      within = accepted_within bytes n e;
      formed = λ i l. faultless_formed bytes f i (omega arith);
      weights = λ i l. faultless_weight bytes f i (omega arith);
      block_order = rw count (blocks_complete book f.callable);
      step_orders = λ i l. steps_complete (scope_at book i) (any_false dependency_cycle_in book f.doable i (omega arith) empty_scope);
    }
