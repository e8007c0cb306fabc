-- The orders of all scopes' steps, written one after the other into rows of 40 bytes.
--     Filling     what holds when the rows of the scopes below i are written; begin, fill, and the two ways out, stopped and filled
-- Assumes nothing.
use Prim.Native.Nat.{ℕ, suc, ◌<◌, ◌≤◌, ◌+◌, ◌-◌, ◌*◌}
use mathlib.Core.Path.{◌≡◌, refl, sym, ap, ◌∙◌}
use mathlib.Core.Bool.{true, false, ◌||◌, true≢false}
use mathlib.Core.List.{List, ◌++◌, append_assoc}
use mathlib.Core.Logic.{⊎_elim}
use native.Mathlib.Omega.{arith}
use native.Mathlib.Nat.{eq-or-lt_of_le}
use native.Mathlib.Numerals.{add-one}
use lib.ListN.{length, take, drop, drop_of_length-le}
use lib.Seq.{take_at, drop_at, drop-cons, length-take-le}
use borrow.Author.Tests.{eq-eqb, ne_eqb}
use Rattle.slices.proofs.Parts.{part_room, before_kept, lent_length}
use Rattle.book.specs.Lists.{any}
use Rattle.book.specs.Syntax.{Scope, empty_scope}
use Rattle.book.specs.References.{scope_at}
use Rattle.book.specs.Steps.{step_count, step_order, dependency_cycle_in, dependency_cycle}
use Rattle.book.specs.Limits.{Within}
use Rattle.steps.specs.Answers.{Written, StepsFilled}
use Rattle.steps.proofs.Orders.{few_steps}

-- row i begins with the order of scope i's steps
abbrev Row : List Scope → List ℕ → ℕ → Type 0
Row book orders i = take (step_count (scope_at book i)) (drop (i * 40) orders) ≡ step_order (scope_at book i)

pub record Filling (book : List Scope) (from orders : List ℕ) (i : ℕ) : Type 0 where
  pub at : i ≤ length book
  pub long : length orders ≡ length from
  pub left : any dependency_cycle_in (drop i book) ≡ dependency_cycle book
  pub rows : (j : ℕ) → j < i → Row book orders j

module _ (book : List Scope) (from : List ℕ) where
  pub begin : Filling book from from 0
  unfolding dependency_cycle
  begin = record { at = omega arith; long = refl; left = refl; rows = λ j l. absurd (omega arith) }

  module _ (orders : List ℕ) (i : ℕ) (g : Filling book from orders i) where
    here : i < length book → (dependency_cycle_in (scope_at book i) || any dependency_cycle_in (drop (suc i) book)) ≡ dependency_cycle book
    unfolding any
    here l = rw (drop-cons book i empty_scope l) at g.left

    pub stopped : i < length book → (n t : ℕ) → t ≡ length (step_order (scope_at book i)) → n ≡ step_count (scope_at book i) → (t ≡ n → ⊥)
        → (last : List ℕ) → StepsFilled book true last
    unfolding dependency_cycle_in
    stopped l n t et en d last =
        let s = scope_at book i in
        let whole : true ≡ dependency_cycle book = rw (ne_eqb (length (step_order s)) (step_count s) (λ e. d (et ∙ e ∙ sym en))) at (here l) in
        record { cycle = whole; rows = λ e. absurd (true≢false e) }

    pub filled : length book ≤ i → StepsFilled book false orders
    unfolding any
    filled l =
        record {
          cycle = rw (drop_of_length-le book l) at g.left;
          rows = λ e j m. g.rows j (omega arith);
        }

    module _ (bounded : Within book) (few : length book ≤ 32) (room : 1280 ≤ length from) (l : i < length book)
        (n t : ℕ) (part : List ℕ) (w : Written (step_order (scope_at book i)) (take (i * 40 + 40 - i * 40) (drop (i * 40) orders)) t part)
        (kept : length part ≡ length (take (i * 40 + 40 - i * 40) (drop (i * 40) orders)))
        (en : n ≡ step_count (scope_at book i)) (all : t ≡ n) where
      abbrev next : List ℕ
      next = take (i * 40) orders ++ (part ++ drop (i * 40 + 40 - i * 40) (drop (i * 40) orders))

      front : length (take (i * 40) orders) ≡ i * 40
      front = let long = g.long in length-take-le (i * 40) orders (omega arith)

      pub next_long : length next ≡ length from
      next_long =
          let long = g.long in
          lent_length orders part (i * 40) (i * 40 + 40 - i * 40)
          (kept ∙ part_room orders (i * 40) (i * 40 + 40 - i * 40) (omega arith) refl) (omega arith)
          ∙ long

      this : Row book next i
      this =
          let xs = step_order (scope_at book i) in
          let size : length xs ≡ step_count (scope_at book i) = sym w.count ∙ all ∙ en in
          let tail = drop (i * 40 + 40 - i * 40) (drop (i * 40) orders) in
          let rest = drop (length xs) (take (i * 40 + 40 - i * 40) (drop (i * 40) orders)) in
          ap (take (step_count (scope_at book i)))
          (drop_at (take (i * 40) orders) (part ++ tail) (i * 40) front
          ∙ ap (λ (p : List ℕ). p ++ tail) w.bytes
          ∙ append_assoc xs rest tail)
          ∙ take_at xs (rest ++ tail) (step_count (scope_at book i)) size

      others : (j : ℕ) → j < i → Row book next j
      others j m =
          let long = g.long in
          before_kept orders (i * 40) (part ++ drop (i * 40 + 40 - i * 40) (drop (i * 40) orders)) (j * 40) (step_count (scope_at book j))
          (omega arith) (omega (arith, few_steps book j bounded))
          ∙ g.rows j m

      pub fill : Filling book from next (i + 1)
      unfolding dependency_cycle_in
      fill =
          let s = scope_at book i in
          let size : length (step_order s) ≡ step_count s = sym w.count ∙ all ∙ en in
          record {
            at = omega arith;
            long = next_long;
            left = rw (add-one i) (rw (eq-eqb (length (step_order s)) (step_count s) size) at (here l));
            rows =
                λ j m.
                ⊎_elim (λ (e : j ≡ i). rw e this) (λ (h : j < i). others j h) (eq-or-lt_of_le {n = j} {m = i} (omega arith));
          }
