-- The code of an accepted book is accepted.
--     among_reverse       the same numbers stand in a list turned round
--     has_block_lem           the blocks of some scopes are those of these scopes
--     variables_of_lem        their variables are those of the scopes
--     weight_of_lem           their weights are those of the scopes
--     code_accepted_lem       the code of an accepted book is accepted
-- Assumes nothing.
use Prim.Native.Nat.{ℕ, zero, suc, ◌+◌, ◌<◌, ◌≤◌}
use mathlib.Core.Path.{◌≡◌, refl, sym, ap, subst, ◌∙◌}
use mathlib.Core.Bool.{true, false, not, ◌||◌, or-true, or-false, false≢true}
use mathlib.Core.List.{List, [], ◌∷◌, reverse, reverse_aux, reverse-append}
use mathlib.Core.Logic.{⊎_elim}
use native.Mathlib.Omega.{arith}
use lib.ListN.{length, get_or, take}
use lib.Seq.{take-suc, take_all}
use lib.Dec.{eqb}
use borrow.Author.Tests.{eqb-true, eq-eqb, lt-ltb, le-leb}
use Rattle.std.specs.Prelude.{Ok}
use Rattle.order.specs.Order.{among}
use Rattle.laws.proofs.Booleans.{decide, eqb_swap}
use Rattle.order.proofs.Among.{among_at}
use Rattle.book.specs.Lists.{any}
use Rattle.book.specs.Syntax.{Scope}
use Rattle.book.specs.Decode.{scopes_of}
use Rattle.book.specs.References.{scope_at, dangles}
use Rattle.book.specs.Trees.{tree}
use Rattle.book.specs.Typing.{target_type}
use Rattle.book.specs.Scopes.{blocks, weight}
use Rattle.book.specs.Steps.{step_order}
use Rattle.book.specs.Judge.{judge}
use Rattle.book.specs.declared.Target.{Target}
use Rattle.book.proofs.Searches.{any_none}
use Rattle.book.proofs.Sums.{sum_same}
use Rattle.book.proofs.Weights.{new_block, block_bound, called_before, weight_sum}
use Rattle.acceptance.proofs.Acceptance.{accepted_faultless}
use Rattle.acceptance.proofs.Orders.{accepted_book}
use Rattle.evaluation.specs.Types.{WellTyped}
use Rattle.evaluation.proofs.Entering.{steps_of}
use Rattle.evaluation.proofs.Trees.{tree_typed}
use Rattle.translation.specs.Code.{size}
use Rattle.translation.specs.Blocks.{steps_code, code_of}
use Rattle.translation.proofs.Runnable.{tree_runnable}
use Rattle.machine.specs.Blocks.{has_block, variables_of}
use Rattle.machine.specs.Acceptance.{all_fit, weight_in, well_formed, all_well_formed, accepted}
use Rattle.agreement.specs.Compiled.{compiled_block, compiled_in, compiled}
use Rattle.agreement.proofs.Parsing.{blocks_code_lem}
use Rattle.agreement.proofs.Fitting.{fits_steps}
use Rattle.agreement.proofs.Sound.{sound_code}

reversed : (xs ys : List ℕ) (v : ℕ) → among (reverse_aux xs ys) v ≡ (among xs v || among ys v)
unfolding among
reversed [] ys v = refl
reversed (x ∷ xs) ys v =
    reversed xs (x ∷ ys) v ∙ ⊎_elim (λ e. rw e (or-true (among xs v))) (λ e. rw e refl) (decide (eqb v x))

pub among_reverse : (xs : List ℕ) (v : ℕ) → among (reverse xs) v ≡ among xs v
unfolding among
among_reverse xs v = reversed xs [] v ∙ or-false (among xs v)

module _ (book : List Scope) where
  pub has_block_lem : (is : List ℕ) (i : ℕ) → has_block (compiled_in book is) i ≡ among is i
  unfolding has_block any compiled_in among
  has_block_lem [] i = refl
  has_block_lem (j ∷ is) i = rw (eqb_swap j i, has_block_lem is i)

  pub variables_of_lem : (is : List ℕ) (i : ℕ) → among is i ≡ true → variables_of (compiled_in book is) i ≡ (scope_at book i).variables
  unfolding variables_of compiled_in among
  variables_of_lem [] i m = absurd (false≢true m)
  variables_of_lem (j ∷ is) i m =
      ⊎_elim
      (λ (q : eqb j i ≡ true). rw q (ap (λ (n : ℕ). (scope_at book n).variables) (eqb-true j i q)))
      (λ (q : eqb j i ≡ false).
      let later : among is i ≡ true = rw (eqb_swap i j, q) at m in
      rw q (variables_of_lem is i later))
      (decide (eqb j i))

  -- numbers of scopes, last block first: none twice, each before all that its sub-scopes name
  abbrev pub Ordered : List ℕ → Type 0
  Ordered [] = Unit {0}
  Ordered (i ∷ earlier) =
      (i < length book)
      × (among earlier i ≡ false)
      × ((j : ℕ) → among (scope_at book i).sub_scopes j ≡ true → among earlier j ≡ true)
      × Ordered earlier

  module _ (whole : length (blocks book) ≡ length book) (named : dangles book ≡ false) where
    first_blocks : (k : ℕ) → k ≤ length book → Ordered (reverse (take k (blocks book)))
    first_blocks zero l = tt
    first_blocks (suc k) l =
        let before = take k (blocks book) in
        let i = get_or (blocks book) k 0 in
        subst Ordered (sym (ap reverse (take-suc (blocks book) k 0 (omega arith)) ∙ reverse-append before (i ∷ []))) (
          block_bound book whole k l,
          among_reverse before i ∙ new_block book whole k l,
          λ j m. among_reverse before j ∙ called_before book whole named k l j m,
          first_blocks k (omega arith),
        )

    pub blocks_ordered : Ordered (reverse (blocks book))
    blocks_ordered = rw (← take_all (length book) (blocks book) (omega arith)) (first_blocks (length book) (omega arith))

    pub weight_of_lem : (is : List ℕ) → Ordered is → (i : ℕ) → among is i ≡ true → weight_in (compiled_in book is) i ≡ weight book i
    unfolding weight_in compiled_in among
    weight_of_lem [] o i m = absurd (false≢true m)
    weight_of_lem (j ∷ is) o i m =
        ⊎_elim
        (λ (q : eqb j i ≡ true).
        rw q
        (ap suc (sum_same (weight_in (compiled_in book is)) (weight book) (scope_at book j).sub_scopes (λ n c. weight_of_lem is o.3 n (o.2 n c)))
        ∙ sym (weight_sum book whole named j o.0)
        ∙ ap (weight book) (eqb-true j i q)))
        (λ (q : eqb j i ≡ false).
        let later : among is i ≡ true = rw (eqb_swap i j, q) at m in
        rw q (weight_of_lem is o.3 i later))
        (decide (eqb j i))

    module _ (few : length book ≤ 32) (light : (i : ℕ) → i < length book → weight book i ≤ 4096)
        (typed : (i : ℕ) → i < length book → (t : Target) → WellTyped book (scope_at book i) (tree (scope_at book i) t) (target_type book (scope_at book i) t))
        (near : (i : ℕ) → i < length book → (t : Target) → size (tree (scope_at book i) t) + 4 < 65536) where
      well_formed_lem : (is : List ℕ) (i : ℕ) → Ordered (i ∷ is) → well_formed (compiled_in book is) (compiled_block book i) ≡ true
      unfolding well_formed all_fit among compiled_in
      well_formed_lem is i o =
          let s = scope_at book i in
          let earlier = compiled_in book is in
          let there : (k : ℕ) → k < length s.sub_scopes → among is (get_or s.sub_scopes k 0) ≡ true =
          λ k l. o.2 (get_or s.sub_scopes k 0) (among_at s.sub_scopes k l) in
          let fit : all_fit earlier (compiled_block book i) (steps_code book s (step_order s) []) 0 ≡ true =
          fits_steps book i earlier (λ k l. variables_of_lem is (get_or s.sub_scopes k 0) (there k l)) (typed i o.0) (near i o.0)
          (step_order s) (steps_of s) [] in
          let called : any (λ j. not (has_block earlier j)) s.sub_scopes ≡ false =
          any_none (λ j. not (has_block earlier j)) s.sub_scopes 0
          (λ k l. ap not (has_block_lem is (get_or s.sub_scopes k 0) ∙ there k l)) in
          let weighs : weight_in (compiled_block book i ∷ earlier) i ≤ 4096 =
          subst (λ (n : ℕ). n ≤ 4096) (sym (weight_of_lem (i ∷ is) o i (rw (eq-eqb i i refl)))) (light i o.0) in
          rw (
            lt-ltb i 32 (omega (arith, o.0)),
            has_block_lem is i ∙ o.1,
            called,
            fit,
            le-leb (weight_in (compiled_block book i ∷ earlier) i) 4096 weighs,
          )

      all_well_formed_lem : (is : List ℕ) → Ordered is → all_well_formed (compiled_in book is) ≡ true
      unfolding all_well_formed compiled_in
      all_well_formed_lem [] o = refl
      all_well_formed_lem (i ∷ is) o = rw (well_formed_lem is i o, all_well_formed_lem is o.3)

      pub compiled_well_formed : all_well_formed (compiled book) ≡ true
      unfolding compiled
      compiled_well_formed = all_well_formed_lem (reverse (blocks book)) blocks_ordered

pub code_accepted_lem : (bytes : List ℕ) (n : ℕ) → judge bytes ≡ Ok n → accepted (code_of (scopes_of bytes)) ≡ true
unfolding accepted
code_accepted_lem bytes n e =
    let book = scopes_of bytes in
    let a = accepted_book bytes n e in
    let count : n ≡ length book = a.count in
    rw (
      sound_code book a.within,
      blocks_code_lem book,
      compiled_well_formed book (a.block_order.count ∙ count) (accepted_faultless bytes n e).named (omega (arith, a.scopes))
          (λ i l. a.weights i (omega arith))
          (λ i l t. tree_typed book (scope_at book i) (a.formed i (omega arith)) (omega (arith, (a.within i).clauses)) t)
          (λ i l t. (tree_runnable bytes n e i (omega arith) t).near),
    )
