-- The blocks of a book's code do what its scopes do.
--     code_scopes         the scopes of an accepted book are those with a block in its code
--     code_variables      whose variables are the scope's
--     code_run            entering the block comes to what entering the scope comes to
-- Assumes nothing.
use Prim.Native.Nat.{ℕ, ◌<◌, ◌≤◌}
use mathlib.Core.Path.{◌≡◌, refl, sym, ap, subst, ◌∙◌}
use mathlib.Core.Bool.{true, false, false≢true}
use mathlib.Core.List.{List, [], ◌∷◌, reverse}
use mathlib.Core.Logic.{⊎_elim}
use native.Mathlib.Omega.{arith}
use lib.ListN.{length, get_or}
use lib.Dec.{eqb, ltb}
use borrow.Author.Tests.{eqb-true, ltb-true, ltb-false}
use Rattle.std.specs.Prelude.{Option, Ok}
use Rattle.order.specs.Order.{among}
use Rattle.laws.proofs.Booleans.{decide, eqb_swap}
use Rattle.order.proofs.Among.{among_at, among_place}
use Rattle.book.specs.Syntax.{Scope}
use Rattle.book.specs.Decode.{scopes_of}
use Rattle.book.specs.References.{scope_at}
use Rattle.book.specs.Scopes.{blocks}
use Rattle.book.specs.Steps.{step_order}
use Rattle.book.specs.Judge.{judge}
use Rattle.book.specs.declared.Variable.{Variable}
use Rattle.acceptance.proofs.Acceptance.{accepted_faultless}
use Rattle.acceptance.proofs.Orders.{accepted_book}
use Rattle.evaluation.specs.Run as evaluation
use Rattle.evaluation.specs.Run.{run_scope}
use Rattle.evaluation.specs.Types.{Fitting}
use Rattle.evaluation.specs.Readiness.{Reached}
use Rattle.evaluation.proofs.Entering.{accepted_entered_steps}
use Rattle.translation.proofs.Runnable.{tree_runnable}
use Rattle.machine.specs.Blocks.{has_block, variables_of}
use Rattle.machine.specs.Machine.{ran}
use Rattle.machine.specs.Run.{type_in, surroundings, begin, exec, run_in}
use Rattle.agreement.specs.Compiled.{compiled_block, compiled_in, compiled}
use Rattle.agreement.specs.Related.{SameSurroundings}
use Rattle.agreement.proofs.Accepting.{among_reverse, has_block_lem, variables_of_lem, Ordered, blocks_ordered}
use Rattle.agreement.proofs.Memory.{related_begin}
use Rattle.agreement.proofs.Steps.{steps_run}
use Rattle.calculus.specs.declared.Value.{Value}

module _ (bytes : List ℕ) (n : ℕ) (accepted : judge bytes ≡ Ok n) where
  abbrev book : List Scope
  book = scopes_of bytes

  -- entering the block of a scope comes to what entering the scope comes to, with the blocks of these scopes
  abbrev Enters : List ℕ → Type 0
  Enters is = (i : ℕ) → among is i ≡ true → (gs : List (Option Value)) → Fitting (scope_at book i).variables gs
      → run_in (compiled_in book is) i gs ≡ ran (run_scope book i gs)

  -- the last of the blocks
  last_run : (b : ℕ) (is : List ℕ) → Ordered book (b ∷ is) → Enters is → (gs : List (Option Value)) → Fitting (scope_at book b).variables gs
      → exec (surroundings (compiled_in book is) (compiled_block book b) (λ j hs. run_in (compiled_in book is) j hs))
      (compiled_block book b).body 0 [] [] (begin (compiled_in book is) (compiled_block book b) gs)
      ≡ ran (run_scope book b gs)
  last_run b is ordered earlier gs fitting =
      let s = scope_at book b in
      let behind = compiled_in book is in
      let low : b < n = omega (arith, ordered.0, (accepted_book bytes n accepted).count) in
      let there : (c : ℕ) → c < length s.sub_scopes → among is (get_or s.sub_scopes c 0) ≡ true =
      λ c l. ordered.2 (get_or s.sub_scopes c 0) (among_at s.sub_scopes c l) in
      let known : (c : ℕ) → c < length s.sub_scopes
      → variables_of behind (get_or s.sub_scopes c 0) ≡ (scope_at book (get_or s.sub_scopes c 0)).variables =
      λ c l. variables_of_lem book is (get_or s.sub_scopes c 0) (there c l) in
      let env = surroundings behind (compiled_block book b) (λ j hs. run_in behind j hs) in
      let same : SameSurroundings book (run_scope book) s env =
      record {
        own_types = λ x. refl;
        called_types = λ c l x. ap (λ (xs : List Variable). type_in xs x) (known c l);
        enters = λ c l. earlier (get_or s.sub_scopes c 0) (there c l);
      } in
      steps_run bytes n accepted b low gs fitting env same (tree_runnable bytes n accepted b low)
      (step_order s) [] (evaluation.begin s) (begin behind (compiled_block book b) gs) refl Reached.start
      (related_begin book b behind gs fitting known)
      ∙ ap ran (sym (accepted_entered_steps bytes n accepted b low gs))

  blocks_run : (is : List ℕ) → Ordered book is → Enters is
  unfolding run_in compiled_in among
  blocks_run [] ordered i e gs fitting = absurd (false≢true e)
  blocks_run (b ∷ is) ordered i e gs fitting =
      ⊎_elim
      (λ (q : eqb b i ≡ true).
      let here : b ≡ i = eqb-true b i q in
      rw q
      (last_run b is ordered (blocks_run is ordered.3) gs (subst (λ (j : ℕ). Fitting (scope_at book j).variables gs) (sym here) fitting)
      ∙ ap (λ (j : ℕ). ran (run_scope book j gs)) here))
      (λ (q : eqb b i ≡ false). rw q (blocks_run is ordered.3 i (rw (eqb_swap i b, q) at e) gs fitting))
      (decide (eqb b i))

  every_scope : (i : ℕ) → i < n → among (reverse (blocks book)) i ≡ true
  every_scope i l = among_reverse (blocks book) i ∙ (accepted_book bytes n accepted).block_order.every i l

  pub code_run : (i : ℕ) → i < n → (gs : List (Option Value)) → Fitting (scope_at (scopes_of bytes) i).variables gs
      → run_in (compiled (scopes_of bytes)) i gs ≡ ran (run_scope (scopes_of bytes) i gs)
  unfolding compiled
  code_run i l =
      let a = accepted_book bytes n accepted in
      blocks_run (reverse (blocks book)) (blocks_ordered book (a.block_order.count ∙ a.count) (accepted_faultless bytes n accepted).named)
      i (every_scope i l)

  pub code_variables : (i : ℕ) → i < n → variables_of (compiled (scopes_of bytes)) i ≡ (scope_at (scopes_of bytes) i).variables
  unfolding compiled
  code_variables i l = variables_of_lem book (reverse (blocks book)) i (every_scope i l)

  pub code_scopes : (i : ℕ) → has_block (compiled (scopes_of bytes)) i ≡ ltb i n
  unfolding compiled
  code_scopes i =
      has_block_lem book (reverse (blocks book)) i
      ∙ ⊎_elim
      (λ (q : ltb i n ≡ true). every_scope i (ltb-true i n q) ∙ sym q)
      (λ (q : ltb i n ≡ false). among_reverse (blocks book) i ∙ outside (ltb-false i n q) ∙ sym q)
      (decide (ltb i n))
    where
      outside : n ≤ i → among (blocks book) i ≡ false
      outside h =
          ⊎_elim
          (λ (q : among (blocks book) i ≡ true).
          let p = among_place (blocks book) i q in
          absurd (omega (arith, h, p.2, (accepted_book bytes n accepted).block_order.below p.0 p.1)))
          (λ (q : among (blocks book) i ≡ false). q)
          (decide (among (blocks book) i))
