-- What the directory of accepted code says of a block and of the blocks that it enters.
-- Assumes nothing.
use Prim.Native.Nat.{ℕ, suc, ◌<◌, ◌≤◌}
use mathlib.Core.Path.{◌≡◌, refl, ap, sym, ◌∙◌}
use mathlib.Core.Bool.{true, not, cond, true≢false}
use mathlib.Core.List.{List, [], ◌∷◌, reverse}
use native.Mathlib.Omega.{arith}
use lib.ListN.{length, get_or}
use lib.Dec.{eqb, ltb}
use borrow.Author.Tests.{eq-eqb, ltb-true, leb-true}
use Rattle.std.specs.Prelude.{Option}
use Rattle.laws.proofs.Booleans.{both}
use Rattle.book.specs.Lists.{any}
use Rattle.book.specs.Scopes.{sum}
use Rattle.book.specs.declared.Variable.{Variable}
use Rattle.machine.specs.Instructions.{Instruction, push, read_own, read_called, unary, binary, raise, jump, jump_if_no, begin_try, end_try, push_nothing, join, settle, store, override, enter, jump_if_given, unknown}
use Rattle.machine.specs.Blocks.{Block, empty_block, parse, blocks_of, has_block, variables_of}
use Rattle.machine.specs.Acceptance.{start, sound, fits, all_fit, weight_in, well_formed, all_well_formed, accepted}
use Rattle.machine.specs.Run as run
use Rattle.machine.specs.Run.{exec, begin, surroundings, run_in}
use Rattle.directory.specs.Tabled.{block_at, block_count, Entered, Tabled}
use Rattle.directory.specs.Layout.{place_in, variables_in, sub_scopes_in, type_in, block_in, size_in}
use Rattle.instructions.specs.Effects.{Typing, Bounded, Named}
use Rattle.blocks.specs.Entries.{back, run_at}
use Rattle.blocks.proofs.Invariant.{run_cons, run_within, Within, weight_cons}
use Rattle.blocks.proofs.Blocks.{back_all, formed_below, formed_at, found_at}
use Rattle.blocks.proofs.Limits.{limits}
use Rattle.calculus.specs.declared.Value.{Value}

variables_step : (c : Block) (xs : List Block) (i : ℕ) → variables_of (c ∷ xs) i ≡ cond (eqb c.scope i) c.variables (variables_of xs i)
unfolding variables_of
variables_step c xs i = refl

-- accepted code with its directory
pub record World (code directory : List ℕ) : Type 0 where
  pub accepts : accepted code ≡ true
  pub tabled : Tabled code directory (block_count code)

module _ {code directory : List ℕ} (o : World code directory) where
  abbrev pub bs : List Block
  bs = (parse code 0).blocks

  pub formed : all_well_formed (back bs (block_count code)) ≡ true
  unfolding accepted blocks_of block_count
  formed = rw (back_all bs) (both (sound code 0 start) (all_well_formed (reverse bs)) o.accepts).1

  module _ (p : ℕ) (l : p < block_count code) where
    abbrev pub b : Block
    b = get_or bs p empty_block

    abbrev pub earlier : List Block
    earlier = back bs p

    is_block : block_at code p ≡ b
    unfolding block_at
    is_block = refl

    pub small : p < 32
    small = let f = o.tabled.few in omega arith

    record_of_lem : Entered code directory p
    record_of_lem = o.tabled.blocks p l

    well : well_formed earlier b ≡ true
    well = formed_at bs (block_count code) p l formed

    parts : (ltb b.scope 32 ≡ true) × (not (any (λ i. not (has_block earlier i)) b.sub_scopes) ≡ true) × (all_fit earlier b b.body 0 ≡ true) × (weight_in (b ∷ earlier) b.scope ≤ 4096)
    unfolding well_formed
    parts =
        let a = both (ltb b.scope 32) _ well in
        let c = both (not (has_block earlier b.scope)) _ a.1 in
        let d = both (not (any (λ i. not (has_block earlier i)) b.sub_scopes)) _ c.1 in
        let e = both (all_fit earlier b b.body 0) _ d.1 in
        (a.0, d.0, e.0, leb-true (weight_in (b ∷ earlier) b.scope) 4096 e.1)

    pub fit : all_fit earlier b b.body 0 ≡ true
    fit = parts.2

    pub heavy : suc (sum (weight_in earlier) b.sub_scopes) ≤ 4096
    heavy = rw (weight_cons b earlier b.scope, eq-eqb b.scope b.scope refl) at parts.3

    pub below : (j : ℕ) (gs : List (Option Value)) → Within (run_in earlier j gs) (weight_in earlier j)
    below = run_within earlier (formed_below bs (block_count code) p (omega arith) formed)

    pub variables_are : variables_in directory p ≡ length b.variables
    unfolding block_at
    variables_are = record_of_lem.declares.number

    pub subs_are : sub_scopes_in directory p ≡ length b.sub_scopes
    unfolding block_at
    subs_are = record_of_lem.sub_scopes

    -- the block of sub-scope k
    module _ (k : ℕ) (m : k < length b.sub_scopes) where
      abbrev pub i : ℕ
      i = get_or b.sub_scopes k 0

      placed : (q : ℕ) → q < block_count code → (get_or bs q empty_block).scope ≡ i → place_in directory i ≡ suc q
      unfolding block_at
      placed q n e = rw e at (o.tabled.found q n)

      pub callee_below : block_in directory p k < p
      unfolding block_at
      callee_below = record_of_lem.earlier k m

      callee_scope : (get_or bs (block_in directory p k) empty_block).scope ≡ i
      unfolding block_at
      callee_scope = record_of_lem.subs k m

      one : (r : ℕ) → r < p → (get_or bs r empty_block).scope ≡ i → r ≡ block_in directory p k
      one r n e =
          let c = callee_below in
          let f = placed r (omega arith) e in
          let g = placed (block_in directory p k) (omega arith) callee_scope in
          omega arith

      pub callee_variables : variables_of earlier i ≡ (get_or bs (block_in directory p k) empty_block).variables
      callee_variables = found_at bs i (λ xs. variables_of xs i) (λ c xs. c.variables) (λ c xs. variables_step c xs i) (block_in directory p k) callee_scope p callee_below one

      pub callee_runs : (gs : List (Option Value)) → run_in earlier i gs ≡ run_at code (block_in directory p k) gs
      unfolding run_at block_at back
      callee_runs gs =
          let q = block_in directory p k in
          found_at bs i (λ xs. run_in xs i gs)
          (λ c xs. exec (surroundings xs c (λ j handed. run_in xs j handed)) c.body 0 [] [] (begin xs c gs)) (λ c xs. run_cons c xs i gs) q callee_scope p callee_below one
          ∙ sym (run_cons (get_or bs q empty_block) (back bs q) (get_or bs q empty_block).scope gs ∙ rw (eq-eqb (get_or bs q empty_block).scope (get_or bs q empty_block).scope refl))

      pub size_is : size_in directory p k ≡ length (variables_of earlier i)
      unfolding size_in block_at
      size_is = let c = callee_below in (o.tabled.blocks (block_in directory p k) (omega arith)).declares.number ∙ sym (ap length callee_variables)

      pub callee_type : (x : ℕ) → x < size_in directory p k → type_in directory (block_in directory p k) x ≡ run.type_in (variables_of earlier i) x
      unfolding block_at
      callee_type x n =
          let c = callee_below in
          let z : x < length (get_or bs (block_in directory p k) empty_block).variables = rw (← callee_variables, ← size_is) n in
          (o.tabled.blocks (block_in directory p k) (omega arith)).declares.types x z ∙ ap (λ (vs : List Variable). run.type_in vs x) (sym callee_variables)

    pub bounded : Bounded directory p
    bounded =
        let f = limits code o.accepts p in
        record {
          block = small;
          variables = rw variables_are f.0;
          sub_scopes = rw subs_are f.1;
          sizes = λ k n.
              let m : k < length b.sub_scopes = rw (← subs_are) n in
              let c = callee_below k m in
              let g = limits code o.accepts (block_in directory p k) in
              let s = small in
              (omega arith, rw (size_is k m, callee_variables k m) g.0);
        }

    pub typing : Typing (surroundings earlier b (λ j handed. run_in earlier j handed)) directory p
    unfolding block_at
    typing =
        record {
          own = λ x n. sym (record_of_lem.declares.types x (rw (← variables_are) n));
          called = λ k x n m. sym (callee_type k (rw (← subs_are) n) x m);
        }

    pub named : (i : Instruction) (after : List ℕ) → fits earlier b i after ≡ true → Named directory p i
    unfolding fits
    named (push v) after e = tt
    named (read_own x) after e = rw variables_are (ltb-true x (length b.variables) e)
    named (read_called k x) after e =
        let f = both (ltb k (length b.sub_scopes)) _ e in
        let n = ltb-true k (length b.sub_scopes) f.0 in
        (rw subs_are n, rw (size_is k n) (ltb-true x (length (variables_of earlier (get_or b.sub_scopes k 0))) f.1))
    named (unary op) after e = tt
    named (binary op) after e = tt
    named (raise c) after e = tt
    named (jump d) after e = tt
    named (jump_if_no d) after e = tt
    named (begin_try d) after e = tt
    named end_try after e = tt
    named push_nothing after e = tt
    named join after e = tt
    named (settle d) after e = tt
    named (store x) after e = rw variables_are (ltb-true x (length b.variables) e)
    named (override k x) after e =
        let f = both (ltb k (length b.sub_scopes)) _ e in
        let n = ltb-true k (length b.sub_scopes) f.0 in
        (rw subs_are n, rw (size_is k n) (ltb-true x (length (variables_of earlier (get_or b.sub_scopes k 0))) f.1))
    named (enter k) after e = rw subs_are (ltb-true k (length b.sub_scopes) e)
    named (jump_if_given x d) after e = rw variables_are (ltb-true x (length b.variables) (both (ltb x (length b.variables)) _ e).0)
    named unknown after e = absurd (true≢false (sym e))
