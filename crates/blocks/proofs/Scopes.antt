-- The scopes of accepted code, by the directory; what a block's cells and values are.
--     has_none, has_one              whether a scope has a block
--     scope_variables_lem, scope-runs    its variables, and its run
--     few_variables                  a block has 32 variables at most
--     givens_are, values-are         cells as lists
--     givens_fit                     what fits the variables fits the cells of a run
--     values_length                  the values of a run have the results' length known before it
-- Assumes nothing.
use Prim.Native.Nat.{ℕ, zero, suc, ◌+◌, ◌-◌, ◌<◌, ◌≤◌}
use mathlib.Core.Path.{◌≡◌, refl, ap, sym, ◌∙◌}
use mathlib.Core.Bool.{true, false, cond}
use mathlib.Core.List.{List, [], ◌∷◌}
use mathlib.Core.Logic.{⊎_elim}
use native.Mathlib.Omega.{arith}
use lib.ListN.{length, get_or}
use lib.Dec.{eqb}
use borrow.Author.Tests.{eq-eqb}
use Rattle.std.specs.Prelude.{Option, None, Some}
use Rattle.laws.proofs.Booleans.{decide}
use Rattle.calculus.specs.declared.Value.{Value}
use Rattle.cells.specs.Cells.{given_of, given_at, held}
use Rattle.book.specs.Lists.{any}
use Rattle.book.specs.Syntax.{same_type}
use Rattle.book.specs.declared.ValueType.{ValueType}
use Rattle.book.specs.declared.ValueType.TheVariants.{YesNo, Numeric}
use Rattle.book.specs.declared.Variable.{Variable}
use Rattle.lists.specs.Results.{result_length, results}
use Rattle.lists.specs.Writing.{values_from, values_of}
use Rattle.lists.proofs.Lengths.{results_length}
use Rattle.evaluation.specs.Run.{values}
use Rattle.evaluation.specs.Types.{MayHold, Fitting}
use Rattle.machine.specs.Blocks.{Block, empty_block, parse, blocks_of, has_block, variables_of}
use Rattle.machine.specs.Acceptance.{accepted}
use Rattle.machine.specs.Machine.{ran}
use Rattle.machine.specs.Run.{exec, begin, surroundings, run_in, cell_of}
use Rattle.directory.specs.Layout.{place_in}
use Rattle.directory.specs.Tabled.{block_at, block_count, Tabled}
use Rattle.instructions.specs.Views.{tab, givens_at, values_in}
use Rattle.blocks.specs.Entries.{back, run_at}
use Rattle.blocks.proofs.Invariant.{CellFits, GivensFit, run_cons}
use Rattle.blocks.proofs.Blocks.{back_all, has_place, found_at}
use Rattle.blocks.proofs.Limits.{limits}
use Rattle.blocks.proofs.Typed.{run_typed}

-- Cells

tab_list : {A : Type 0} (f : ℕ → A) (v : ℕ) (xs : List A) (d : A) → ((x : ℕ) → f (v + x) ≡ get_or xs x d) → tab f v (length xs) ≡ xs
unfolding tab
tab_list f v [] d h = refl
tab_list f v (y ∷ xs) d h =
    let e : v + 0 ≡ v = omega arith in
    let here : f v ≡ y = ap f (sym e) ∙ h 0 in
    rw (here, tab_list f (suc v) xs d (λ x. let z : suc v + x ≡ v + suc x = omega arith in ap f z ∙ h (suc x)))

pub givens_are : (cells : List ℕ) (gs : List (Option Value)) → ((x : ℕ) → given_at cells x ≡ get_or gs x None) → givens_at cells 0 (length gs) ≡ gs
unfolding givens_at given_at
givens_are cells gs h =
    tab_list (λ x. given_of (get_or cells (0 + x) 0)) 0 gs None (λ x. let z : 0 + (0 + x) ≡ x = omega arith in ap (λ (i : ℕ). given_of (get_or cells i 0)) z ∙ h x)

values_from_lem : (cells : List ℕ) (v n : ℕ) → tab (λ x. held (given_of (get_or cells (0 + x) 0))) v n ≡ values_from cells v n
unfolding tab values_from given_at
values_from_lem cells v zero = refl
values_from_lem cells v (suc n) = let z : 0 + v ≡ v = omega arith in rw (z, values_from_lem cells (suc v) n)

pub values_are : (cells : List ℕ) (n : ℕ) → values_in cells 0 n ≡ values_of cells n
unfolding values_in values_of
values_are cells n = values_from_lem cells 0 n

-- what is given, as cells of the machine
same_refl : (t : ValueType) → same_type t t ≡ true
same_refl YesNo = refl
same_refl Numeric = refl

cell_fits : (t : ValueType) (g : Option Value) → MayHold t g → CellFits t (cell_of g)
cell_fits t None h = tt
cell_fits t (Some v) h = ap (same_type t) h ∙ same_refl t

pub givens_fit : (xs : List Variable) (gs : List (Option Value)) → Fitting xs gs → GivensFit xs gs
givens_fit [] [] h = tt
givens_fit [] (g ∷ gs) h = absurd h
givens_fit (x ∷ xs) [] h = absurd h
givens_fit (x ∷ xs) (g ∷ gs) h = (cell_fits x.holds g h.0, givens_fit xs gs h.1)

-- Blocks

pub few_variables : (code : List ℕ) → accepted code ≡ true → (p : ℕ) → length (block_at code p).variables ≤ 32
unfolding block_at
few_variables code e p = (limits code e p).0

module _ {code directory : List ℕ} (e : accepted code ≡ true) (t : Tabled code directory (block_count code)) where
  pub values_length : (p : ℕ) → p < block_count code → (gs : List (Option Value)) → Fitting (block_at code p).variables gs
      → (vs : List Value) (n : ℕ) → run_at code p gs ≡ ran (values vs n) → length (results vs) ≡ result_length (block_at code p).variables
  unfolding block_at
  values_length p l gs f vs n r =
      results_length (block_at code p).variables vs
      (run_typed (record { accepts = e; tabled = t }) p l gs (givens_fit (block_at code p).variables gs f) vs n r)

  abbrev bs : List Block
  bs = (parse code 0).blocks

  as_back : blocks_of code ≡ back bs (block_count code)
  unfolding blocks_of block_count
  as_back = sym (back_all bs)

  -- no place, no block
  pub has_none : (i : ℕ) → place_in directory i ≡ 0 → has_block (blocks_of code) i ≡ false
  unfolding block_at
  has_none i z =
      ⊎_elim
      (λ (q : has_block (blocks_of code) i ≡ true).
      let k = has_place bs (block_count code) i (rw as_back at q) in
      let f = rw k.2 at (t.found k.0 k.1) in
      absurd (omega arith))
      (λ q. q)
      (decide (has_block (blocks_of code) i))

  module _ (i : ℕ) (there : 0 < place_in directory i) where
    abbrev p : ℕ
    p = place_in directory i - 1

    pub is_block : p < block_count code
    is_block = let k = (t.present i there).0 in omega arith

    is_scope : (get_or bs p empty_block).scope ≡ i
    unfolding block_at
    is_scope = (t.present i there).1

    one : (r : ℕ) → r < block_count code → (get_or bs r empty_block).scope ≡ i → r ≡ p
    unfolding block_at
    one r n s = let f = rw s at (t.found r n) in omega arith

    has_step : (c : Block) (xs : List Block) → has_block (c ∷ xs) i ≡ cond (eqb c.scope i) true (has_block xs i)
    unfolding has_block any
    has_step c xs = ⊎_elim (λ q. rw q) (λ q. rw q) (decide (eqb c.scope i))

    pub has_one : has_block (blocks_of code) i ≡ true
    has_one = rw as_back (found_at bs i (λ xs. has_block xs i) (λ c xs. true) has_step p is_scope (block_count code) is_block one)

    pub scope_variables_lem : variables_of (blocks_of code) i ≡ (block_at code p).variables
    unfolding block_at variables_of
    scope_variables_lem = rw as_back (found_at bs i (λ xs. variables_of xs i) (λ c xs. c.variables) (λ c xs. refl) p is_scope (block_count code) is_block one)

    pub scope_runs : (gs : List (Option Value)) → run_in (blocks_of code) i gs ≡ run_at code p gs
    unfolding run_at block_at back
    scope_runs gs =
        ap (λ (xs : List Block). run_in xs i gs) as_back
        ∙ found_at bs i (λ xs. run_in xs i gs)
        (λ c xs. exec (surroundings xs c (λ j handed. run_in xs j handed)) c.body 0 [] [] (begin xs c gs)) (λ c xs. run_cons c xs i gs) p is_scope (block_count code) is_block one
        ∙ sym (run_cons (get_or bs p empty_block) (back bs p) (get_or bs p empty_block).scope gs ∙ rw (eq-eqb (get_or bs p empty_block).scope (get_or bs p empty_block).scope refl))
