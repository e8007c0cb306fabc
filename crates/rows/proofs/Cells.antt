-- Cells that are set to no or yes.
--     not_given       the cell of a variable that is not given holds nothing
--     givens_set      a cell that is set gives its variable
--     fitting_set     what is given fits still, where a yes/no variable is given
-- Assumes nothing.
use Prim.Native.Nat.{ℕ, zero, suc, ◌+◌, ◌<◌}
use mathlib.Core.Path.{◌≡◌, refl, sym, ap, ◌∙◌}
use mathlib.Core.Bool.{Bool, true, false, cond, false≢true}
use mathlib.Core.List.{List, [], ◌∷◌}
use native.Mathlib.Omega.{arith}
use lib.ListN.{length, get_or, set}
use lib.Seq.{get_or-set_same, get_or-set_other}
use lib.Dec.{eqb}
use borrow.Author.Tests.{eqb-true}
use Rattle.std.specs.Prelude.{Option, None, Some}
use Rattle.calculus.specs.declared.Value.TheVariants.{Truth}
use Rattle.calculus.proofs.Numbers.{zero_fits}
use Rattle.cells.specs.Codec.{value_cell, value_of}
use Rattle.cells.specs.Cells.{given_of, given_at}
use Rattle.cells.proofs.Variables.{given_cell}
use Rattle.book.specs.declared.ValueType.TheVariants.{YesNo}
use Rattle.book.specs.declared.Variable.{Variable}
use Rattle.lists.specs.Inputs.{is_given}
use Rattle.evaluation.specs.Types.{Fitting}
use Rattle.scopes.specs.Steps.{givens_from}
use Rattle.scopes.proofs.Cells.{givens_at_lem}
use Rattle.calculus.specs.declared.Value.{Value}

nothing : (c : ℕ) → is_given (given_of c) ≡ false → c ≡ 0
unfolding given_of
nothing c = go (eqb c 0) refl
  where
    go : (b : Bool) → eqb c 0 ≡ b → is_given (cond b None (Some (value_of c))) ≡ false → c ≡ 0
    go true e h = eqb-true c 0 e
    go false e h = absurd (false≢true (sym h))

pub not_given : (cells : List ℕ) (n v : ℕ) → v < n → is_given (get_or (givens_from cells 0 n) v None) ≡ false → get_or cells v 0 ≡ 0
unfolding given_at
not_given cells n v l h =
    let z : 0 + v ≡ v = omega arith in
    nothing (get_or cells v 0) (ap is_given (sym (givens_at_lem cells 0 n v l ∙ ap (given_at cells) z)) ∙ h)

givens_after : (cells : List ℕ) (at c k n : ℕ) → at < k → givens_from (set cells at c) k n ≡ givens_from cells k n
unfolding givens_from given_at
givens_after cells at c k zero l = refl
givens_after cells at c k (suc n) l =
    rw (get_or-set_other cells at k c 0 (λ e. omega arith), givens_after cells at c (suc k) n (omega arith))

givens_from_lem : (cells : List ℕ) (k v n c : ℕ) → k + v < length cells → givens_from (set cells (k + v) c) k n ≡ set (givens_from cells k n) v (given_of c)
unfolding givens_from given_at
givens_from_lem cells k v zero c l = refl
givens_from_lem cells k zero (suc n) c l =
    let e : k + 0 ≡ k = omega arith in
    let one : get_or (set cells (k + 0) c) k 0 ≡ c =
    ap (λ (at : ℕ). get_or (set cells at c) k 0) e ∙ get_or-set_same cells k c 0 (omega arith) in
    let rest : givens_from (set cells (k + 0) c) (suc k) n ≡ givens_from cells (suc k) n =
    ap (λ (at : ℕ). givens_from (set cells at c) (suc k) n) e ∙ givens_after cells k c (suc k) n (omega arith) in
    rw (one, rest)
givens_from_lem cells k (suc v) (suc n) c l =
    let e : k + suc v ≡ suc k + v = omega arith in
    let rest : givens_from (set cells (k + suc v) c) (suc k) n ≡ set (givens_from cells (suc k) n) v (given_of c) =
    ap (λ (at : ℕ). givens_from (set cells at c) (suc k) n) e ∙ givens_from_lem cells (suc k) v n c (omega arith) in
    rw (get_or-set_other cells (k + suc v) k c 0 (λ e. omega arith), rest)

pub givens_set : (cells : List ℕ) (n v : ℕ) (b : Bool) → v < length cells
    → givens_from (set cells v (value_cell (Truth b))) 0 n ≡ set (givens_from cells 0 n) v (Some (Truth b))
givens_set cells n v b l =
    let z : 0 + v ≡ v = omega arith in
    ap (λ (at : ℕ). givens_from (set cells at (value_cell (Truth b))) 0 n) (sym z)
    ∙ givens_from_lem cells 0 v n (value_cell (Truth b)) (omega arith)
    ∙ ap (set (givens_from cells 0 n) v) (given_cell (Truth b) zero_fits)

pub fitting_set : (xs : List Variable) (gs : List (Option Value)) (v : ℕ) (b : Bool) → Fitting xs gs → (get_or xs v (record { holds = YesNo })).holds ≡ YesNo
    → Fitting xs (set gs v (Some (Truth b)))
fitting_set [] [] v b h e = tt
fitting_set [] (g ∷ gs) v b h e = absurd h
fitting_set (x ∷ xs) [] v b h e = absurd h
fitting_set (x ∷ xs) (g ∷ gs) zero b h e = (sym e, h.1)
fitting_set (x ∷ xs) (g ∷ gs) (suc v) b h e = (h.0, fitting_set xs gs v b h.1 e)
