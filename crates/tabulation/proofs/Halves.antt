-- The rows of all assignments, half by half.
--     rows_halves    those with no at the first variable, then those with yes
--     rows_same      equal row by row
-- Assumes nothing.
use Prim.Native.Nat.{ℕ, zero, suc}
use mathlib.Core.Path.{◌≡◌, refl, sym, ap, ◌∙◌}
use mathlib.Core.Bool.{Bool, true, false}
use mathlib.Core.List.{List, [], ◌∷◌, ◌++◌, map}
use lib.ListN.{length}
use Rattle.tabulation.specs.Assignments.{assignments}
use Rattle.book.specs.Sharing.{gathered}
use Rattle.book.proofs.Gathered.{gathered_append}

rows_map : (f : List Bool → List ℕ) (g : List Bool → List Bool) (xs : List (List Bool)) → gathered f (map g xs) ≡ gathered (λ a. f (g a)) xs
unfolding gathered
rows_map f g [] = refl
rows_map f g (a ∷ xs) = ap (λ (l : List ℕ). f (g a) ++ l) (rows_map f g xs)

pub rows_halves : (f : List Bool → List ℕ) (k : ℕ)
    → gathered f (assignments (suc k)) ≡ gathered (λ a. f (false ∷ a)) (assignments k) ++ gathered (λ a. f (true ∷ a)) (assignments k)
unfolding assignments
rows_halves f k =
    gathered_append f (map (λ a. false ∷ a) (assignments k)) (map (λ a. true ∷ a) (assignments k))
    ∙ rw (rows_map f (λ a. false ∷ a) (assignments k), rows_map f (λ a. true ∷ a) (assignments k))

pub rows_same : (f g : List Bool → List ℕ) (k : ℕ) → ((a : List Bool) → length a ≡ k → f a ≡ g a) → gathered f (assignments k) ≡ gathered g (assignments k)
unfolding assignments gathered
rows_same f g zero same = ap (λ (l : List ℕ). l ++ []) (same [] refl)
rows_same f g (suc k) same =
    let no = rows_same (λ a. f (false ∷ a)) (λ a. g (false ∷ a)) k (λ a e. same (false ∷ a) (ap suc e)) in
    let yes = rows_same (λ a. f (true ∷ a)) (λ a. g (true ∷ a)) k (λ a e. same (true ∷ a) (ap suc e)) in
    rw (rows_halves f k, no, yes) (sym (rows_halves g k))
