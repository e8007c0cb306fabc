-- Handing over the variables of a sub-scope.
--     hands_none, hands-tree              one variable
--     none_passed, pass, halt, end        all of them, in a loop
-- Assumes nothing.
use Prim.Native.Nat.{ℕ, zero, suc, ◌+◌, ◌<◌, ◌≤◌}
use mathlib.Core.Path.{◌≡◌, refl, sym, ap, subst, ◌∙◌}
use mathlib.Core.Bool.{true, false}
use mathlib.Core.List.{List, [], ◌∷◌}
use mathlib.Core.Logic.{◌⊎◌, inl, inr, ⊎_elim}
use native.Mathlib.Omega.{arith}
use lib.ListN.{length, set, length-set}
use lib.Seq.{get_or-set_same, get_or-set_other}
use lib.Dec.{ltb}
use borrow.Author.Tests.{lt-ltb, le-ltb, ltb-true, ltb-false}
use Rattle.std.specs.Prelude.{Result, Ok, Err}
use Rattle.calculus.specs.Defaults.{found}
use Rattle.calculus.specs.Evaluation.{Env}
use Rattle.answers.specs.declared.Cause.{Cause}
use Rattle.answers.specs.declared.Cause.TheVariants.{Empty, Conflict, OutOfRange}
use Rattle.laws.proofs.Booleans.{decide}
use Rattle.cells.specs.Codec.{empty_cell, cell_of, cause_cell, cause_of, Codes, gathered_cell, Gathers, Kept, AllKept}
use Rattle.cells.specs.Cells.{given_of, given_at}
use Rattle.cells.proofs.Codec.{value_before_ends, end_high, cause_decoded, no_value_lem}
use Rattle.cells.proofs.Variables.{given_cell, kept_nothing, kept_value, kept_put}
use Rattle.book.specs.Syntax.{Scope}
use Rattle.book.specs.Decode.{scopes_of}
use Rattle.book.specs.References.{scope_at}
use Rattle.book.specs.declared.Variable.{Variable}
use Rattle.terms.specs.Operators.{OnFound}
use Rattle.terms.specs.Outcomes as cells
use Rattle.trees.specs.Chains.{tree_outcome, clause_for}
use Rattle.evaluation.specs.Handing.{hands, stops, falls_back, handed, failed, override, handing_by, handing}
use Rattle.scopes.specs.Steps.{override_at, handed_of, Hands, givens_from, called_variables, called_count, HandedAll}
use Rattle.calculus.specs.declared.Value.{Value}

-- the cells hold what the variables from v on are handed
module _ (env : Env) (s : Scope) (k : ℕ) (cells : List ℕ) where
  all_handed : (v : ℕ) (xs : List Variable) → ((u : ℕ) → v ≤ u → u < v + length xs → override env s k u ≡ hands (given_at cells u))
      → handing env s k v xs ≡ handed (givens_from cells v (length xs))
  unfolding handing_by givens_from
  all_handed v [] h = refl
  all_handed v (x ∷ xs) h =
      rw (h v (omega arith) (omega arith), all_handed (suc v) xs (λ u l m. h u (omega arith) (omega arith)))

  one_stops : (v d : ℕ) (xs : List Variable) (c : Cause) → d < length xs → ((u : ℕ) → v ≤ u → u < v + d → override env s k u ≡ hands (given_at cells u))
      → override env s k (v + d) ≡ stops c → handing env s k v xs ≡ failed c
  unfolding handing_by
  one_stops v d [] c l h e = absurd (omega arith)
  one_stops v zero (x ∷ xs) c l h e =
      let z : v + 0 ≡ v = omega arith in
      let here : override env s k v ≡ stops c = ap (override env s k) (sym z) ∙ e in
      rw here
  one_stops v (suc d) (x ∷ xs) c l h e =
      let z : suc v + d ≡ v + suc d = omega arith in
      rw (
        h v (omega arith) (omega arith),
        one_stops (suc v) d xs c (omega arith) (λ u a b. h u (omega arith) (omega arith)) (ap (override env s k) z ∙ e),
      )

less_or_same : (u v : ℕ) → u < v + 1 → (u < v) ⊎ (u ≡ v)
less_or_same u v l =
    ⊎_elim (λ (q : ltb u v ≡ true). inl (ltb-true u v q)) (λ (q : ltb u v ≡ false). inr (omega (arith, ltb-false u v q))) (decide (ltb u v))

-- The cell of what an override tree hands over

end_handed : (d : Cause) (r : ℕ) → r ≡ cause_cell d → handed_of r ≡ stops d
end_handed d r e =
    let high : empty_cell ≤ r = rw e (end_high d) in
    rw (le-ltb r empty_cell high) (ap stops (ap cause_of e ∙ cause_decoded d))

found_handed : (o : Result Value Cause) (r : ℕ) → Gathers r (found o) → handed_of r ≡ falls_back o
unfolding gathered_cell given_of
found_handed (Ok y) r g =
    let low : r < empty_cell = rw g.is (value_before_ends y g.fits) in
    rw (lt-ltb r empty_cell low) (ap hands (ap given_of g.is ∙ given_cell y g.fits))
found_handed (Err Empty) r g = rw g.is refl
found_handed (Err Conflict) r g = end_handed Conflict r g.is
found_handed (Err (OutOfRange s)) r g = end_handed (OutOfRange s) r g.is

found_kept : (o : Result Value Cause) (r : ℕ) → Gathers r (found o) → r < empty_cell → Kept r
unfolding gathered_cell cell_of
found_kept (Ok y) r g l = kept_value r y (record { is = g.is; fits = g.fits })
found_kept (Err Empty) r g l = subst Kept (sym g.is) kept_nothing
found_kept (Err Conflict) r g l = no_value_lem Conflict r (record { is = g.is; fits = g.fits }) l
found_kept (Err (OutOfRange s)) r g l = no_value_lem (OutOfRange s) r (record { is = g.is; fits = g.fits }) l

-- one variable is handed over
module _ (bytes own called : List ℕ) (i k v : ℕ) where
  pub hands_none : clause_for bytes i k v ≡ false → Hands bytes own called i k v 0
  unfolding override_at clause_for given_of
  hands_none q = record { same = rw q refl; kept = λ l. kept_nothing }

  pub hands_tree : (c r : ℕ) → clause_for bytes i k v ≡ true → Codes c (tree_outcome bytes own called i k v) → OnFound c r → Hands bytes own called i k v r
  unfolding override_at clause_for tree_outcome
  hands_tree c r q h f = let o = tree_outcome bytes own called i k v in record { same = rw q (found_handed o r (f o h)); kept = found_kept o r (f o h) }

-- the cells hold what the variables below v are handed
pub record Passed (bytes own called : List ℕ) (i k : ℕ) (handed : List ℕ) (v : ℕ) : Type 0 where
  pub size : length handed ≡ 32
  pub kept : AllKept handed
  pub at : v ≤ called_count (scopes_of bytes) i k
  pub done : (u : ℕ) → u < v → override (cells.env_of own called) (scope_at (scopes_of bytes) i) k u ≡ hands (given_at handed u)

pub none_passed : {bytes own called : List ℕ} {i k : ℕ} {handed : List ℕ} → length handed ≡ 32 → AllKept handed → Passed bytes own called i k handed 0
none_passed e h = record { size = e; kept = h; at = omega arith; done = λ u l. absurd (omega arith) }

module _ {bytes own called : List ℕ} {i k v : ℕ} {handed : List ℕ} {c : ℕ} (p : Passed bytes own called i k handed v)
    (l : v < called_count (scopes_of bytes) i k) (h : Hands bytes own called i k v c) where
  pub pass : c < empty_cell → v < length handed → Passed bytes own called i k (set handed v c) (v + 1)
  unfolding override_at given_at
  pass low room =
      let here : hands (given_of c) ≡ override (cells.env_of own called) (scope_at (scopes_of bytes) i) k v = rw (lt-ltb c empty_cell low) at h.same in
      record {
        size = length-set handed v c ∙ p.size;
        kept = kept_put handed v c (h.kept low) p.kept;
        at = omega arith;
        done = λ u m.
            ⊎_elim
            (λ (q : u < v). p.done u q ∙ ap (λ (n : ℕ). hands (given_of n)) (sym (get_or-set_other handed v u c 0 (λ z. omega arith))))
            (λ (q : u ≡ v). rw q (sym here ∙ ap (λ (n : ℕ). hands (given_of n)) (sym (get_or-set_same handed v c 0 room))))
            (less_or_same u v (omega arith));
      }

  pub halt : empty_cell ≤ c → HandedAll bytes own called i k c handed
  unfolding override_at
  halt high =
      let z : 0 + v ≡ v = omega arith in
      let env = cells.env_of own called in
      let s = scope_at (scopes_of bytes) i in
      let here : stops (cause_of c) ≡ override env s k v = rw (le-ltb c empty_cell high) at h.same in
      record {
        size = p.size;
        kept = p.kept;
        same = rw (le-ltb c empty_cell high)
            (sym (one_stops env s k handed 0 v (called_variables (scopes_of bytes) i k) (cause_of c) l (λ u a b. p.done u (omega arith)) (ap (override env s k) z ∙ sym here)));
      }

pub end : {bytes own called : List ℕ} {i k v : ℕ} {handed : List ℕ} → Passed bytes own called i k handed v → called_count (scopes_of bytes) i k ≤ v
    → HandedAll bytes own called i k 0 handed
end {bytes} {own} {called} {i} {k} {v} {handed} p l =
    record {
      size = p.size;
      kept = p.kept;
      same = sym (all_handed (cells.env_of own called) (scope_at (scopes_of bytes) i) k handed 0 (called_variables (scopes_of bytes) i k) (λ u a b. p.done u (omega (arith, p.at))));
    }
