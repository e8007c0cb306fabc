-- Walking along a chain with cells: the laws of `Walking`, of what a cell says.
-- Assumes nothing.
use Prim.Native.Nat.{ℕ, suc, ◌+◌, ◌-◌, ◌<◌, ◌≤◌}
use mathlib.Core.Path.{◌≡◌, refl, sym, ◌∙◌}
use mathlib.Core.Bool.{Bool, true, false, cond}
use mathlib.Core.List.{List, [], ◌∷◌}
use mathlib.Core.Logic.{◌⊎◌, inl, inr, ⊎_elim}
use native.Mathlib.Omega.{arith}
use lib.ListN.{length, get_or, drop, length-drop}
use lib.Dec.{eqb}
use borrow.Author.Tests.{eqb-true}
use Rattle.std.specs.Prelude.{Result, Ok, Err}
use Rattle.laws.proofs.Booleans.{both}
use Rattle.calculus.specs.Defaults.{gather}
use Rattle.calculus.proofs.Numbers.{zero_fits}
use Rattle.answers.specs.declared.Cause.{Cause}
use Rattle.calculus.specs.declared.Joined.TheVariants.{Nothing}
use Rattle.book.specs.Decode.{scopes_of}
use Rattle.book.specs.References.{scope_at}
use Rattle.book.specs.declared.Clause.{Clause}
use Rattle.links.specs.Links.{in_chain, first_from}
use Rattle.cells.specs.Codec.{empty_cell, gathered_cell, Codes, Gathers}
use Rattle.terms.specs.Operators.{OnBoth}
use Rattle.terms.specs.Clauses.{ReadableClause}
use Rattle.terms.proofs.Defaults.{no_so_far}
use Rattle.trees.specs.Chains.{alone, chain_outcome, settled_clause}
use Rattle.trees.specs.Rows.{clause_place, Walk, Settles}
use Rattle.trees.proofs.Clauses as clauses
use Rattle.trees.proofs.Walking as walking
use Rattle.calculus.specs.declared.Joined.{Joined}
use Rattle.calculus.specs.declared.Value.{Value}

-- a search finds a clause that is there, or 255
first_there : (p : Clause → Bool) (n : ℕ) (cs : List Clause) → (first_from p n cs ≡ 255) ⊎ (first_from p n cs < n + length cs)
unfolding first_from
first_there p n [] = inl refl
first_there p n (c ∷ cs) = go (p c) (first_there p (suc n) cs)
  where
    go : (b : Bool) → (first_from p (suc n) cs ≡ 255) ⊎ (first_from p (suc n) cs < suc n + length cs)
        → (cond b n (first_from p (suc n) cs) ≡ 255) ⊎ (cond b n (first_from p (suc n) cs) < n + suc (length cs))
    go true h = inr (omega arith)
    go false (inl h) = inl h
    go false (inr h) = inr (omega arith)

found_there : (p : Clause → Bool) (n : ℕ) (cs : List Clause) → n ≤ length cs → (d : ℕ) → d ≡ first_from p n (drop n cs) → d < 128 → d < length cs
found_there p n cs l d e h =
    let long = length-drop n cs in
    ⊎_elim (λ q. absurd (omega (arith, q, e))) (λ q. omega (arith, q, e)) (first_there p n (drop n cs))

pub nothing : Gathers 0 (Ok Nothing)
unfolding gathered_cell
nothing = record { is = refl; fits = zero_fits }

-- what has ended, by its cell
pub cause_of_lem : (h : ℕ) (g : Result Joined Cause) → Gathers h g → empty_cell ≤ h → (a : Cause) × (g ≡ Err a)
cause_of_lem h (Ok j) k l = no_so_far j h k l
cause_of_lem h (Err a) k l = (a, refl)

-- what holds at a clause of the chain
pub record Walks (bytes own called : List ℕ) (i k g c : ℕ) : Type 0 where
  pub so_far : Result Joined Cause
  pub is : Gathers g so_far
  pub walking : walking.Walking bytes own called i k so_far c
  pub there : c < 128 → c < length (scope_at (scopes_of bytes) i).clauses

module _ (bytes row links own called : List ℕ) (i k : ℕ) (w : Walk bytes row links own called i k) where
  abbrev cs : List Clause
  cs = (scope_at (scopes_of bytes) i).clauses

  pub begin : (c : ℕ) → c ≡ get_or links k 0 → Walks bytes own called i k 0 c
  begin c e =
      record {
        so_far = Ok Nothing;
        is = nothing;
        walking = walking.begin bytes row links own called i k w c e;
        there = found_there (in_chain k) 0 cs (omega arith) c (e ∙ w.linked.first k w.head);
      }

  module _ (g c : ℕ) (v : Walks bytes own called i k g c) where
    pub stop : 128 ≤ c → Gathers g (chain_outcome bytes own called i k)
    stop l =
        let few = w.chained.few in
        rw (← walking.stop bytes row links own called i k w v.so_far c v.walking (omega arith)) v.is

    module _ (l : c < 128) where
      pub there : c < length cs
      there = v.there l

      pub deeper : k < 289 + c
      deeper = walking.deeper bytes row links own called i k w v.so_far c v.walking there

      pub next_walk : Walk bytes row links own called i (289 + c)
      next_walk = walking.next_walk bytes row links own called i k w v.so_far c v.walking there

      pub clause_inside : clause_place c < length row
      clause_inside = clauses.clause_inside bytes row own called i w.rowed w.roomy c there

      pub readable_clause : ReadableClause bytes row own called (get_or row (clause_place c) 0)
      readable_clause = clauses.readable_clause bytes row own called i w.rowed w.roomy c there

      pub none_there : get_or links (289 + c) 0 ≡ 255 → Gathers 0 (chain_outcome bytes own called i (289 + c))
      none_there e =
          let few = w.chained.few in
          rw (← walking.none_there bytes row links own called i (289 + c) next_walk (get_or links (289 + c) 0) refl (omega arith)) nothing

      pub rises : (d : ℕ) → d ≡ get_or links (417 + c) 0 → length cs - d < length cs - c
      rises d e = walking.rises bytes row links own called i k w v.so_far c v.walking there d e

      module _ (x o h : ℕ) (ex : Gathers x (chain_outcome bytes own called i (289 + c)))
          (eo : Settles bytes row own called (get_or row (clause_place c) 0) x o) (eh : OnBoth g o h) where
        abbrev clause : Result Value Cause
        clause = settled_clause bytes own called i c (chain_outcome bytes own called i (289 + c))

        settled : Codes o clause
        unfolding settled_clause
        settled = rw (← clauses.rest_same bytes row own called i w.rowed w.roomy c there) (eo _ ex)

        now_gathered : Gathers h (gather v.so_far clause)
        now_gathered = eh _ _ v.is settled

        pub ended : empty_cell ≤ h → Gathers h (chain_outcome bytes own called i k)
        ended m =
            let q = cause_of_lem h (gather v.so_far clause) now_gathered m in
            rw (← walking.ended bytes row links own called i k w v.so_far c v.walking there _ refl clause refl (gather v.so_far clause) refl q.0 q.1) now_gathered

        pub again : (d : ℕ) → d ≡ get_or links (417 + c) 0 → Walks bytes own called i k h d
        again d e =
            record {
              so_far = gather v.so_far clause;
              is = now_gathered;
              walking = walking.again bytes row links own called i k w v.so_far c v.walking there _ refl clause refl (gather v.so_far clause) refl d e;
              there = found_there (in_chain k) (suc c) cs there d (walking.following bytes row links own called i k w v.so_far c v.walking there d e);
            }

  -- a clause that stands alone in its chain, without exceptions
  pub single : (c : ℕ) → c ≡ get_or links k 0 → c < 128 → alone links c ≡ true → (o h : ℕ)
      → Settles bytes row own called (get_or row (clause_place c) 0) 0 o → OnBoth 0 o h → Gathers h (chain_outcome bytes own called i k)
  single c e l lone o h eo eh =
      let (last, plain) = both (eqb (get_or links (417 + c) 0) 255) (eqb (get_or links (289 + c) 0) 255) lone in
      let v = begin c e in
      let none = none_there 0 c v l (eqb-true (get_or links (289 + c) 0) 255 plain) in
      stop h 255 (again 0 c v l 0 o h none eo eh 255 (sym (eqb-true (get_or links (417 + c) 0) 255 last))) (omega arith)
