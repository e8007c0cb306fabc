-- Walking along a chain: what the clauses met so far came to, and what is left.
--     Walking         what holds at a clause of the chain; begin, deeper, rises, again, and the ways out, ended, stop and none-there
-- Assumes nothing.
use Prim.Native.Nat.{ℕ, suc, ◌<◌, ◌≤◌, ◌+◌, ◌-◌}
use mathlib.Core.Path.{◌≡◌, sym, ap, ◌∙◌}
use mathlib.Core.Bool.{true, false}
use mathlib.Core.List.{List}
use mathlib.Core.Logic.{⊎_elim}
use native.Mathlib.Omega.{arith}
use lib.ListN.{length, get_or, drop}
use lib.Dec.{ltb}
use borrow.Author.Tests.{eqb-true, ltb-true, ltb-false}
use Rattle.std.specs.Prelude.{Result, Ok, Err}
use Rattle.laws.proofs.Booleans.{decide}
use Rattle.calculus.specs.Defaults.{gather, settle}
use Rattle.calculus.specs.Terms.{Terms}
use Rattle.calculus.specs.Evaluation.{eval, exceptions}
use Rattle.answers.specs.declared.Cause.{Cause}
use Rattle.calculus.specs.declared.Joined.TheVariants.{Nothing}
use Rattle.calculus.proofs.Exceptions.{exceptions_ended}
use Rattle.book.specs.Syntax.{Scope}
use Rattle.book.specs.Decode.{scopes_of}
use Rattle.book.specs.References.{scope_at, no_clause}
use Rattle.book.specs.Positions.{clause_at}
use Rattle.book.specs.declared.Clause.{Clause}
use Rattle.terms.specs.Outcomes.{env_of}
use Rattle.links.specs.Links.{head_of, in_chain, first_from}
use Rattle.trees.specs.Chains.{chain_outcome, rest_outcome, settled_clause}
use Rattle.trees.specs.Rows.{Walk}
use Rattle.links.proofs.Named.{Chained, chained_head}
use Rattle.trees.proofs.Chains.{found, clause_term, chain_from, from_start, from_past, from_here, from_first, exceptions_chain}
use Rattle.calculus.specs.declared.Joined.{Joined}
use Rattle.calculus.specs.declared.Value.{Value}

abbrev clauses_of : List ℕ → ℕ → List Clause
clauses_of bytes i = (scope_at (scopes_of bytes) i).clauses

module _ (bytes own called : List ℕ) (i : ℕ) (few : Chained (clauses_of bytes i)) where
  -- a clause that is there
  term_chain : (c : ℕ) → c < length (clauses_of bytes i)
      → eval (env_of own called) (clause_term (scope_at (scopes_of bytes) i) c) ≡ settled_clause bytes own called i c (chain_outcome bytes own called i (289 + c))
  unfolding clause_term settled_clause rest_outcome chain_outcome clause_at eval
  term_chain c l =
      ap
      (λ (ts : Terms). settle (exceptions (env_of own called) (Ok Nothing) ts) (rest_outcome bytes own called i c))
      (exceptions_chain (scope_at (scopes_of bytes) i) few c l)

pub record Walking (bytes own called : List ℕ) (i k : ℕ) (g : Result Joined Cause) (c : ℕ) : Type 0 where
  pub has : c < length (clauses_of bytes i) → in_chain k (get_or (clauses_of bytes i) c no_clause) ≡ true
  pub left : chain_outcome bytes own called i k ≡ exceptions (env_of own called) g (chain_from (scope_at (scopes_of bytes) i) k c)

module _ (bytes row links own called : List ℕ) (i k : ℕ) (w : Walk bytes row links own called i k) where
  abbrev scope : Scope
  scope = scope_at (scopes_of bytes) i

  abbrev cs : List Clause
  cs = scope.clauses

  pub begin : (c : ℕ) → c ≡ get_or links k 0 → Walking bytes own called i k (Ok Nothing) c
  unfolding chain_outcome
  begin c e =
      let few = w.chained.few in
      let f = e ∙ w.linked.first k w.head in
      record {
        has = λ l. (found (in_chain k) cs few c l 0 f).1;
        left = ap (exceptions (env_of own called) (Ok Nothing)) (from_start scope k ∙ from_first scope k few 0 c f);
      }

  module _ (g : Result Joined Cause) (c : ℕ) (v : Walking bytes own called i k g c) where
    pub stop : length cs ≤ c → g ≡ chain_outcome bytes own called i k
    unfolding exceptions
    stop l = sym (v.left ∙ ap (exceptions (env_of own called) g) (from_past scope k c l))

    module _ (l : c < length cs) where
      here : head_of (get_or cs c no_clause) ≡ k
      here = eqb-true (head_of (get_or cs c no_clause)) k (v.has l)

      -- the exceptions of a clause begin after the chain that it stands in
      pub deeper : k < 289 + c
      deeper = omega (arith, here, chained_head cs w.chained c l)

      pub next_walk : Walk bytes row links own called i (289 + c)
      next_walk = let few = w.chained.few in record { rowed = w.rowed; roomy = w.roomy; chained = w.chained; linked = w.linked; head = omega arith }

      pub following : (d : ℕ) → d ≡ get_or links (417 + c) 0 → d ≡ first_from (in_chain k) (suc c) (drop (suc c) cs)
      following d e = rw here at (e ∙ w.linked.next c (omega arith) l)

      pub rises : (d : ℕ) → d ≡ get_or links (417 + c) 0 → length cs - d < length cs - c
      rises d e =
          ⊎_elim
          (λ (q : ltb d (length cs) ≡ true).
          let m = ltb-true d (length cs) q in
          let r = (found (in_chain k) cs w.chained.few d m (suc c) (following d e)).0 in
          omega arith)
          (λ (q : ltb d (length cs) ≡ false). let m = ltb-false d (length cs) q in omega arith)
          (decide (ltb d (length cs)))

      module _ (x : Result Joined Cause) (ex : x ≡ chain_outcome bytes own called i (289 + c)) (o : Result Value Cause) (eo : o ≡ settled_clause bytes own called i c x)
          (h : Result Joined Cause) (eh : h ≡ gather g o) where
        gathered : chain_outcome bytes own called i k ≡ exceptions (env_of own called) h (chain_from scope k (suc c))
        unfolding exceptions
        gathered =
            let e : o ≡ eval (env_of own called) (clause_term scope c) = eo ∙ ap (settled_clause bytes own called i c) ex ∙ sym (term_chain bytes own called i w.chained c l) in
            v.left
            ∙ ap (exceptions (env_of own called) g) (from_here scope k c l (v.has l))
            ∙ ap (λ (a : Result Joined Cause). exceptions (env_of own called) a (chain_from scope k (suc c))) (sym (eh ∙ ap (gather g) e))

        pub ended : (a : Cause) → h ≡ Err a → h ≡ chain_outcome bytes own called i k
        ended a e =
            e
            ∙ sym
            (gathered
            ∙ ap (λ (b : Result Joined Cause). exceptions (env_of own called) b (chain_from scope k (suc c))) e
            ∙ exceptions_ended (env_of own called) a (chain_from scope k (suc c)))

        pub again : (d : ℕ) → d ≡ get_or links (417 + c) 0 → Walking bytes own called i k h d
        again d e =
            let few = w.chained.few in
            let f = following d e in
            record {
              has = λ m. (found (in_chain k) cs few d m (suc c) f).1;
              left = gathered ∙ ap (exceptions (env_of own called) h) (from_first scope k few (suc c) d f);
            }

  -- a chain that begins with no clause
  pub none_there : (d : ℕ) → d ≡ get_or links k 0 → length cs ≤ d → Ok Nothing ≡ chain_outcome bytes own called i k
  none_there d e l = stop (Ok Nothing) d (begin d e) l
