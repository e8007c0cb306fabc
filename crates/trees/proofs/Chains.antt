-- Chains of clauses: following the links meets exactly the clauses of a chain, in their order.
--     found                   what a search through clauses finds has the property, and nothing lower has
--     any_first               whether some clause has a property, by the first that has
--     chain_from               the clauses of a chain from a number on; from_past, from_front, from_first
--     exceptions_chain        the exceptions of a clause are the chain of its cell
--     bases_chain             the bases of a target are the chain of its slot
-- Assumes nothing.
use Prim.Native.Nat.{ℕ, zero, suc, ◌<◌, ◌≤◌, ◌+◌}
use mathlib.Core.Path.{◌≡◌, refl, sym, ap, ◌∙◌}
use mathlib.Core.Bool.{Bool, true, false, not, cond}
use mathlib.Core.List.{List, [], ◌∷◌}
use mathlib.Core.Logic.{⊎_elim}
use native.Mathlib.Omega.{arith}
use lib.ListN.{length, get_or, drop, drop_of_length-le}
use lib.Seq.{drop-cons}
use lib.Dec.{eqb, ltb}
use borrow.Author.Tests.{ltb-true, ltb-false, ne_eqb}
use Rattle.laws.proofs.Booleans.{decide}
use Rattle.calculus.specs.Terms.{Term, Terms, none, also, default}
use Rattle.book.specs.Lists.{any}
use Rattle.book.specs.Syntax.{Scope}
use Rattle.book.specs.References.{no_clause}
use Rattle.book.specs.Trees.{condition_term, consequence_term, select, clause_terms, bases}
use Rattle.book.specs.declared.Target.{Target}
use Rattle.book.specs.declared.Clause.{Clause}
use Rattle.links.specs.Links.{slot_of, head_of, in_chain, first_from}
use Rattle.trees.specs.Chains.{chain_terms}
use Rattle.links.proofs.Slots.{in_exceptions, in_bases}
use Rattle.links.proofs.Named.{Chained, chained_head}
use Rattle.links.proofs.Linking.{first_front}

-- Searches

-- there is nothing past the last clause
first_past : (p : Clause → Bool) (cs : List Clause) (n : ℕ) → length cs ≤ n → first_from p n (drop n cs) ≡ 255
unfolding first_from
first_past p cs n l = rw (drop_of_length-le cs l)

-- the next clause has the property, or the search goes on
first_here : (p : Clause → Bool) (cs : List Clause) (n : ℕ) → n < length cs → p (get_or cs n no_clause) ≡ true → first_from p n (drop n cs) ≡ n
first_here p cs n l q = first_front p cs n l ∙ rw q refl

first_later : (p : Clause → Bool) (cs : List Clause) (n : ℕ) → n < length cs → p (get_or cs n no_clause) ≡ false
    → first_from p n (drop n cs) ≡ first_from p (suc n) (drop (suc n) cs)
first_later p cs n l q = first_front p cs n l ∙ rw q refl

module _ (p : Clause → Bool) (cs : List Clause) (few : length cs ≤ 128) (d : ℕ) (there : d < length cs) where
  found_within : (f n : ℕ) → length cs ≤ n + f → d ≡ first_from p n (drop n cs) → (n ≤ d) × (p (get_or cs d no_clause) ≡ true)
  found_within zero n l e = let z = first_past p cs n (omega arith) in absurd (omega arith)
  found_within (suc f) n l e =
      ⊎_elim
      (λ (h : ltb n (length cs) ≡ true).
      let m = ltb-true n (length cs) h in
      ⊎_elim
      (λ (q : p (get_or cs n no_clause) ≡ true).
      let z : d ≡ n = e ∙ first_here p cs n m q in
      (omega arith, rw z q))
      (λ (q : p (get_or cs n no_clause) ≡ false).
      let r = found_within f (suc n) (omega arith) (e ∙ first_later p cs n m q) in
      (omega (arith, r.0), r.1))
      (decide (p (get_or cs n no_clause))))
      (λ (h : ltb n (length cs) ≡ false).
      let z = first_past p cs n (ltb-false n (length cs) h) in
      absurd (omega arith))
      (decide (ltb n (length cs)))

  pub found : (n : ℕ) → d ≡ first_from p n (drop n cs) → (n ≤ d) × (p (get_or cs d no_clause) ≡ true)
  found n e = found_within (length cs) n (omega arith) e

any_from_first : (p : Clause → Bool) (n : ℕ) (cs : List Clause) → n + length cs ≤ 255 → any p cs ≡ not (eqb (first_from p n cs) 255)
unfolding any first_from
any_from_first p n [] l = refl
any_from_first p n (c ∷ cs) l =
    ⊎_elim
    (λ (q : p c ≡ true). rw (q, ne_eqb n 255 (λ e. omega arith)))
    (λ (q : p c ≡ false). rw q (any_from_first p (suc n) cs (omega arith)))
    (decide (p c))

pub any_first : (p : Clause → Bool) (cs : List Clause) → length cs ≤ 128 → any p cs ≡ not (eqb (first_from p 0 cs) 255)
any_first p cs few = any_from_first p 0 cs (omega arith)

-- Chains

-- properties that agree on the clauses of a list select the same ones
select_same : (p q : Clause → Bool) (cs : List Clause) (ts : List Term)
    → ((j : ℕ) → j < length cs → p (get_or cs j no_clause) ≡ q (get_or cs j no_clause)) → select p cs ts ≡ select q cs ts
unfolding select
select_same p q [] ts h = refl
select_same p q (c ∷ cs) [] h = refl
select_same p q (c ∷ cs) (t ∷ ts) h =
    let more = select_same p q cs ts (λ j l. h (suc j) (omega arith)) in
    rw (h 0 (omega arith), more)

-- the term of clause n
unfoldable pub clause_term : Scope → ℕ → Term
clause_term s n =
    default
    (select (λ d. eqb d.parent n) (drop (suc n) s.clauses) (clause_terms s (suc n) (drop (suc n) s.clauses)))
    (condition_term s (get_or s.clauses n no_clause).condition)
    (consequence_term s (get_or s.clauses n no_clause).consequence)

-- the clauses from number n on of the chain that begins in cell k
unfoldable pub chain_from : Scope → ℕ → ℕ → Terms
chain_from s k n = select (in_chain k) (drop n s.clauses) (clause_terms s n (drop n s.clauses))

term_from : (s : Scope) (d : Term) (m k : ℕ) (cs : List Clause) → k < length cs
    → get_or (clause_terms s m cs) k d
    ≡ default
    (select (λ c. eqb c.parent (m + k)) (drop (suc k) cs) (clause_terms s (suc (m + k)) (drop (suc k) cs)))
    (condition_term s (get_or cs k no_clause).condition)
    (consequence_term s (get_or cs k no_clause).consequence)
unfolding clause_terms
term_from s d m k [] l = absurd (omega arith)
term_from s d m zero (c ∷ cs) l = let z : m + 0 ≡ m = omega arith in rw z
term_from s d m (suc k) (c ∷ cs) l =
    let z : m + suc k ≡ suc m + k = omega arith in
    rw z (term_from s d (suc m) k cs (omega arith))

pub term_at : (s : Scope) (n : ℕ) (d : Term) → n < length s.clauses → get_or (clause_terms s 0 s.clauses) n d ≡ clause_term s n
unfolding clause_term
term_at s n d l =
    let z : 0 + n ≡ n = omega arith in
    rw z at (term_from s d 0 n s.clauses l)

module _ (s : Scope) (k : ℕ) where
  pub from_start : chain_terms s k ≡ chain_from s k 0
  unfolding chain_terms chain_from
  from_start = refl

  pub from_past : (n : ℕ) → length s.clauses ≤ n → chain_from s k n ≡ none
  unfolding chain_from select
  from_past n l = rw (drop_of_length-le s.clauses l)

  from_front : (n : ℕ) → n < length s.clauses
      → chain_from s k n ≡ cond (in_chain k (get_or s.clauses n no_clause)) (also (clause_term s n) (chain_from s k (suc n))) (chain_from s k (suc n))
  unfolding chain_from clause_term select clause_terms
  from_front n l = rw (drop-cons s.clauses n no_clause l)

  pub from_here : (n : ℕ) → n < length s.clauses → in_chain k (get_or s.clauses n no_clause) ≡ true
      → chain_from s k n ≡ also (clause_term s n) (chain_from s k (suc n))
  from_here n l q = from_front n l ∙ rw q refl

  from_later : (n : ℕ) → n < length s.clauses → in_chain k (get_or s.clauses n no_clause) ≡ false → chain_from s k n ≡ chain_from s k (suc n)
  from_later n l q = from_front n l ∙ rw q refl

  -- clauses that are not of the chain
  from_skip : (m : ℕ) → m ≤ length s.clauses → ((j : ℕ) → j < m → in_chain k (get_or s.clauses j no_clause) ≡ false)
      → chain_from s k 0 ≡ chain_from s k m
  from_skip zero l h = refl
  from_skip (suc m) l h = from_skip m (omega arith) (λ j b. h j (omega arith)) ∙ from_later m (omega arith) (h m (omega arith))

  module _ (few : length s.clauses ≤ 128) where
    first_within : (f n : ℕ) → length s.clauses ≤ n + f → (d : ℕ) → d ≡ first_from (in_chain k) n (drop n s.clauses)
        → chain_from s k n ≡ chain_from s k d
    first_within zero n l d e =
        let z = first_past (in_chain k) s.clauses n (omega arith) in
        from_past n (omega arith) ∙ sym (from_past d (omega arith))
    first_within (suc f) n l d e =
        ⊎_elim
        (λ (h : ltb n (length s.clauses) ≡ true).
        let m = ltb-true n (length s.clauses) h in
        ⊎_elim
        (λ (q : in_chain k (get_or s.clauses n no_clause) ≡ true). ap (chain_from s k) (sym (e ∙ first_here (in_chain k) s.clauses n m q)))
        (λ (q : in_chain k (get_or s.clauses n no_clause) ≡ false).
        from_later n m q ∙ first_within f (suc n) (omega arith) d (e ∙ first_later (in_chain k) s.clauses n m q))
        (decide (in_chain k (get_or s.clauses n no_clause))))
        (λ (h : ltb n (length s.clauses) ≡ false).
        let past = ltb-false n (length s.clauses) h in
        let z = first_past (in_chain k) s.clauses n past in
        from_past n past ∙ sym (from_past d (omega arith)))
        (decide (ltb n (length s.clauses)))

    -- nothing of the chain stands before the first found
    pub from_first : (n d : ℕ) → d ≡ first_from (in_chain k) n (drop n s.clauses) → chain_from s k n ≡ chain_from s k d
    from_first n d e = first_within (length s.clauses) n (omega arith) d e

module _ (s : Scope) (g : Chained s.clauses) where
  pub exceptions_chain : (n : ℕ) → n < length s.clauses
      → select (λ d. eqb d.parent n) (drop (suc n) s.clauses) (clause_terms s (suc n) (drop (suc n) s.clauses)) ≡ chain_terms s (289 + n)
  unfolding chain_from
  exceptions_chain n l =
      let few = g.few in
      sym
      (from_start s (289 + n)
      ∙ from_skip s (289 + n) (suc n) (omega arith)
      (λ j b. ne_eqb (head_of (get_or s.clauses j no_clause)) (289 + n) (λ e. omega (arith, chained_head s.clauses g j (omega arith))))
      ∙ select_same (in_chain (289 + n)) (λ d. eqb d.parent n) (drop (suc n) s.clauses) (clause_terms s (suc n) (drop (suc n) s.clauses))
      (λ j b. in_exceptions (get_or (drop (suc n) s.clauses) j no_clause) n (omega arith)))

  pub bases_chain : (t : Target) → bases s t ≡ chain_terms s (slot_of t)
  unfolding bases chain_terms
  bases_chain t =
      sym
      (select_same (in_chain (slot_of t)) _ s.clauses (clause_terms s 0 s.clauses)
      (λ j b. in_bases (get_or s.clauses j no_clause) t (g.target j b)))
