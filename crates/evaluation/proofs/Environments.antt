-- What a step gives depends on its environment only through the steps that it depends on.
--     eval_same           environments that hold the same where a typed term reads give the same outcome
--     tree_same           so they do for a variable's tree if they hold the same of what its step depends on
--     handing_same        and for what a call hands over
--     handing_overrides, overrides_handing    what a call hands over, variable by variable
-- Assumes nothing.
use Prim.Native.Nat.{ℕ, zero, suc, ◌<◌, ◌≤◌, ◌+◌}
use mathlib.Core.Path.{◌≡◌, refl, sym, ap, subst, ◌∙◌}
use mathlib.Core.Bool.{true, false}
use mathlib.Core.List.{List, [], ◌∷◌}
use mathlib.Core.Logic.{⊎_elim}
use native.Mathlib.Omega.{arith}
use lib.ListN.{length, get_or}
use lib.Dec.{eqb}
use borrow.Author.Tests.{ne_eqb}
use Rattle.std.specs.Prelude.{Result, Ok, Err, Option, None, Some}
use Rattle.calculus.specs.Terms.{Term, Terms, literal, own, called, error, unary, binary, choice, default, none, also}
use Rattle.calculus.specs.Evaluation.{Env, eval, exceptions}
use Rattle.answers.specs.declared.Cause.TheVariants.{Empty, Conflict, OutOfRange}
use Rattle.calculus.specs.declared.Joined.TheVariants.{Nothing}
use Rattle.calculus.proofs.Overriding.{step_default}
use Rattle.laws.proofs.Booleans.{decide}
use Rattle.book.specs.Syntax.{Scope}
use Rattle.book.specs.Typing.{type_at, called_type_at}
use Rattle.book.specs.Trees.{tree, has_clause, own_target, called_target}
use Rattle.book.specs.Steps.{reads, depends_on}
use Rattle.book.specs.declared.ValueType.{ValueType}
use Rattle.book.specs.declared.Variable.{Variable}
use Rattle.acceptance.specs.Accepted.{WithinLimits, WellFormed}
use Rattle.acceptance.proofs.Reading.{variable_depends, call_depends}
use Rattle.evaluation.specs.Handing.{hands, falls_back, Handing, handed, failed, in_front, handing_by, handing}
use Rattle.evaluation.specs.Types.{Typed, AllTyped, OwnNamed, CalledNamed, WellTyped}
use Rattle.evaluation.specs.Meaning.{Overrides}
use Rattle.evaluation.proofs.Handing.{handing_agrees}
use Rattle.evaluation.proofs.Soundness.{typed_map}
use Rattle.evaluation.proofs.Trees.{tree_typed}
use Rattle.calculus.specs.declared.Joined.{Joined}
use Rattle.answers.specs.declared.Cause.{Cause}
use Rattle.calculus.specs.declared.Value.{Value}

module _ (e f : Env) where
  abbrev SameOwn : ℕ → ValueType → Type 0
  SameOwn x t = e.own x ≡ f.own x

  abbrev SameCalled : ℕ → ℕ → ValueType → Type 0
  SameCalled k x t = e.called k x ≡ f.called k x

  mutual
    unfolding eval exceptions Typed AllTyped

    eval_same : (t : Term) (u : ValueType) → Typed SameOwn SameCalled t u → eval e t ≡ eval f t
    eval_same (literal v) u h = refl
    eval_same (own x) u h = rw h
    eval_same (called k x) u h = rw h
    eval_same (error c) u h = refl
    eval_same (unary op a) u h = rw (eval_same a _ h.0)
    eval_same (binary op a b) u h = rw (eval_same a _ h.1, eval_same b _ h.2)
    eval_same (choice c a b) u h = rw (eval_same c _ h.0, eval_same a u h.1, eval_same b u h.2)
    eval_same (default es j c) u h = rw (exceptions_same (Ok Nothing) es u h.0, eval_same j _ h.1, eval_same c u h.2)

    exceptions_same : (g : Result Joined Cause) (ts : Terms) (u : ValueType) → AllTyped SameOwn SameCalled ts u → exceptions e g ts ≡ exceptions f g ts
    exceptions_same g none u h = refl
    exceptions_same g (also t ts) u h = rw (eval_same t u h.0) (exceptions_same _ ts u h.1)

  -- they hold the same of what step x depends on
  pub record SameFor (s : Scope) (x : ℕ) : Type 0 where
    pub own : (w : ℕ) → w < length s.variables → depends_on s x w ≡ true → e.own w ≡ f.own w
    pub called : (k : ℕ) → k < length s.sub_scopes → depends_on s x (length s.variables + k) ≡ true → (v : ℕ) → e.called k v ≡ f.called k v

  module _ (book : List Scope) (s : Scope) (formed : WellFormed book s) (within : WithinLimits s) (x : ℕ) (same : SameFor s x) where
    term_same : (t : Term) (u : ValueType) → ((w : ℕ) → reads (length s.variables) w t ≡ true → depends_on s x w ≡ true)
        → WellTyped book s t u → eval e t ≡ eval f t
    term_same t u depends h =
        eval_same t u
        (typed_map (length s.variables) (OwnNamed s) SameOwn (CalledNamed book s) SameCalled t u
        (record {
          own = λ w t₁ r n. same.own w n.0 (depends w r);
          calls = λ k w t₁ r n. same.called k n.0 (depends (length s.variables + k) r) w;
        })
        h)

    few : length s.clauses ≤ 255
    few = omega (arith, within.clauses)

    pub tree_same : x < length s.variables → eval e (tree s (own_target x)) ≡ eval f (tree s (own_target x))
    tree_same l =
        term_same (tree s (own_target x)) (type_at s x) (λ w r. (variable_depends book s formed within x w l).1 r)
        (tree_typed book s formed few (own_target x))

    override_same : (k : ℕ) → k < length s.sub_scopes → x ≡ length s.variables + k
        → (v : ℕ) → eval e (tree s (called_target k v)) ≡ eval f (tree s (called_target k v))
    override_same k l h v =
        let other : eqb k 255 ≡ false = ne_eqb k 255 (λ q. omega (arith, within.sub_scopes)) in
        term_same (tree s (called_target k v)) (called_type_at book s k v) (λ w r. rw h ((call_depends book s formed within k w l).1 (v, r)))
        (rw other at (tree_typed book s formed few (called_target k v)))

    pub handing_same : (k : ℕ) → k < length s.sub_scopes → x ≡ length s.variables + k
        → (v : ℕ) (xs : List Variable) → handing e s k v xs ≡ handing f s k v xs
    handing_same k l h = handing_agrees e f s k (override_same k l h)

-- What a call hands over

module _ (e : Env) (s : Scope) (k : ℕ) where
  -- the variables from v on
  pub record Each (v : ℕ) (xs : List Variable) (gs : List (Option Value)) : Type 0 where
    pub size : length gs ≡ length xs
    pub overrides : (j : ℕ) → j < length gs → Overrides e s k (v + j) (get_or gs j None)

  each_front : (v : ℕ) (x : Variable) (xs : List Variable) (g : Option Value) (gs : List (Option Value)) → Overrides e s k v g → Each (suc v) xs gs
      → Each v (x ∷ xs) (g ∷ gs)
  each_front v x xs g gs o r = record { size = ap suc r.size; overrides = at }
    where
      at : (j : ℕ) → j < length (g ∷ gs) → Overrides e s k (v + j) (get_or (g ∷ gs) j None)
      at zero l = let z : v + 0 ≡ v = omega arith in rw z o
      at (suc j) l = let z : v + suc j ≡ suc v + j = omega arith in rw z (r.overrides j (omega arith))

  pub each_rest : (v : ℕ) (x : Variable) (xs : List Variable) (g : Option Value) (gs : List (Option Value)) → Each v (x ∷ xs) (g ∷ gs)
      → Overrides e s k v g × Each (suc v) xs gs
  each_rest v x xs g gs r = (
    (let z : v + 0 ≡ v = omega arith in rw z at (r.overrides 0 (omega arith))),
    record {
      size = (let z = r.size in omega arith);
      overrides = λ j l. let z : suc v + j ≡ v + suc j = omega arith in rw z (r.overrides (suc j) (omega arith));
    },
  )

  -- what is handed over is so in each variable
  abbrev AllOf : ℕ → List Variable → Handing → Type 0
  AllOf v xs (handed gs) = Each v xs gs
  AllOf v xs (failed c) = Unit {0}

  front_all : (v : ℕ) (x : Variable) (xs : List Variable) (g : Option Value) (h : Handing) → Overrides e s k v g → AllOf (suc v) xs h
      → AllOf v (x ∷ xs) (in_front (hands g) h)
  front_all v x xs g (handed gs) o r = each_front v x xs g gs o r
  front_all v x xs g (failed c) o r = tt

  evaluated_all : (v : ℕ) (x : Variable) (xs : List Variable) (o : Result Value Cause) (h : Handing) → has_clause s (called_target k v) ≡ true
      → eval e (tree s (called_target k v)) ≡ o → AllOf (suc v) xs h → AllOf v (x ∷ xs) (in_front (falls_back o) h)
  evaluated_all v x xs (Ok y) h q p r = front_all v x xs (Some y) h (Overrides.with y q (sym (step_default None e (tree s (called_target k v))) ∙ p)) r
  evaluated_all v x xs (Err Empty) h q p r = front_all v x xs None h (Overrides.empty q (sym (step_default None e (tree s (called_target k v))) ∙ p)) r
  evaluated_all v x xs (Err Conflict) h q p r = tt
  evaluated_all v x xs (Err (OutOfRange o)) h q p r = tt

  all_of : (v : ℕ) (xs : List Variable) → AllOf v xs (handing e s k v xs)
  unfolding handing_by
  all_of v [] = record { size = refl; overrides = λ j l. absurd (omega arith) }
  all_of v (x ∷ xs) =
      let rest = handing e s k (suc v) xs in
      ⊎_elim
      (λ (q : has_clause s (called_target k v) ≡ true).
      rw q (evaluated_all v x xs (eval e (tree s (called_target k v))) rest q refl (all_of (suc v) xs)))
      (λ (q : has_clause s (called_target k v) ≡ false). rw q (front_all v x xs None rest (Overrides.without q) (all_of (suc v) xs)))
      (decide (has_clause s (called_target k v)))

  pub handing_overrides : (v : ℕ) (xs : List Variable) (gs : List (Option Value)) → handing e s k v xs ≡ handed gs → Each v xs gs
  handing_overrides v xs gs h = subst (AllOf v xs) h (all_of v xs)

  one_more : (v : ℕ) (x : Variable) (xs : List Variable) (g : Option Value) (gs : List (Option Value)) → Overrides e s k v g
      → handing e s k (suc v) xs ≡ handed gs → handing e s k v (x ∷ xs) ≡ handed (g ∷ gs)
  unfolding handing_by
  one_more v x xs g gs (Overrides.without q) h = rw (q, h)
  one_more v x xs g gs (Overrides.with y q p) h =
      let here : eval e (tree s (called_target k v)) ≡ Ok y = step_default None e (tree s (called_target k v)) ∙ p in
      rw (q, here, h)
  one_more v x xs g gs (Overrides.empty q p) h =
      let here : eval e (tree s (called_target k v)) ≡ Err Empty = step_default None e (tree s (called_target k v)) ∙ p in
      rw (q, here, h)

  pub overrides_handing : (v : ℕ) (xs : List Variable) (gs : List (Option Value)) → Each v xs gs → handing e s k v xs ≡ handed gs
  unfolding handing_by
  overrides_handing v [] [] r = refl
  overrides_handing v [] (g ∷ gs) r = absurd (let z = r.size in omega arith)
  overrides_handing v (x ∷ xs) [] r = absurd (let z = r.size in omega arith)
  overrides_handing v (x ∷ xs) (g ∷ gs) r =
      let p = each_rest v x xs g gs r in
      one_more v x xs g gs p.0 (overrides_handing (suc v) xs gs p.1)
