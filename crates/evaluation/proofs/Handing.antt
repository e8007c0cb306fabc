-- What a call hands over, and what it did under the former meaning.
--     handing_agrees             it is the same in environments that agree on the override trees
--     handing_kept               a call whose overrides did not end empty hands over the same, or ends by the same cause
--     ends_empty_lem, empty_ends     they ended empty exactly where the first override tree without a value is empty
--     never_empty                now they never do
-- Assumes nothing.
use Prim.Native.Nat.{ℕ, zero, suc, ◌+◌, ◌<◌}
use mathlib.Core.Path.{◌≡◌, refl, sym, ap, ◌∙◌}
use mathlib.Core.Bool.{Bool, true, false, cond, false≢true}
use mathlib.Core.List.{List, [], ◌∷◌}
use mathlib.Core.Logic.{⊎_elim}
use native.Mathlib.Omega.{arith}
use Rattle.std.specs.Prelude.{Result, Ok, Err, Option, None, Some}
use Rattle.laws.proofs.Booleans.{decide}
use Rattle.calculus.specs.Evaluation.{Env, eval}
use Rattle.calculus.specs.declared.Value.{Value}
use Rattle.answers.specs.declared.Cause.TheVariants.{Empty, Conflict, OutOfRange}
use Rattle.book.specs.Syntax.{Scope}
use Rattle.book.specs.Trees.{tree, has_clause, called_target}
use Rattle.book.specs.declared.Variable.{Variable}
use Rattle.evaluation.specs.Handing.{hands, falls_back, Handing, handed, failed, in_front, override_by, handing_by, handing}
use Rattle.evaluation.specs.Former.{ends_caller, CallMeetsEmpty}
use Rattle.answers.specs.declared.Cause.{Cause}

pub handing_agrees : (e f : Env) (s : Scope) (k : ℕ) → ((v : ℕ) → eval e (tree s (called_target k v)) ≡ eval f (tree s (called_target k v)))
    → (v : ℕ) (xs : List Variable) → handing e s k v xs ≡ handing f s k v xs
unfolding handing_by
handing_agrees e f s k h v [] = refl
handing_agrees e f s k h v (x ∷ xs) = rw (h v, handing_agrees e f s k h (suc v) xs)

-- Under the former meaning

-- one override in front, under both meanings
front_kept : (o : Result Value Cause) (r f : Handing) → ((f ≡ failed Empty → ⊥) → r ≡ f) → (in_front (ends_caller o) f ≡ failed Empty → ⊥)
    → in_front (falls_back o) r ≡ in_front (ends_caller o) f
front_kept (Ok y) r f same never = ap (in_front (hands (Some y))) (same (λ q. never (ap (in_front (hands (Some y))) q)))
front_kept (Err Empty) r f same never = absurd (never refl)
front_kept (Err Conflict) r f same never = refl
front_kept (Err (OutOfRange s)) r f same never = refl

pub handing_kept : (e : Env) (s : Scope) (k v : ℕ) (xs : List Variable) → (handing_by ends_caller e s k v xs ≡ failed Empty → ⊥)
    → handing e s k v xs ≡ handing_by ends_caller e s k v xs
unfolding handing_by
handing_kept e s k v [] never = refl
handing_kept e s k v (x ∷ xs) never = go (has_clause s (called_target k v)) (handing_kept e s k (suc v) xs) never
  where
    o : Result Value Cause
    o = eval e (tree s (called_target k v))

    rest : Handing
    rest = handing e s k (suc v) xs

    former : Handing
    former = handing_by ends_caller e s k (suc v) xs

    go : (b : Bool) → ((former ≡ failed Empty → ⊥) → rest ≡ former) → (in_front (cond b (ends_caller o) (hands None)) former ≡ failed Empty → ⊥)
        → in_front (cond b (falls_back o) (hands None)) rest ≡ in_front (cond b (ends_caller o) (hands None)) former
    go true same none = front_kept o rest former same none
    go false same none = ap (in_front (hands None)) (same (λ q. none (ap (in_front (hands None)) q)))

-- a call that fails empty under the former meaning has an empty override

abbrev pub fails_empty : Handing → Bool
fails_empty (handed gs) = false
fails_empty (failed Empty) = true
fails_empty (failed Conflict) = false
fails_empty (failed (OutOfRange s)) = false

front_empty : (g : Option Value) (h : Handing) → in_front (hands g) h ≡ failed Empty → h ≡ failed Empty
front_empty g (handed gs) q = absurd (false≢true (ap fails_empty q))
front_empty g (failed c) q = q

module _ (e : Env) (s : Scope) (k : ℕ) where
  abbrev Gives-at : ℕ → Type 0
  Gives-at v = has_clause s (called_target k v) ≡ true → (y : Value) × (eval e (tree s (called_target k v)) ≡ Ok y)

  -- the variable in front gives a value, or has no override
  behind : (v : ℕ) (x : Variable) (xs : List Variable) → Gives-at v → CallMeetsEmpty e s k (suc v) xs → CallMeetsEmpty e s k v (x ∷ xs)
  behind v x xs g m =
      let z : suc v + m.place ≡ v + suc m.place = omega arith in
      record {
        place = suc m.place;
        there = omega (arith, m.there);
        some = rw z at m.some;
        empty = rw z at m.empty;
        before = at;
      }
    where
      at : (u : ℕ) → u < suc m.place → Gives-at (v + u)
      at zero l = let z : v + 0 ≡ v = omega arith in rw z g
      at (suc u) l = let z : v + suc u ≡ suc v + u = omega arith in rw z (m.before u (omega arith))

  -- the outcome of the override in front
  by_outcome : (v : ℕ) (x : Variable) (xs : List Variable) (h : Handing) (o : Result Value Cause) → has_clause s (called_target k v) ≡ true
      → eval e (tree s (called_target k v)) ≡ o → (h ≡ failed Empty → CallMeetsEmpty e s k (suc v) xs) → in_front (ends_caller o) h ≡ failed Empty
      → CallMeetsEmpty e s k v (x ∷ xs)
  by_outcome v x xs h (Ok y) b p more q = behind v x xs (λ _. (y, p)) (more (front_empty (Some y) h q))
  by_outcome v x xs h (Err Empty) b p more q =
      let z : v + 0 ≡ v = omega arith in
      record { place = 0; there = omega arith; some = rw z b; empty = rw z p; before = λ u l. absurd (omega arith) }
  by_outcome v x xs h (Err Conflict) b p more q = absurd (false≢true (ap fails_empty q))
  by_outcome v x xs h (Err (OutOfRange r)) b p more q = absurd (false≢true (ap fails_empty q))

  pub ends_empty_lem : (v : ℕ) (xs : List Variable) → handing_by ends_caller e s k v xs ≡ failed Empty → CallMeetsEmpty e s k v xs
  unfolding handing_by
  ends_empty_lem v [] q = absurd (false≢true (ap fails_empty q))
  ends_empty_lem v (x ∷ xs) q =
      let h = handing_by ends_caller e s k (suc v) xs in
      ⊎_elim
      (λ (b : has_clause s (called_target k v) ≡ true).
      by_outcome v x xs h (eval e (tree s (called_target k v))) b refl (ends_empty_lem (suc v) xs) (rw b at q))
      (λ (b : has_clause s (called_target k v) ≡ false).
      behind v x xs (λ t. absurd (false≢true (sym b ∙ t))) (ends_empty_lem (suc v) xs (front_empty None h (rw b at q))))
      (decide (has_clause s (called_target k v)))

  -- the override trees behind the first
  rest_empty : (v : ℕ) (x : Variable) (xs : List Variable) (p : ℕ) (m : CallMeetsEmpty e s k v (x ∷ xs)) → m.place ≡ suc p → CallMeetsEmpty e s k (suc v) xs
  rest_empty v x xs p m q =
      let z : v + m.place ≡ suc v + p = omega arith in
      record {
        place = p;
        there = omega (arith, m.there);
        some = rw z at m.some;
        empty = rw z at m.empty;
        before = λ u l. let y : v + suc u ≡ suc v + u = omega arith in rw y at (m.before (suc u) (omega arith));
      }

  pub empty_ends : (v : ℕ) (xs : List Variable) → CallMeetsEmpty e s k v xs → handing_by ends_caller e s k v xs ≡ failed Empty
  unfolding handing_by
  empty_ends v [] m = absurd (omega (arith, m.there))
  empty_ends v (x ∷ xs) m =
      by_place m.place refl (λ p q. empty_ends (suc v) xs (rest_empty v x xs p m q))
    where
      by_place : (p : ℕ) → m.place ≡ p
          → ((p : ℕ) → m.place ≡ suc p → handing_by ends_caller e s k (suc v) xs ≡ failed Empty)
          → in_front (override_by ends_caller e s k v) (handing_by ends_caller e s k (suc v) xs) ≡ failed Empty
      by_place zero q more =
          let z : v + m.place ≡ v = omega arith in
          rw (rw z at m.some, rw z at m.empty)
      by_place (suc p) q more =
          let z : v + 0 ≡ v = omega arith in
          let first : Gives-at v = rw z at (m.before 0 (omega arith)) in
          ⊎_elim
          (λ (b : has_clause s (called_target k v) ≡ true). rw (b, (first b).1, more p q))
          (λ (b : has_clause s (called_target k v) ≡ false). rw (b, more p q))
          (decide (has_clause s (called_target k v)))

  -- the amended meaning never fails so
  front_never : (o : Result Value Cause) (h : Handing) → (h ≡ failed Empty → ⊥) → in_front (falls_back o) h ≡ failed Empty → ⊥
  front_never (Ok y) h never q = never (front_empty (Some y) h q)
  front_never (Err Empty) h never q = never (front_empty None h q)
  front_never (Err Conflict) h never q = false≢true (ap fails_empty q)
  front_never (Err (OutOfRange r)) h never q = false≢true (ap fails_empty q)

  pub never_empty : (v : ℕ) (xs : List Variable) → handing e s k v xs ≡ failed Empty → ⊥
  unfolding handing_by
  never_empty v [] q = false≢true (ap fails_empty q)
  never_empty v (x ∷ xs) q =
      let h = handing e s k (suc v) xs in
      ⊎_elim
      (λ (b : has_clause s (called_target k v) ≡ true). front_never (eval e (tree s (called_target k v))) h (never_empty (suc v) xs) (rw b at q))
      (λ (b : has_clause s (called_target k v) ≡ false). never_empty (suc v) xs (front_empty None h (rw b at q)))
      (decide (has_clause s (called_target k v)))
