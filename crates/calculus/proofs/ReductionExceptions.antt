-- Exceptions that are values, as the reduction rules write them: what they come to, and which of the rules fits.
-- Assumes nothing.
use Prim.Native.Nat.{ℕ, zero, suc}
use mathlib.Core.Path.{◌≡◌, refl, ap, subst, ◌∙◌}
use mathlib.Core.List.{List, [], ◌∷◌, ◌++◌}
use Rattle.std.specs.Prelude.{Ok, Option, None, Some}
use Rattle.calculus.specs.Joining.{join}
use Rattle.calculus.specs.Terms.{Terms, literal, error, none, also}
use Rattle.calculus.specs.Evaluation.{Env, exceptions}
use Rattle.calculus.specs.Reduction.{settled_term, behind, empties}
use Rattle.calculus.specs.declared.Value.{Value}
use Rattle.answers.specs.declared.Cause.TheVariants.{Empty}
use Rattle.calculus.specs.declared.Joined.{Joined}
use Rattle.calculus.specs.declared.Joined.TheVariants.{Nothing, One, Many}
use Rattle.calculus.proofs.Joining.{join_nothing_right, join_many_left, join_assoc}

-- what exceptions that are values come to
unfoldable pub joined : List (Option Value) → Joined
joined [] = Nothing
joined (None ∷ vs) = joined vs
joined (Some v ∷ vs) = join (One v) (joined vs)

pub exceptions_behind : (e : Env) (j : Joined) (vs : List (Option Value)) (es : Terms)
    → exceptions e (Ok j) (behind vs es) ≡ exceptions e (Ok (join j (joined vs))) es
unfolding exceptions behind joined
exceptions_behind e j [] es = rw (join_nothing_right j)
exceptions_behind e j (None ∷ vs) es = rw (join_nothing_right j) (exceptions_behind e j vs es)
exceptions_behind e j (Some v ∷ vs) es =
    exceptions_behind e (join j (One v)) vs es ∙ ap (λ k. exceptions e (Ok k) es) (join_assoc j (One v) (joined vs))

pub exceptions_empties : (e : Env) (j : Joined) (n : ℕ) (es : Terms) → exceptions e (Ok j) (empties n es) ≡ exceptions e (Ok j) es
unfolding exceptions empties
exceptions_empties e j zero es = refl
exceptions_empties e j (suc n) es = rw (join_nothing_right j) (exceptions_empties e j n es)

-- two values among others give many
pub two_join : (j k l : Joined) (v w : Value) → join (join (join (join j (One v)) k) (One w)) l ≡ Many
two_join Nothing Nothing l v w = join_many_left l
two_join Nothing (One u) l v w = join_many_left l
two_join Nothing Many l v w = join_many_left l
two_join (One u) k l v w = rw (join_many_left k) (join_many_left l)
two_join Many k l v w = rw (join_many_left k) (join_many_left l)

-- one more exception that is a value
pub behind_one_more : (vs : List (Option Value)) (v : Option Value) (es : Terms)
    → behind (vs ++ (v ∷ [])) es ≡ behind vs (also (settled_term v) es)
unfolding behind
behind_one_more [] v es = refl
behind_one_more (u ∷ vs) v es = ap (also (settled_term u)) (behind_one_more vs v es)

all_empty : ℕ → List (Option Value)
all_empty zero = []
all_empty (suc n) = None ∷ all_empty n

empties_behind : (n : ℕ) (es : Terms) → behind (all_empty n) es ≡ empties n es
unfolding behind empties all_empty
empties_behind zero es = refl
empties_behind (suc n) es = ap (also (error Empty)) (empties_behind n es)

-- exceptions that are values: none that is not empty, one, or two and perhaps more
pub data Counted : Terms → Type 0 where
  no_value : (n : ℕ) → Counted (empties n none)
  one_value : (m n : ℕ) (v : Value) → Counted (empties m (also (literal v) (empties n none)))
  two_values : (us vs ws : List (Option Value)) (v w : Value)
      → Counted (behind us (also (literal v) (behind vs (also (literal w) (behind ws none)))))

after_empty : {es : Terms} → Counted es → Counted (also (error Empty) es)
unfolding empties behind
after_empty (no_value n) = no_value (suc n)
after_empty (one_value m n v) = one_value (suc m) n v
after_empty (two_values us vs ws v w) = two_values (None ∷ us) vs ws v w

after_value : (u : Value) {es : Terms} → Counted es → Counted (also (literal u) es)
unfolding empties behind
after_value u (no_value n) = one_value zero n u
after_value u (one_value m n v) =
    subst (λ es. Counted (also (literal u) es))
    (empties_behind m (also (literal v) (behind (all_empty n) none)) ∙ ap (λ es. empties m (also (literal v) es)) (empties_behind n none))
    (two_values [] (all_empty m) (all_empty n) u v)
after_value u (two_values us vs ws v w) = two_values (Some u ∷ us) vs ws v w

pub counted : (vs : List (Option Value)) → Counted (behind vs none)
unfolding behind empties
counted [] = no_value zero
counted (None ∷ vs) = after_empty (counted vs)
counted (Some v ∷ vs) = after_value v (counted vs)
