-- The join beside figure 10 of the source paper.
--     join_figure10, join-following        "without 'many' what figure 10 gives, save that two values give many where figure 10 raises"
--     returns_joined                       what figure 10 returns is what is joined, and nothing else is
--     raises_joined, raises-two-values     it raises exactly where many is joined of what has none, and exactly where two values meet
--     without_many                         nothing and values are what is joined without many
--     exceptions_processed                 the whole figure: exceptions that are empty or values come to what its fold gives, a raise being many
--     default_processed                    a default of them evaluates to what figure 9 makes of that
-- Assumes nothing.
use mathlib.Core.Path.{◌≡◌, refl, sym, ap, ◌∙◌}
use mathlib.Core.Bool.{Bool, true, false, false≢true}
use mathlib.Core.Logic.{◌↔◌}
use mathlib.Core.List.{List, [], ◌∷◌}
use Rattle.std.specs.Prelude.{Result, Ok, Option, None, Some}
use Rattle.calculus.specs.Joining.{join}
use Rattle.calculus.specs.Defaults.{settle}
use Rattle.calculus.specs.Terms.{Term, error, choice, default, none}
use Rattle.calculus.specs.Evaluation.{Env, eval, exceptions}
use Rattle.calculus.specs.Reduction.{behind}
use Rattle.calculus.specs.ProcessExceptions.{Processed, returns, raises, figure10, following, fold_from, process_exceptions, afterwards, optional, as_joined}
use Rattle.calculus.specs.declared.Value.{Value}
use Rattle.answers.specs.declared.Cause.TheVariants.{Empty}
use Rattle.calculus.specs.declared.Joined.{Joined}
use Rattle.calculus.specs.declared.Joined.TheVariants.{Nothing, One, Many}
use Rattle.calculus.proofs.Joining.{join_nothing_left, join_nothing_right, join_many_left, join_assoc}
use Rattle.calculus.proofs.ReductionExceptions.{joined, exceptions_behind}
use Rattle.answers.specs.declared.Cause.{Cause}

pub join_figure10 : (a b : Option Value) → join (optional a) (optional b) ≡ as_joined (figure10 a b)
join_figure10 None None = refl
join_figure10 None (Some v) = refl
join_figure10 (Some u) None = refl
join_figure10 (Some u) (Some v) = refl

-- the same after a raise: many stays, as what is raised does
pub join_following : (p : Processed) (b : Option Value) → join (as_joined p) (optional b) ≡ as_joined (following p (λ a. figure10 a b))
join_following (returns a) b = join_figure10 a b
join_following raises b = join_many_left (optional b)

-- what figure 10 comes to is told from what is joined
abbrev processed : Joined → Processed
processed Nothing = returns None
processed (One v) = returns (Some v)
processed Many = raises

processed_back : (p : Processed) → processed (as_joined p) ≡ p
processed_back (returns None) = refl
processed_back (returns (Some v)) = refl
processed_back raises = refl

told : (p : Processed) (a b : Option Value) → (figure10 a b ≡ p) ↔ (join (optional a) (optional b) ≡ as_joined p)
told p a b = (
  λ e. join_figure10 a b ∙ ap as_joined e,
  λ e. sym (processed_back (figure10 a b)) ∙ ap processed (sym (join_figure10 a b) ∙ e) ∙ processed_back p,
)

pub returns_joined : (a b c : Option Value) → (figure10 a b ≡ returns c) ↔ (join (optional a) (optional b) ≡ optional c)
returns_joined a b c = told (returns c) a b

pub raises_joined : (a b : Option Value) → (figure10 a b ≡ raises) ↔ (join (optional a) (optional b) ≡ Many)
raises_joined a b = told raises a b

abbrev is_raise : Processed → Bool
is_raise (returns a) = false
is_raise raises = true

abbrev is_some : Option Value → Bool
is_some None = false
is_some (Some v) = true

pub raises_two_values : (a b : Option Value) → (figure10 a b ≡ raises) ↔ ((u : Value) × (v : Value) × (a ≡ Some u) × (b ≡ Some v))
raises_two_values None b = (λ e. absurd (false≢true (ap is_raise e)), λ h. absurd (false≢true (ap is_some h.2)))
raises_two_values (Some u) None = (λ e. absurd (false≢true (ap is_raise e)), λ h. absurd (false≢true (ap is_some h.3)))
raises_two_values (Some u) (Some v) = (λ e. (u, v, refl, refl), λ h. refl)

pub without_many : (j : Joined) → (j ≡ Many → ⊥) → (a : Option Value) × (j ≡ optional a)
without_many Nothing n = (None, refl)
without_many (One v) n = (Some v, refl)
without_many Many n = absurd (n refl)

-- The whole figure

fold_joined : (a : Option Value) (vs : List (Option Value)) → join (optional a) (joined vs) ≡ as_joined (fold_from vs a)
unfolding joined fold_from
fold_joined a [] = join_nothing_right (optional a)
fold_joined None (None ∷ vs) = fold_joined None vs
fold_joined None (Some v ∷ vs) = join_nothing_left (join (One v) (joined vs)) ∙ fold_joined (Some v) vs
fold_joined (Some u) (None ∷ vs) = fold_joined (Some u) vs
fold_joined (Some u) (Some v ∷ vs) = sym (join_assoc (One u) (One v) (joined vs)) ∙ join_many_left (joined vs)

pub exceptions_processed : (e : Env) (vs : List (Option Value))
    → exceptions e (Ok Nothing) (behind vs none) ≡ Ok (as_joined (process_exceptions vs))
unfolding exceptions
exceptions_processed e vs = exceptions_behind e Nothing vs none ∙ ap Ok (fold_joined None vs)

settled : (p : Processed) (rest : Result Value Cause) → settle (Ok (as_joined p)) rest ≡ afterwards p rest
settled (returns None) rest = refl
settled (returns (Some v)) rest = refl
settled raises rest = refl

pub default_processed : (e : Env) (vs : List (Option Value)) (j c : Term)
    → eval e (default (behind vs none) j c) ≡ afterwards (process_exceptions vs) (eval e (choice j c (error Empty)))
unfolding eval
default_processed e vs j c = rw (exceptions_processed e vs) (settled (process_exceptions vs) (eval e (choice j c (error Empty))))
