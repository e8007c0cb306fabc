-- What a term evaluates to, and a variable's step.
use Rattle.std.specs.Prelude.{ℕ, Result, Ok, Err, Option, None, Some}
use Rattle.calculus.specs.Outcomes.{unary_on, binary_on, choose}
use Rattle.calculus.specs.Defaults.{gather, settle}
use Rattle.calculus.specs.Terms.{Term, Terms, literal, own, called, error, unary, binary, choice, default, none, also}
use Rattle.calculus.specs.declared.Value.{Value}
use Rattle.answers.specs.declared.Cause.TheVariants.{Empty}
use Rattle.calculus.specs.declared.Joined.TheVariants.{Nothing}
use Rattle.calculus.specs.declared.Joined.{Joined}
use Rattle.answers.specs.declared.Cause.{Cause}

-- what a variable holds where it is read: own variables by number, called sub-scopes' by sub-scope and number
pub record Env : Type 0 where
  pub own : ℕ → Value
  pub called : ℕ → ℕ → Value

unfoldable mutual
  pub eval : Env → Term → Result Value Cause
  eval e (literal v) = Ok v
  eval e (own x) = Ok (e.own x)
  eval e (called s x) = Ok (e.called s x)
  eval e (error c) = Err c
  eval e (unary op a) = unary_on op (eval e a)
  eval e (binary op a b) = binary_on op (eval e a) (eval e b)
  eval e (choice c a b) = choose (eval e c) (eval e a) (eval e b)
  -- "With none, the justification is evaluated; yes evaluates the consequence, no gives empty"
  eval e (default xs j c) = settle (exceptions e (Ok Nothing) xs) (choose (eval e j) (eval e c) (Err Empty))

  -- "A default term evaluates every exception, left to right"
  pub exceptions : Env → Result Joined Cause → Terms → Result Joined Cause
  exceptions e g none = g
  exceptions e g (also t ts) = exceptions e (gather g (eval e t)) ts

-- "A given variable takes the given value and its tree is not evaluated"; o is the tree's outcome
abbrev pub takes : Option Value → Result Value Cause → Result Value Cause
takes (Some v) o = Ok v
takes None o = o

-- a variable's step
abbrev pub step : Option Value → Env → Term → Result Value Cause
step g e t = takes g (eval e t)
