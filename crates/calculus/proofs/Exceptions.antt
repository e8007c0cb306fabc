-- What exceptions come to, together. Assumes nothing.
use mathlib.Core.Path.{◌≡◌, refl, sym, ap, ◌∙◌}
use Rattle.std.specs.Prelude.{Result, Ok, Err}
use Rattle.calculus.specs.Defaults.{found, together, gather}
use Rattle.calculus.specs.Terms.{Terms, none, also}
use Rattle.calculus.specs.Evaluation.{Env, eval, exceptions}
use Rattle.answers.specs.declared.Cause.{Cause}
use Rattle.calculus.specs.declared.Joined.TheVariants.{Nothing}
use Rattle.calculus.proofs.Joining.{join_nothing_left, join_nothing_right, join_assoc}
use Rattle.calculus.specs.declared.Joined.{Joined}
use Rattle.calculus.specs.declared.Value.{Value}

-- the laws of the join, of parts of the exceptions, some of which may have ended
pub together_nothing_left : (a : Result Joined Cause) → together (Ok Nothing) a ≡ a
together_nothing_left (Ok j) = rw join_nothing_left
together_nothing_left (Err c) = refl

pub together_nothing_right : (a : Result Joined Cause) → together a (Ok Nothing) ≡ a
together_nothing_right (Ok j) = rw join_nothing_right
together_nothing_right (Err c) = refl

pub together_assoc : (a b c : Result Joined Cause) → together (together a b) c ≡ together a (together b c)
together_assoc (Err x) b c = refl
together_assoc (Ok j) (Err x) c = refl
together_assoc (Ok j) (Ok k) (Err x) = refl
together_assoc (Ok j) (Ok k) (Ok l) = rw join_assoc

regroup : (a b c : Result Joined Cause) → together (together a b) c ≡ together a (together (together (Ok Nothing) b) c)
regroup a b c = rw (together_nothing_left b, together_assoc a b c)

-- "The first that is conflict or out of range is the result"
pub gather_ended : (c : Cause) (o : Result Value Cause) → gather (Err c) o ≡ Err c
gather_ended c o = refl

-- what came before a run of exceptions, and what the run itself comes to
pub exceptions_after : (e : Env) (g : Result Joined Cause) (ts : Terms) → exceptions e g ts ≡ together g (exceptions e (Ok Nothing) ts)
unfolding exceptions
exceptions_after e g none = rw together_nothing_right
exceptions_after e g (also t ts) =
    let f = found (eval e t) in
    exceptions_after e (together g f) ts
    ∙ regroup g f (exceptions e (Ok Nothing) ts)
    ∙ ap (together g) (sym (exceptions_after e (together (Ok Nothing) f) ts))

pub exceptions_ended : (e : Env) (c : Cause) (ts : Terms) → exceptions e (Err c) ts ≡ Err c
exceptions_ended e c ts = exceptions_after e (Err c) ts
