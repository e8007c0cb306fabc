-- An overridden variable beside the source paper's figure 7, which makes of a variable the default ⟨ℓ () | true :- e⟩: its one exception is what the caller
-- provides, and "barring any useful information provided by the caller, we fall back on the existing definition". Figure 7 forces an override in the
-- caller, so by figure 6 an empty one ends the caller, as it did before paper 02, No. 5. Now the variable's outcome is that of a default whose one
-- exception has the override tree's outcome; where that is an end, it ends the run before the entry.
--     override_settles, override_stops    by the outcome of the override tree: what is handed over, and an end
--     override_exception                  so, read in one environment, the override tree is that exception
--     rules_never_empty                   a tree of rules is never empty, so an override by rules never falls back
-- Assumes nothing.
use mathlib.Core.Path.{◌≡◌, refl, sym, ap, ◌∙◌}
use mathlib.Core.Bool.{Bool, true, false, false≢true}
use Rattle.std.specs.Prelude.{Result, Ok, Err, Option, None}
use Rattle.calculus.specs.Terms.{Term, Terms, literal, default, none, also}
use Rattle.calculus.specs.Defaults.{found, gather, settle}
use Rattle.calculus.specs.Evaluation.{Env, eval, exceptions, step}
use Rattle.calculus.specs.declared.Value.{Value}
use Rattle.calculus.specs.declared.Value.TheVariants.{Truth}
use Rattle.answers.specs.declared.Cause.{Cause}
use Rattle.answers.specs.declared.Cause.TheVariants.{Empty, Conflict, OutOfRange}
use Rattle.calculus.specs.declared.Joined.TheVariants.{Nothing, One, Many}
use Rattle.book.specs.Syntax.{Scope}
use Rattle.book.specs.Trees.{has_rule, bases, tree}
use Rattle.book.specs.declared.Target.{Target}
use Rattle.evaluation.specs.Handing.{Handed, hands, stops, falls_back}
use Rattle.calculus.specs.declared.Joined.{Joined}

abbrev handed_in : Handed → Option Value
handed_in (hands g) = g
handed_in (stops c) = None

abbrev cause_in : Handed → Cause
cause_in (hands g) = Empty
cause_in (stops c) = c

abbrev is_handed : Handed → Bool
is_handed (hands g) = true
is_handed (stops c) = false

pub override_settles : (o : Result Value Cause) (g : Option Value) → falls_back o ≡ hands g → (e : Env) (t : Term) → step g e t ≡ settle (found o) (eval e t)
override_settles (Ok y) g q e t = ap (λ (h : Option Value). step h e t) (ap handed_in (sym q))
override_settles (Err Empty) g q e t = ap (λ (h : Option Value). step h e t) (ap handed_in (sym q))
override_settles (Err Conflict) g q e t = absurd (false≢true (ap is_handed q))
override_settles (Err (OutOfRange s)) g q e t = absurd (false≢true (ap is_handed q))

pub override_stops : (o : Result Value Cause) (c : Cause) → falls_back o ≡ stops c → (r : Result Value Cause) → settle (found o) r ≡ Err c
override_stops (Ok y) c q r = absurd (false≢true (ap is_handed (sym q)))
override_stops (Err Empty) c q r = absurd (false≢true (ap is_handed (sym q)))
override_stops (Err Conflict) c q r = ap (λ (h : Handed). Err (cause_in h)) q
override_stops (Err (OutOfRange s)) c q r = ap (λ (h : Handed). Err (cause_in h)) q

first_found : (o : Result Value Cause) → gather (Ok Nothing) o ≡ found o
first_found (Ok y) = refl
first_found (Err Empty) = refl
first_found (Err Conflict) = refl
first_found (Err (OutOfRange s)) = refl

pub override_exception : (u : Term) (e : Env) (t : Term) (g : Option Value) → falls_back (eval e u) ≡ hands g
    → step g e t ≡ eval e (default (also u none) (literal (Truth true)) t)
unfolding eval exceptions
override_exception u e t g q =
    override_settles (eval e u) g q e t ∙ ap (λ (h : Result Joined Cause). settle h (eval e t)) (sym (first_found (eval e u)))

-- Rules

-- exceptions end by conflict or out of range, if they end
abbrev NotEndedEmpty : Result Joined Cause → Type 0
NotEndedEmpty (Ok j) = Unit {0}
NotEndedEmpty (Err Empty) = ⊥
NotEndedEmpty (Err Conflict) = Unit {0}
NotEndedEmpty (Err (OutOfRange s)) = Unit {0}

not_ended_gather : (g : Result Joined Cause) (o : Result Value Cause) → NotEndedEmpty g → NotEndedEmpty (gather g o)
not_ended_gather (Err c) o p = p
not_ended_gather (Ok j) (Ok v) p = tt
not_ended_gather (Ok j) (Err Empty) p = tt
not_ended_gather (Ok j) (Err Conflict) p = tt
not_ended_gather (Ok j) (Err (OutOfRange s)) p = tt

not_ended_exceptions : (e : Env) (g : Result Joined Cause) (ts : Terms) → NotEndedEmpty g → NotEndedEmpty (exceptions e g ts)
unfolding exceptions
not_ended_exceptions e g none p = p
not_ended_exceptions e g (also t ts) p = not_ended_exceptions e (gather g (eval e t)) ts (not_ended_gather g (eval e t) p)

abbrev ends_empty : Result Value Cause → Bool
ends_empty (Ok v) = false
ends_empty (Err Empty) = true
ends_empty (Err Conflict) = false
ends_empty (Err (OutOfRange s)) = false

settled : (g : Result Joined Cause) (v : Value) → NotEndedEmpty g → settle g (Ok v) ≡ Err Empty → ⊥
settled (Ok Nothing) v p q = false≢true (ap ends_empty q)
settled (Ok (One u)) v p q = false≢true (ap ends_empty q)
settled (Ok Many) v p q = false≢true (ap ends_empty q)
settled (Err Empty) v p q = p
settled (Err Conflict) v p q = false≢true (ap ends_empty q)
settled (Err (OutOfRange s)) v p q = false≢true (ap ends_empty q)

pub rules_never_empty : (e : Env) (s : Scope) (t : Target) → has_rule s t ≡ true → eval e (tree s t) ≡ Err Empty → ⊥
unfolding tree eval
rules_never_empty e s t h q =
    settled (exceptions e (Ok Nothing) (bases s t)) (Truth false) (not_ended_exceptions e (Ok Nothing) (bases s t) tt) (rw h at q)
