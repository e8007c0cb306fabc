-- A term of a type evaluates to a value of the type, or to an end.
--     typed_map       a typing holds under whatever follows, of the variables that the term reads, from what it says of them
--     eval_typed      where every variable read holds a value of its type, the outcome is of the term's type
--     ready_typed     so it is of a term that is ready in a state of a run
--     held_type       what a set variable holds is of its type
-- Assumes nothing.
use Prim.Native.Nat.{ℕ, zero, suc, ◌+◌}
use mathlib.Core.Path.{◌≡◌, refl, subst}
use mathlib.Core.Bool.{Bool, true, false, cond, ◌||◌, or-true}
use mathlib.Core.List.{List, [], ◌∷◌}
use lib.ListN.{get_or}
use lib.IntN.{ℤ, neg_ℤ, ◌+ℤ◌, ◌-ℤ◌}
use borrow.Author.Tests.{eq-eqb}
use Rattle.std.specs.Prelude.{Result, Ok, Err, Option, None, Some}
use Rattle.calculus.specs.Values.{truth_of, number_of, ranged}
use Rattle.calculus.specs.Operators.{unary_of, binary_of}
use Rattle.calculus.specs.Outcomes.{bind, choose}
use Rattle.calculus.specs.Joining.{join}
use Rattle.calculus.specs.Defaults.{found, together, gather, settle}
use Rattle.calculus.proofs.Joining.{join_nothing_left, join_many_left}
use Rattle.calculus.proofs.Sides.{ranged_cases}
use Rattle.calculus.specs.Terms.{Term, Terms, literal, own, called, error, unary, binary, choice, default, none, also}
use Rattle.calculus.specs.Evaluation.{Env, eval, exceptions}
use Rattle.calculus.specs.declared.Value.{Value}
use Rattle.calculus.specs.declared.Value.TheVariants.{Truth}
use Rattle.answers.specs.declared.Cause.TheVariants.{Empty, Conflict, OutOfRange}
use Rattle.calculus.specs.declared.Joined.{Joined}
use Rattle.calculus.specs.declared.Joined.TheVariants.{Nothing, One, Many}
use Rattle.calculus.specs.declared.Unary.{Unary}
use Rattle.calculus.specs.declared.Unary.TheVariants.{Not, Negate}
use Rattle.calculus.specs.declared.Binary.{Binary}
use Rattle.calculus.specs.declared.Binary.TheVariants.{And, Add, Subtract, Equal, Less}
use Rattle.cells.specs.Cells.{held}
use Rattle.book.specs.Typing.{unary_type, binary_type}
use Rattle.book.specs.Steps.{reads, reads_any}
use Rattle.book.specs.declared.ValueType.{ValueType}
use Rattle.book.specs.declared.ValueType.TheVariants.{YesNo, Numeric}
use Rattle.evaluation.specs.Run.{State, env_of}
use Rattle.evaluation.specs.Types.{HasType, Holds, HoldsAt, OutcomeFits, Typed, AllTyped}
use Rattle.evaluation.specs.Readiness.{TermReady}
use Rattle.answers.specs.declared.Cause.{Cause}

-- Typings under other facts on the variables

module _ (v : ℕ) (P P' : ℕ → ValueType → Type 0) (Q Q' : ℕ → ℕ → ValueType → Type 0) where
  -- of the variables that are read, what is said gives what is to be said; r says which steps are read
  pub record Passes (r : ℕ → Bool) : Type 0 where
    pub own : (x : ℕ) (t : ValueType) → r x ≡ true → P x t → P' x t
    pub calls : (k x : ℕ) (t : ValueType) → r (v + k) ≡ true → Q k x t → Q' k x t

  left : (a b : ℕ → Bool) → Passes (λ w. a w || b w) → Passes a
  left a b p = record { own = λ x t e. p.own x t (rw e); calls = λ k x t e. p.calls k x t (rw e) }

  right : (a b : ℕ → Bool) → Passes (λ w. a w || b w) → Passes b
  right a b p = record { own = λ x t e. p.own x t (rw e (or-true (a x))); calls = λ k x t e. p.calls k x t (rw e (or-true (a (v + k)))) }

  mutual
    unfolding Typed reads

    pub typed_map : (t : Term) (u : ValueType) → Passes (λ w. reads v w t) → Typed P Q t u → Typed P' Q' t u
    typed_map (literal y) u p h = h
    typed_map (own x) u p h = p.own x u (eq-eqb x x refl) h
    typed_map (called k x) u p h = p.calls k x u (eq-eqb (v + k) (v + k) refl) h
    typed_map (error c) u p h = h
    typed_map (unary op a) u p h = (typed_map a _ p h.0, h.1)
    typed_map (binary op a b) u p h = (
      h.0,
      typed_map a _ (left (λ w. reads v w a) (λ w. reads v w b) p) h.1,
      typed_map b _ (right (λ w. reads v w a) (λ w. reads v w b) p) h.2,
      h.3,
    )
    typed_map (choice c a b) u p h =
        let p' : Passes (λ w. reads v w a || reads v w b) = right (λ w. reads v w c) (λ w. reads v w a || reads v w b) p in (
          typed_map c YesNo (left (λ w. reads v w c) (λ w. reads v w a || reads v w b) p) h.0,
          typed_map a u (left (λ w. reads v w a) (λ w. reads v w b) p') h.1,
          typed_map b u (right (λ w. reads v w a) (λ w. reads v w b) p') h.2,
        )
    typed_map (default es j c) u p h =
        let p' : Passes (λ w. reads v w j || reads v w c) = right (λ w. reads_any v w es) (λ w. reads v w j || reads v w c) p in (
          all_typed_map es u (left (λ w. reads_any v w es) (λ w. reads v w j || reads v w c) p) h.0,
          typed_map j YesNo (left (λ w. reads v w j) (λ w. reads v w c) p') h.1,
          typed_map c u (right (λ w. reads v w j) (λ w. reads v w c) p') h.2,
        )

    pub all_typed_map : (es : Terms) (u : ValueType) → Passes (λ w. reads_any v w es) → AllTyped P Q es u → AllTyped P' Q' es u
    all_typed_map none u p h = h
    all_typed_map (also e es) u p h = (
      typed_map e u (left (λ w. reads v w e) (λ w. reads_any v w es) p) h.0,
      all_typed_map es u (right (λ w. reads v w e) (λ w. reads_any v w es) p) h.1,
    )

-- Outcomes

abbrev JoinedFits : ValueType → Joined → Type 0
JoinedFits t Nothing = Unit {0}
JoinedFits t (One v) = HasType t v
JoinedFits t Many = Unit {0}

abbrev GatheredFits : ValueType → Result Joined Cause → Type 0
GatheredFits t (Ok j) = JoinedFits t j
GatheredFits t (Err c) = Unit {0}

ranged_fits : (z : ℤ) → OutcomeFits Numeric (ranged z)
ranged_fits z = ranged_cases z (OutcomeFits Numeric) (λ s. tt) (λ f. refl)

unary_fits : (op : Unary) (y : Value) → OutcomeFits (unary_type op) (unary_of op y)
unary_fits Not y = refl
unary_fits Negate y = ranged_fits (neg_ℤ (number_of y))

binary_fits : (op : Binary) (y z : Value) → OutcomeFits (binary_type op) (binary_of op y z)
binary_fits And y z = refl
binary_fits Add y z = ranged_fits (number_of y +ℤ number_of z)
binary_fits Subtract y z = ranged_fits (number_of y -ℤ number_of z)
binary_fits Equal y z = refl
binary_fits Less y z = refl

bind_fits : (t : ValueType) (o : Result Value Cause) (f : Value → Result Value Cause) → ((y : Value) → OutcomeFits t (f y)) → OutcomeFits t (bind o f)
bind_fits t (Ok y) f h = h y
bind_fits t (Err c) f h = tt

choose_fits : (t : ValueType) (c a b : Result Value Cause) → OutcomeFits t a → OutcomeFits t b → OutcomeFits t (choose c a b)
choose_fits t c a b p q = bind_fits t c (λ v. cond (truth_of v) a b) (λ v. go (truth_of v))
  where
    go : (d : Bool) → OutcomeFits t (cond d a b)
    go true = p
    go false = q

join_fits : (t : ValueType) (a b : Joined) → JoinedFits t a → JoinedFits t b → JoinedFits t (join a b)
join_fits t Nothing b p q = rw (join_nothing_left b) q
join_fits t (One u) Nothing p q = p
join_fits t (One u) (One v) p q = tt
join_fits t (One u) Many p q = tt
join_fits t Many b p q = rw (join_many_left b) tt

found_fits : (t : ValueType) (o : Result Value Cause) → OutcomeFits t o → GatheredFits t (found o)
found_fits t (Ok v) h = h
found_fits t (Err Empty) h = tt
found_fits t (Err Conflict) h = tt
found_fits t (Err (OutOfRange s)) h = tt

together_fits : (t : ValueType) (a b : Result Joined Cause) → GatheredFits t a → GatheredFits t b → GatheredFits t (together a b)
together_fits t (Err c) b p q = tt
together_fits t (Ok j) (Err c) p q = tt
together_fits t (Ok j) (Ok k) p q = join_fits t j k p q

settle_fits : (t : ValueType) (g : Result Joined Cause) (o : Result Value Cause) → GatheredFits t g → OutcomeFits t o → OutcomeFits t (settle g o)
settle_fits t (Err c) o p q = tt
settle_fits t (Ok Nothing) o p q = q
settle_fits t (Ok (One v)) o p q = p
settle_fits t (Ok Many) o p q = tt

module _ (e : Env) where
  -- what the variables hold is of their types
  abbrev ReadsAll : Terms → ValueType → Type 0
  ReadsAll = AllTyped (λ x t. HasType t (e.own x)) (λ k x t. HasType t (e.called k x))

  mutual
    unfolding eval Typed

    pub eval_typed : (t : Term) (u : ValueType) → Typed (λ x t₁. HasType t₁ (e.own x)) (λ k x t₁. HasType t₁ (e.called k x)) t u
        → OutcomeFits u (eval e t)
    eval_typed (literal v) u h = h
    eval_typed (own x) u h = h
    eval_typed (called k x) u h = h
    eval_typed (error c) u h = tt
    eval_typed (unary op a) u h =
        subst (λ (t : ValueType). OutcomeFits t (eval e (unary op a))) h.1
        (bind_fits (unary_type op) (eval e a) (unary_of op) (unary_fits op))
    eval_typed (binary op a b) u h =
        subst (λ (t : ValueType). OutcomeFits t (eval e (binary op a b))) h.3
        (bind_fits (binary_type op) (eval e a) (λ y. bind (eval e b) (binary_of op y))
        (λ y. bind_fits (binary_type op) (eval e b) (binary_of op y) (binary_fits op y)))
    eval_typed (choice c a b) u h = choose_fits u (eval e c) (eval e a) (eval e b) (eval_typed a u h.1) (eval_typed b u h.2)
    eval_typed (default es j c) u h =
        settle_fits u (exceptions e (Ok Nothing) es) (choose (eval e j) (eval e c) (Err Empty))
        (exceptions_typed es u (Ok Nothing) h.0 tt)
        (choose_fits u (eval e j) (eval e c) (Err Empty) (eval_typed c u h.2) tt)

    exceptions_typed : (es : Terms) (u : ValueType) (g : Result Joined Cause) → ReadsAll es u → GatheredFits u g → GatheredFits u (exceptions e g es)
    exceptions_typed none u g h p = p
    exceptions_typed (also t es) u g h p =
        exceptions_typed es u (gather g (eval e t)) h.1
        (together_fits u g (found (eval e t)) p (found_fits u (eval e t) (eval_typed t u h.0)))

pub held_type : (t : ValueType) (g : Option Value) → Holds t g → HasType t (held g)
held_type t None h = absurd h
held_type t (Some v) h = h

at_type : (t : ValueType) (vs : List Value) (x : ℕ) → HoldsAt t vs x → HasType t (get_or vs x (Truth false))
at_type t [] x h = absurd h
at_type t (v ∷ vs) zero h = h
at_type t (v ∷ vs) (suc x) h = at_type t vs x h

pub ready_typed : (st : State) (t : Term) (u : ValueType) → TermReady st t u → OutcomeFits u (eval (env_of st) t)
ready_typed st t u h =
    eval_typed (env_of st) t u
    (typed_map 0 (λ x t₁. Holds t₁ (get_or st.own x None)) (λ x t₁. HasType t₁ ((env_of st).own x))
    (λ k x t₁. HoldsAt t₁ (get_or st.called k []) x) (λ k x t₁. HasType t₁ ((env_of st).called k x)) t u
    (record {
      own = λ x t₁ r p. held_type t₁ (get_or st.own x None) p;
      calls = λ k x t₁ r p. at_type t₁ (get_or st.called k []) x p;
    })
    h)
