-- The reduction rules and evaluation agree.
--     step_keeps_eval   a step does not change what a term evaluates to
--     reduces_to_eval   every term reduces to what it evaluates to
--     value_stays       values do not reduce
--     reduces_unique    a term reduces to no other value
-- Assumes nothing.
use Prim.Native.Nat.{ℕ}
use mathlib.Core.Path.{◌≡◌, refl, sym, ap, ◌∙◌}
use mathlib.Core.Bool.{Bool, true, false, cond, false≢true}
use mathlib.Core.List.{List}
use Rattle.std.specs.Prelude.{Result, Ok, Err, Option}
use Rattle.calculus.specs.Values.{truth_of}
use Rattle.calculus.specs.Operators.{unary_of, binary_of}
use Rattle.calculus.specs.Outcomes.{bind, choose}
use Rattle.calculus.specs.Defaults.{gather, settle}
use Rattle.calculus.specs.Terms.{Term, Terms, literal, own, called, error, unary, binary, choice, default, none, also}
use Rattle.calculus.specs.Evaluation.{Env, eval, exceptions}
use Rattle.calculus.specs.Reduction.{result, is_error, fatal, regular, behind, empties, Reduces, ReducesTo}
use Rattle.calculus.specs.Reduction.{read_own_case, read_called_case, apply_unary, apply_binary, take_branch, default_true, default_false}
use Rattle.calculus.specs.Reduction.{one_exception, two_exceptions, in_operand, in_left, in_right, in_condition}
use Rattle.calculus.specs.Reduction.{in_justification, in_consequence, in_exception, operand_error, left_error, right_error}
use Rattle.calculus.specs.Reduction.{condition_error, justification_error, exception_error, stays, steps}
use Rattle.calculus.specs.declared.Value.{Value}
use Rattle.answers.specs.declared.Cause.{Cause}
use Rattle.answers.specs.declared.Cause.TheVariants.{Empty, Conflict, OutOfRange}
use Rattle.calculus.specs.declared.Joined.TheVariants.{Nothing, One}
use Rattle.calculus.proofs.Joining.{join_nothing_left}
use Rattle.calculus.proofs.Exceptions.{exceptions_ended}
use Rattle.calculus.proofs.ReductionExceptions.{joined, exceptions_behind, exceptions_empties, two_join}
use Rattle.calculus.proofs.ReductionHalts.{Halts, value, step, halts}

eval_result : (e : Env) (o : Result Value Cause) → eval e (result o) ≡ o
unfolding eval
eval_result e (Ok v) = refl
eval_result e (Err x) = refl

bind_gives : (o : Result Value Cause) → o ≡ bind o Ok
bind_gives (Ok v) = refl
bind_gives (Err x) = refl

module _ (e : Env) where
  eval_branch : (p : Bool) (a b : Term) → cond p (eval e a) (eval e b) ≡ eval e (cond p a b)
  eval_branch true a b = refl
  eval_branch false a b = refl

  -- a default whose exceptions are empty
  eval_default : (n : ℕ) (j c : Term) → eval e (default (empties n none) j c) ≡ choose (eval e j) (eval e c) (Err Empty)
  unfolding eval
  eval_default n j c = rw (exceptions_empties e Nothing n none)

  eval_justified : (n : ℕ) (w : Value) (c : Term) (b : Bool) → truth_of w ≡ b
      → eval e (default (empties n none) (literal w) c) ≡ cond b (eval e c) (Err Empty)
  unfolding eval
  eval_justified n w c b p = rw (exceptions_empties e Nothing n none, p)

  -- a step in a context, where errors of some causes are the whole
  module _ (which : Cause → Bool) (context : Term → Term) (meaning : Result Value Cause → Result Value Cause)
      (means : (t : Term) → eval e (context t) ≡ meaning (eval e t))
      (ends : (x : Cause) → which x ≡ true → meaning (Err x) ≡ Err x) where
    error_means : (t : Term) → is_error which t ≡ true → meaning (eval e t) ≡ eval e t
    unfolding eval
    error_means (literal v) p = absurd (false≢true p)
    error_means (own x) p = absurd (false≢true p)
    error_means (called k x) p = absurd (false≢true p)
    error_means (error x) p = ends x p
    error_means (unary op a) p = absurd (false≢true p)
    error_means (binary op a b) p = absurd (false≢true p)
    error_means (choice c a b) p = absurd (false≢true p)
    error_means (default es j c) p = absurd (false≢true p)

    place_means : (t : Term) (p : Bool) → is_error which t ≡ p → meaning (eval e t) ≡ eval e (cond p t (context t))
    place_means t true p = error_means t p
    place_means t false p = sym (means t)

    context_keeps : {a a' : Term} → Reduces e a a' → eval e a ≡ eval e a'
        → eval e (context a) ≡ eval e (cond (is_error which a') a' (context a'))
    context_keeps {a} {a'} s p = means a ∙ ap meaning p ∙ place_means a' (is_error which a') refl

  regular_keeps : (context : Term → Term) (rest : Value → Result Value Cause) → ((t : Term) → eval e (context t) ≡ bind (eval e t) rest)
      → {a a' : Term} → Reduces e a a' → eval e a ≡ eval e a' → eval e (context a) ≡ eval e (regular context a')
  regular_keeps context rest means = context_keeps (λ x. true) context (λ o. bind o rest) means (λ x p. refl)

  -- a default as one of its exceptions sees it
  module _ (vs : List (Option Value)) (es : Terms) (j c : Term) where
    seen : Result Value Cause → Result Value Cause
    seen o = settle (exceptions e (gather (Ok (joined vs)) o) es) (choose (eval e j) (eval e c) (Err Empty))

    eval_seen : (t : Term) → eval e (default (behind vs (also t es)) j c) ≡ seen (eval e t)
    unfolding eval seen
    eval_seen t = rw (exceptions_behind e Nothing vs (also t es), join_nothing_left (joined vs))

    fatal_ends : (x : Cause) → fatal x ≡ true → seen (Err x) ≡ Err x
    unfolding seen
    fatal_ends Empty p = absurd (false≢true p)
    fatal_ends Conflict p = rw (exceptions_ended e Conflict es)
    fatal_ends (OutOfRange s) p = rw (exceptions_ended e (OutOfRange s) es)

  one_gives : (m n : ℕ) (v : Value) (j c : Term) → eval e (default (empties m (also (literal v) (empties n none))) j c) ≡ Ok v
  unfolding eval
  one_gives m n v j c = rw (exceptions_empties e Nothing m (also (literal v) (empties n none)), exceptions_empties e (One v) n none)

  two_conflict : (us vs ws : List (Option Value)) (v w : Value) (j c : Term)
      → eval e (default (behind us (also (literal v) (behind vs (also (literal w) (behind ws none))))) j c) ≡ Err Conflict
  unfolding eval
  two_conflict us vs ws v w j c = rw (exceptions_behind, exceptions_behind, exceptions_behind, two_join)

  -- "a reduction step does not change `eval`"
  pub step_keeps_eval : {t t' : Term} → Reduces e t t' → eval e t ≡ eval e t'
  unfolding eval
  step_keeps_eval (read_own_case x) = refl
  step_keeps_eval (read_called_case k x) = refl
  step_keeps_eval (apply_unary op v) = sym (eval_result e (unary_of op v))
  step_keeps_eval (apply_binary op v w) = sym (eval_result e (binary_of op v w))
  step_keeps_eval (take_branch v a b) = eval_branch (truth_of v) a b
  step_keeps_eval (default_true n w o p) = eval_justified n w (result o) true p
  step_keeps_eval (default_false n w c p) = eval_justified n w c false p
  step_keeps_eval (one_exception m n v j c) = one_gives m n v j c
  step_keeps_eval (two_exceptions us vs ws v w j c) = two_conflict us vs ws v w j c
  step_keeps_eval (in_operand op s) = regular_keeps (unary op) (unary_of op) (λ t. refl) s (step_keeps_eval s)
  step_keeps_eval (in_left op b s) =
      regular_keeps (λ x. binary op x b) (λ v. bind (eval e b) (binary_of op v)) (λ t. refl) s (step_keeps_eval s)
  step_keeps_eval (in_right op v s) = regular_keeps (binary op (literal v)) (binary_of op v) (λ t. refl) s (step_keeps_eval s)
  step_keeps_eval (in_condition a b s) =
      regular_keeps (λ x. choice x a b) (λ v. cond (truth_of v) (eval e a) (eval e b)) (λ t. refl) s (step_keeps_eval s)
  step_keeps_eval (in_justification n c s) =
      regular_keeps (λ x. default (empties n none) x c) (λ v. cond (truth_of v) (eval e c) (Err Empty)) (λ t. eval_default n t c)
      s (step_keeps_eval s)
  step_keeps_eval (in_consequence n w p s) =
      regular_keeps (default (empties n none) (literal w)) Ok (λ t. eval_justified n w t true p ∙ bind_gives (eval e t)) s (step_keeps_eval s)
  step_keeps_eval (in_exception vs es j c s) =
      context_keeps fatal (λ x. default (behind vs (also x es)) j c) (seen vs es j c) (eval_seen vs es j c) (fatal_ends vs es j c)
      s (step_keeps_eval s)
  step_keeps_eval (operand_error op x) = refl
  step_keeps_eval (left_error op x b) = refl
  step_keeps_eval (right_error op v x) = refl
  step_keeps_eval (condition_error x a b) = refl
  step_keeps_eval (justification_error n x c) = eval_default n (error x) c
  step_keeps_eval (exception_error vs x es j c p) = eval_seen vs es j c (error x) ∙ fatal_ends vs es j c x p

  steps_keep_eval : {t t' : Term} → ReducesTo e t t' → eval e t ≡ eval e t'
  steps_keep_eval (stays t) = refl
  steps_keep_eval (steps s r) = step_keeps_eval s ∙ steps_keep_eval r

  -- "so what a term reduces to is unique and is its `eval`"
  pub reduces_unique : (t : Term) (o : Result Value Cause) → ReducesTo e t (result o) → o ≡ eval e t
  reduces_unique t o r = sym (steps_keep_eval r ∙ eval_result e o)

  pub value_stays : (o : Result Value Cause) {t : Term} → Reduces e (result o) t → ⊥
  value_stays (Ok v) r = elim r [ ]
  value_stays (Err x) r = elim r [ ]

  halts_at_eval : {t : Term} → Halts e t → ReducesTo e t (result (eval e t))
  halts_at_eval (value o) = rw (eval_result e o) (stays (result o))
  halts_at_eval (step s h) = rw (step_keeps_eval s) (steps s (halts_at_eval h))

  -- "every term reduces in some steps to what `eval` gives"
  pub reduces_to_eval : (t : Term) → ReducesTo e t (result (eval e t))
  reduces_to_eval t = halts_at_eval (halts e t)
