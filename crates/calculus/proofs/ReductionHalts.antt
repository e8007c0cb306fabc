-- Every term reduces to a value.
-- Assumes nothing.
use Prim.Native.Nat.{ℕ}
use mathlib.Core.Path.{◌≡◌, refl, subst}
use mathlib.Core.Bool.{Bool, true, false, cond}
use mathlib.Core.List.{List, [], ◌∷◌, ◌++◌}
use Rattle.std.specs.Prelude.{Result, Ok, Err, Option, None, Some}
use Rattle.calculus.specs.Values.{truth_of}
use Rattle.calculus.specs.Operators.{unary_of, binary_of}
use Rattle.calculus.specs.Terms.{Term, Terms, literal, own, called, error, unary, binary, choice, default, none, also}
use Rattle.calculus.specs.Evaluation.{Env}
use Rattle.calculus.specs.Reduction.{result, is_error, fatal, regular, settled_term, behind, empties, Reduces}
use Rattle.calculus.specs.Reduction.{read_own_case, read_called_case, apply_unary, apply_binary, take_branch, default_true, default_false}
use Rattle.calculus.specs.Reduction.{one_exception, two_exceptions, in_operand, in_left, in_right, in_condition}
use Rattle.calculus.specs.Reduction.{in_justification, in_consequence, in_exception, operand_error, left_error, right_error}
use Rattle.calculus.specs.Reduction.{condition_error, justification_error, exception_error}
use Rattle.calculus.specs.declared.Value.{Value}
use Rattle.answers.specs.declared.Cause.{Cause}
use Rattle.answers.specs.declared.Cause.TheVariants.{Empty, Conflict, OutOfRange}
use Rattle.calculus.proofs.ReductionExceptions.{Counted, no_value, one_value, two_values, counted, behind_one_more}

module _ (e : Env) where
  -- some steps lead to a value
  pub data Halts : Term → Type 0 where
    value : (o : Result Value Cause) → Halts (result o)
    step : {t t' : Term} → Reduces e t t' → Halts t' → Halts t

  branch_halts : (p : Bool) {a b : Term} → Halts a → Halts b → Halts (cond p a b)
  branch_halts true g h = g
  branch_halts false g h = h

  -- from a value in the hole of a context, hence from any term there
  module _ (which : Cause → Bool) (context : Term → Term)
      (inside : (a a' : Term) → Reduces e a a' → Reduces e (context a) (cond (is_error which a') a' (context a')))
      (goes : (o : Result Value Cause) → Halts (context (result o))) where
    through : {a : Term} → Halts a → Halts (context a)
    through (value o) = goes o
    through (step {t' = a'} s h) = step (inside _ a' s) (branch_halts (is_error which a') h (through h))

  module _ (context : Term → Term) (inside : (a a' : Term) → Reduces e a a' → Reduces e (context a) (regular context a'))
      (fails : (x : Cause) → Reduces e (context (error x)) (error x)) (goes : (v : Value) → Halts (context (literal v))) where
    filled : (o : Result Value Cause) → Halts (context (result o))
    filled (Ok v) = goes v
    filled (Err x) = step (fails x) (value (Err x))

    through_regular : {a : Term} → Halts a → Halts (context a)
    through_regular = through (λ x. true) context inside filled

  module _ (vs : List (Option Value)) (es : Terms) (j c : Term)
      (goes : (v : Option Value) → Halts (default (behind vs (also (settled_term v) es)) j c)) where
    evaluated : (o : Result Value Cause) → Halts (default (behind vs (also (result o) es)) j c)
    evaluated (Ok v) = goes (Some v)
    evaluated (Err Empty) = goes None
    evaluated (Err Conflict) = step (exception_error vs Conflict es j c refl) (value (Err Conflict))
    evaluated (Err (OutOfRange s)) = step (exception_error vs (OutOfRange s) es j c refl) (value (Err (OutOfRange s)))

    through_exception : {a : Term} → Halts a → Halts (default (behind vs (also a es)) j c)
    through_exception = through fatal (λ x. default (behind vs (also x es)) j c) (λ _ _. in_exception vs es j c) evaluated

  justified_halts : (n : ℕ) (w : Value) {c : Term} (p : Bool) → truth_of w ≡ p → Halts c → Halts (default (empties n none) (literal w) c)
  justified_halts n w true p h =
      through_regular (default (empties n none) (literal w)) (λ _ _. in_consequence n w p) (λ x. default_true n w (Err x) p)
      (λ v. step (default_true n w (Ok v) p) (value (Ok v))) h
  justified_halts n w {c} false p h = step (default_false n w c p) (value (Err Empty))

  default_halts : (n : ℕ) {j c : Term} → Halts j → Halts c → Halts (default (empties n none) j c)
  default_halts n {c = c} g h =
      through_regular (λ x. default (empties n none) x c) (λ _ _. in_justification n c) (λ x. justification_error n x c)
      (λ w. justified_halts n w (truth_of w) refl h) g

  settled_halts : {es : Terms} (j c : Term) → Counted es → ((n : ℕ) → Halts (default (empties n none) j c)) → Halts (default es j c)
  settled_halts j c (no_value n) rest = rest n
  settled_halts j c (one_value m n v) rest = step (one_exception m n v j c) (value (Ok v))
  settled_halts j c (two_values us vs ws v w) rest = step (two_exceptions us vs ws v w j c) (value (Err Conflict))

  mutual
    unfolding behind

    pub halts : (t : Term) → Halts t
    halts (literal v) = value (Ok v)
    halts (own x) = step (read_own_case x) (value (Ok (e.own x)))
    halts (called k x) = step (read_called_case k x) (value (Ok (e.called k x)))
    halts (error x) = value (Err x)
    halts (unary op a) =
        through_regular (unary op) (λ _ _. in_operand op) (operand_error op) (λ v. step (apply_unary op v) (value (unary_of op v))) (halts a)
    halts (binary op a b) =
        through_regular (λ x. binary op x b) (λ _ _. in_left op b) (λ x. left_error op x b)
        (λ v.
        through_regular (binary op (literal v)) (λ _ _. in_right op v) (right_error op v)
        (λ w. step (apply_binary op v w) (value (binary_of op v w))) (halts b))
        (halts a)
    halts (choice c a b) =
        through_regular (λ x. choice x a b) (λ _ _. in_condition a b) (λ x. condition_error x a b)
        (λ v. step (take_branch v a b) (branch_halts (truth_of v) (halts a) (halts b))) (halts c)
    halts (default es j c) = exceptions_halt es [] j c (λ n. default_halts n (halts j) (halts c))

    exceptions_halt : (es : Terms) (vs : List (Option Value)) (j c : Term) → ((n : ℕ) → Halts (default (empties n none) j c))
        → Halts (default (behind vs es) j c)
    exceptions_halt none vs j c rest = settled_halts j c (counted vs) rest
    exceptions_halt (also a es) vs j c rest =
        through_exception vs es j c
        (λ v. subst (λ xs. Halts (default xs j c)) (behind_one_more vs v es) (exceptions_halt es (vs ++ (v ∷ [])) j c rest)) (halts a)
