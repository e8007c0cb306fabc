-- Reduction: figures 5 and 6 of the source paper, on the terms of the calculus.
--
-- It departs from the figures in five places, each marked by its number where it stands:
--     1  Application and D-BETA are absent, since "Functions as values, the unit type, collections, text and reaching into a sub-scope's own sub-scopes
--        are left out" (paper 01). Scopes need them in the source paper, "replacing defs and calls with regular λ-abstractions and applications"; here a
--        variable is read from the environment. Operators and "if" are additions of paper 01: they apply to values, in regular contexts.
--     2  An empty exception stays in its place. The figures have no rule for it, so that strip g would be stuck; but "such an ∅-error can be caught,
--        as long as it appears in the exception list of an enclosing default expression".
--     3  The values in contexts are not errors: an error that is there propagates like one just raised. With the errors among the values strip h
--        would be above; but of ⊗ "the reduction aborts, under any context", and ∅ is caught by an exception list alone (2).
--     4  Conflict waits until every exception is a value: "Each of the exceptions .. is evaluated; if two or more are valid .., a conflict error .. is raised".
--     5  Justification and consequence are reduced only once every exception is empty: "With none, the justification is evaluated" (paper 01), and
--        where one is valid "we evaluate neither the justification or the consequence".
-- Out of range is "ours" (paper 01), with a side (paper 02, No. 3): two more errors, each like conflict. A number where a yes/no should stand counts as no, where the
-- figures are stuck: no term of an accepted book has one.
use Rattle.std.specs.Prelude.{ℕ, zero, suc, ◌≡◌, Bool, true, false, cond, List, [], ◌∷◌, Result, Ok, Err, Option, None, Some}
use Rattle.calculus.specs.Values.{truth_of}
use Rattle.calculus.specs.Operators.{unary_of, binary_of}
use Rattle.calculus.specs.Terms.{Term, Terms, literal, own, called, error, unary, binary, choice, default, none, also}
use Rattle.calculus.specs.Evaluation.{Env}
use Rattle.calculus.specs.declared.Value.{Value}
use Rattle.answers.specs.declared.Cause.{Cause}
use Rattle.answers.specs.declared.Cause.TheVariants.{Empty, Conflict, OutOfRange}
use Rattle.calculus.specs.declared.Unary.{Unary}
use Rattle.calculus.specs.declared.Binary.{Binary}

-- figure 5, "Values": literals and errors, no functions (1); each is what some outcome is as a term
abbrev pub result : Result Value Cause → Term
result (Ok v) = literal v
result (Err c) = error c

-- an error with one of these causes
abbrev pub is_error : (Cause → Bool) → Term → Bool
is_error which (literal v) = false
is_error which (own x) = false
is_error which (called k x) = false
is_error which (error x) = which x
is_error which (unary op a) = false
is_error which (binary op a b) = false
is_error which (choice c a b) = false
is_error which (default es j c) = false

-- a cause that ends a default wherever it arises: conflict, and out of range on either side like it
abbrev pub fatal : Cause → Bool
fatal Empty = false
fatal Conflict = true
fatal (OutOfRange s) = true

-- a regular context whose hole has become t: D-CONTEXTCONFLICTERROR and D-CONTEXTEMPTYERROR where t is an error, else D-CONTEXT
abbrev pub regular : (Term → Term) → Term → Term
regular context t = cond (is_error (λ x. true) t) t (context t)

-- a default in which an exception has become t: D-CONTEXTCONFLICTERROR, else D-CONTEXT, which also holds of an empty one (2)
abbrev pub among_exceptions : (Term → Term) → Term → Term
among_exceptions context t = cond (is_error fatal t) t (context t)

-- v, among exceptions: empty, or a literal, but no other error (3)
abbrev pub settled_term : Option Value → Term
settled_term None = error Empty
settled_term (Some v) = literal v

-- v⃗, e⃗: settled exceptions, then others
unfoldable pub behind : List (Option Value) → Terms → Terms
behind [] es = es
behind (v ∷ vs) es = also (settled_term v) (behind vs es)

-- ∅, …, ∅, e⃗: so many empty exceptions, then others
unfoldable pub empties : ℕ → Terms → Terms
empties zero es = es
empties (suc n) es = also (error Empty) (empties n es)

-- e → e', in an environment
pub data Reduces (e : Env) : Term → Term → Type 0 where
  -- in place of D-BETA (1): a variable is read from the environment
  read_own_case : (x : ℕ) → Reduces e (own x) (literal (e.own x))
  read_called_case : (k x : ℕ) → Reduces e (called k x) (literal (e.called k x))
  -- an addition (1): operators on values
  apply_unary : (op : Unary) (v : Value) → Reduces e (unary op (literal v)) (result (unary_of op v))
  apply_binary : (op : Binary) (v w : Value) → Reduces e (binary op (literal v) (literal w)) (result (binary_of op v w))
  -- an addition (1): "'if' takes one branch"
  take_branch : (v : Value) (a b : Term) → Reduces e (choice (literal v) a b) (cond (truth_of v) a b)
  -- D-DEFAULTTRUENOEXCEPTIONS
  default_true : (n : ℕ) (w : Value) (o : Result Value Cause) → truth_of w ≡ true
      → Reduces e (default (empties n none) (literal w) (result o)) (result o)
  -- D-DEFAULTFALSENOEXCEPTIONS
  default_false : (n : ℕ) (w : Value) (c : Term) → truth_of w ≡ false → Reduces e (default (empties n none) (literal w) c) (error Empty)
  -- D-DEFAULTONEEXCEPTION, of a literal (3)
  one_exception : (m n : ℕ) (v : Value) (j c : Term) → Reduces e (default (empties m (also (literal v) (empties n none))) j c) (literal v)
  -- D-DEFAULTEXCEPTIONSCONFLICT, of literals (3), only once every exception is a value (4)
  two_exceptions : (us vs ws : List (Option Value)) (v w : Value) (j c : Term)
      → Reduces e (default (behind us (also (literal v) (behind vs (also (literal w) (behind ws none))))) j c) (error Conflict)
  -- the regular contexts of figure 5: in place of those of application (1) those of operators and of "if", where v is no error (3)
  in_operand : (op : Unary) {a a' : Term} → Reduces e a a' → Reduces e (unary op a) (regular (unary op) a')
  in_left : (op : Binary) (b : Term) {a a' : Term} → Reduces e a a' → Reduces e (binary op a b) (regular (λ x. binary op x b) a')
  in_right : (op : Binary) (v : Value) {b b' : Term} → Reduces e b b'
      → Reduces e (binary op (literal v) b) (regular (binary op (literal v)) b')
  in_condition : (a b : Term) {c c' : Term} → Reduces e c c' → Reduces e (choice c a b) (regular (λ x. choice x a b) c')
  -- those of justification and consequence, only once every exception is empty (5)
  in_justification : (n : ℕ) (c : Term) {j j' : Term} → Reduces e j j'
      → Reduces e (default (empties n none) j c) (regular (λ x. default (empties n none) x c) j')
  in_consequence : (n : ℕ) (w : Value) {c c' : Term} → truth_of w ≡ true → Reduces e c c'
      → Reduces e (default (empties n none) (literal w) c) (regular (default (empties n none) (literal w)) c')
  -- figure 5, "default exceptions evaluation", where v⃗ has no error but empty (3)
  in_exception : (vs : List (Option Value)) (es : Terms) (j c : Term) {a a' : Term} → Reduces e a a'
      → Reduces e (default (behind vs (also a es)) j c) (among_exceptions (λ x. default (behind vs (also x es)) j c) a')
  -- an error that is there propagates like one just raised (3)
  operand_error : (op : Unary) (x : Cause) → Reduces e (unary op (error x)) (error x)
  left_error : (op : Binary) (x : Cause) (b : Term) → Reduces e (binary op (error x) b) (error x)
  right_error : (op : Binary) (v : Value) (x : Cause) → Reduces e (binary op (literal v) (error x)) (error x)
  condition_error : (x : Cause) (a b : Term) → Reduces e (choice (error x) a b) (error x)
  justification_error : (n : ℕ) (x : Cause) (c : Term) → Reduces e (default (empties n none) (error x) c) (error x)
  exception_error : (vs : List (Option Value)) (x : Cause) (es : Terms) (j c : Term) → fatal x ≡ true
      → Reduces e (default (behind vs (also (error x) es)) j c) (error x)

-- e →* e': no step, or one and then others
pub data ReducesTo (e : Env) : Term → Term → Type 0 where
  stays : (t : Term) → ReducesTo e t t
  steps : {t t' t'' : Term} → Reduces e t t' → ReducesTo e t' t'' → ReducesTo e t t''
