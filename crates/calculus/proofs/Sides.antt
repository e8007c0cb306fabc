-- The sides of the range.
--     ranged_cases                             an exact result is out of range on some side, or given, and then 32 bits hold it
--     Operated, unary_result, binary_result     so an operator comes to a value that 32 bits hold or to a side, never to empty or conflict
--     add_told, subtract-told, negate-told     add, subtract and negate come to a side exactly where their exact result lies out of the range on it,
--                                              and to that result exactly where 32 bits hold it
--     negate_lowest                            of numbers of 32 bits none but −2,147,483,648 leaves the range when negated, and then above
-- Assumes nothing.
use mathlib.Core.Path.{◌≡◌, refl, ap}
use mathlib.Core.Bool.{Bool, true, false, false≢true}
use Prim.Native.Nat.{zero, suc, ◌≤◌}
use native.Mathlib.Omega.{arith}
use borrow.Author.Tests.{ltb-true, le-ltb}
use lib.IntN.{ℤ, pos, negsuc, neg_ℤ, ◌+ℤ◌, ◌-ℤ◌}
use lib.Signed.{lt_z}
use mir.Syntax.{w32}
use mir.Val.{SFits}
use Rattle.std.specs.Prelude.{Result, Ok, Err}
use Rattle.calculus.specs.Values.{number_of, lowest, highest, ranged}
use Rattle.calculus.specs.Operators.{unary_of, binary_of}
use Rattle.calculus.specs.Sides.{beyond, ComesTo}
use Rattle.calculus.proofs.Numbers.{ranged_by, within_range}
use Rattle.calculus.specs.declared.Value.{Value}
use Rattle.calculus.specs.declared.Value.TheVariants.{Truth, Number}
use Rattle.answers.specs.declared.Side.{Side}
use Rattle.answers.specs.declared.Side.TheVariants.{Above, Below}
use Rattle.answers.specs.declared.Cause.TheVariants.{Empty, Conflict, OutOfRange}
use Rattle.calculus.specs.declared.Unary.{Unary}
use Rattle.calculus.specs.declared.Unary.TheVariants.{Not, Negate}
use Rattle.calculus.specs.declared.Binary.{Binary}
use Rattle.calculus.specs.declared.Binary.TheVariants.{And, Add, Subtract, Equal, Less}
use Rattle.answers.specs.declared.Cause.{Cause}

pub ranged_cases : (z : ℤ) (P : Result Value Cause → Type 0) → ((s : Side) → P (Err (OutOfRange s))) → (SFits w32 z → P (Ok (Number z))) → P (ranged z)
ranged_cases z P out given = go (lt_z z lowest) (lt_z highest z) refl refl
  where
    go : (low high : Bool) → lt_z z lowest ≡ low → lt_z highest z ≡ high → P (ranged_by low high z)
    go true high l h = out Below
    go false true l h = out Above
    go false false l h = given (within_range z l h)

-- what an operator comes to
pub data Operated : Result Value Cause → Type 0 where
  truth : (b : Bool) → Operated (Ok (Truth b))
  number : (z : ℤ) → SFits w32 z → Operated (Ok (Number z))
  outside : (s : Side) → Operated (Err (OutOfRange s))

pub ranged_result : (z : ℤ) → Operated (ranged z)
ranged_result z = ranged_cases z Operated Operated.outside (Operated.number z)

pub unary_result : (op : Unary) (v : Value) → Operated (unary_of op v)
unary_result Not v = Operated.truth _
unary_result Negate v = ranged_result (neg_ℤ (number_of v))

pub binary_result : (op : Binary) (v w : Value) → Operated (binary_of op v w)
binary_result And v w = Operated.truth _
binary_result Add v w = ranged_result (number_of v +ℤ number_of w)
binary_result Subtract v w = ranged_result (number_of v -ℤ number_of w)
binary_result Equal v w = Operated.truth _
binary_result Less v w = Operated.truth _

-- no number lies on both sides
not_below : (z : ℤ) → beyond Above z ≡ true → beyond Below z ≡ false
not_below (pos n) e = refl
not_below (negsuc n) e = absurd (false≢true e)

-- a number that 32 bits hold lies on neither
not_beyond : (s : Side) (z : ℤ) → SFits w32 z → beyond s z ≡ false
not_beyond Above (pos n) f = le-ltb 2147483647 n (omega (arith, f.sfits))
not_beyond Above (negsuc n) f = refl
not_beyond Below (pos n) f = refl
not_beyond Below (negsuc n) f = le-ltb 2147483647 n (omega (arith, f.sfits))

side_told : (s : Side) (z : ℤ) → beyond s z ≡ true → ranged z ≡ Err (OutOfRange s)
side_told Above z e = rw (not_below z e, e)
side_told Below z e = rw e

-- whether an outcome is a value, above or below
abbrev is_given : Result Value Cause → Bool
is_given (Ok v) = true
is_given (Err c) = false

abbrev is_on : Side → Result Value Cause → Bool
is_on s (Ok v) = false
is_on s (Err Empty) = false
is_on s (Err Conflict) = false
is_on Above (Err (OutOfRange Above)) = true
is_on Above (Err (OutOfRange Below)) = false
is_on Below (Err (OutOfRange Above)) = false
is_on Below (Err (OutOfRange Below)) = true

is_on_lem : (s : Side) → is_on s (Err (OutOfRange s)) ≡ true
is_on_lem Above = refl
is_on_lem Below = refl

side_only_lem : (s : Side) (low high : Bool) (z : ℤ) → is_on s (ranged_by low high z) ≡ true → (beyond Below z ≡ low) → (beyond Above z ≡ high) → beyond s z ≡ true
side_only_lem Above true high z k l h = absurd (false≢true k)
side_only_lem Above false true z k l h = h
side_only_lem Above false false z k l h = absurd (false≢true k)
side_only_lem Below true high z k l h = l
side_only_lem Below false true z k l h = absurd (false≢true k)
side_only_lem Below false false z k l h = absurd (false≢true k)

given_fits : (low high : Bool) (z : ℤ) → is_given (ranged_by low high z) ≡ true → (lt_z z lowest ≡ low) → (lt_z highest z ≡ high) → SFits w32 z
given_fits true high z k l h = absurd (false≢true k)
given_fits false true z k l h = absurd (false≢true k)
given_fits false false z k l h = within_range z l h

ranged_told : (z : ℤ) → ComesTo z (ranged z)
ranged_told z =
    record {
      side = λ s. side_told s z;
      side_only = λ s e. side_only_lem s (lt_z z lowest) (lt_z highest z) z (rw e (is_on_lem s)) refl refl;
      number = λ f. rw (not_beyond Below z f, not_beyond Above z f);
      number_only = λ v e. given_fits (lt_z z lowest) (lt_z highest z) z (ap is_given e) refl refl;
    }

pub add_told : (v w : Value) → ComesTo (number_of v +ℤ number_of w) (binary_of Add v w)
add_told v w = ranged_told (number_of v +ℤ number_of w)

pub subtract_told : (v w : Value) → ComesTo (number_of v -ℤ number_of w) (binary_of Subtract v w)
subtract_told v w = ranged_told (number_of v -ℤ number_of w)

pub negate_told : (v : Value) → ComesTo (neg_ℤ (number_of v)) (unary_of Negate v)
negate_told v = ranged_told (neg_ℤ (number_of v))

negated : (s : Side) (z : ℤ) → SFits w32 z → beyond s (neg_ℤ z) ≡ true → (s ≡ Above) × (z ≡ lowest)
negated Above (pos zero) f e = absurd (false≢true e)
negated Above (pos (suc n)) f e = absurd (false≢true e)
negated Above (negsuc n) f e =
    let least : 2147483647 ≤ n = omega (arith, ltb-true 2147483647 (suc n) e) in
    let is : n ≡ 2147483647 = omega (arith, f.sfits) in
    (refl, ap negsuc is)
negated Below (pos zero) f e = absurd (false≢true e)
negated Below (pos (suc n)) f e = let none : ⊥ = omega (arith, f.sfits, ltb-true 2147483647 n e) in absurd none
negated Below (negsuc n) f e = absurd (false≢true e)

-- that it does leave the range is strip l
pub negate_lowest : (v : Value) (s : Side) → SFits w32 (number_of v) → unary_of Negate v ≡ Err (OutOfRange s) → (s ≡ Above) × (number_of v ≡ lowest)
negate_lowest v s f e = negated s (number_of v) f ((negate_told v).side_only s e)
