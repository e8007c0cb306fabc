-- Types and targets that are found the same.
--     same_type_lem, same_target_lem    they are equal
--     same_self                 each type is the same as itself
-- Assumes nothing.
use mathlib.Core.Path.{◌≡◌, refl}
use mathlib.Core.Bool.{true, false≢true}
use lib.Dec.{eqb}
use borrow.Author.Tests.{eqb-true}
use Rattle.laws.proofs.Booleans.{both}
use Rattle.book.specs.Syntax.{same_type, same_target}
use Rattle.book.specs.declared.ValueType.{ValueType}
use Rattle.book.specs.declared.ValueType.TheVariants.{YesNo, Numeric}
use Rattle.book.specs.declared.Target.{Target}

pub same_type_lem : (a b : ValueType) → same_type a b ≡ true → a ≡ b
same_type_lem YesNo YesNo e = refl
same_type_lem YesNo Numeric e = absurd (false≢true e)
same_type_lem Numeric YesNo e = absurd (false≢true e)
same_type_lem Numeric Numeric e = refl

pub same_self : (t : ValueType) → same_type t t ≡ true
same_self YesNo = refl
same_self Numeric = refl

pub same_target_lem : (a b : Target) → same_target a b ≡ true → a ≡ b
same_target_lem a b e =
    let h = both (eqb a.sub b.sub) (eqb a.variable b.variable) e in
    let p : a.sub ≡ b.sub = eqb-true a.sub b.sub h.0 in
    let q : a.variable ≡ b.variable = eqb-true a.variable b.variable h.1 in
    λ i. record { sub = p i; variable = q i }
