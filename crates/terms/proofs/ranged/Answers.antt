-- `terms::ranged` meets its contract: by the sign of a number that fits 32 bits or does not.
use mathlib.Core.Path.{◌≡◌}
use mathlib.Core.Bool.{true, false}
use mathlib.Core.Logic.{⊎_elim}
use native.Mathlib.Omega.{arith}
use lib.IntN.{ℤ, pos, negsuc}
use lib.Signed.{lt_z}
use lib.Dec.{ltb}
use mir.Syntax.{w32}
use mir.Val.{SFits}
use mir.Facts.{to_z-of_z}
use borrow.Author.Tests.{le-ltb, ltb-true, ltb-false}
use Rattle.std.specs.Prelude.{Ok, Err}
use Rattle.laws.proofs.Booleans.{decide}
use Rattle.answers.specs.declared.Side.TheVariants.{Above, Below}
use Rattle.answers.specs.declared.Cause.TheVariants.{OutOfRange}
use Rattle.calculus.specs.Values.{ranged as ranged_value}
use Rattle.calculus.specs.declared.Value.TheVariants.{Number}
use Rattle.terms.proofs.Operators.{side_codes, number_codes}
use Rattle.terms.proofs.ranged.Goals as goal

inside : (z : ℤ) → SFits w32 z → ranged_value z ≡ Ok (Number z)
inside (pos a) p = rw (le-ltb 2147483647 a (omega (arith, p.sfits)))
inside (negsuc a) p = rw (le-ltb 2147483647 a (omega (arith, p.sfits)))

below : (z : ℤ) → (SFits w32 z → ⊥) → lt_z z (pos 0) ≡ true → ranged_value z ≡ Err (OutOfRange Below)
below (pos a) n e = absurd (omega (arith, ltb-true a 0 e))
below (negsuc a) n e =
    ⊎_elim
    (λ (q : ltb 2147483647 a ≡ true). rw q)
    (λ (q : ltb 2147483647 a ≡ false). absurd (n (record { sfits = omega (arith, ltb-false 2147483647 a q) })))
    (decide (ltb 2147483647 a))

above : (z : ℤ) → (SFits w32 z → ⊥) → lt_z z (pos 0) ≡ false → ranged_value z ≡ Err (OutOfRange Above)
above (pos a) n e =
    ⊎_elim
    (λ (q : ltb 2147483647 a ≡ true). rw q)
    (λ (q : ltb 2147483647 a ≡ false). absurd (n (record { sfits = omega (arith, ltb-false 2147483647 a q) })))
    (decide (ltb 2147483647 a))
above (negsuc a) n e = absurd (cc)

pub returns-in-Ok : goal.returns-in-Ok
returns-in-Ok c =
    let z = c.args.z in
    let h = rw (to_z-of_z c.ranges.z) at c.in-Ok.ensures in
    rw (inside z h.0) (number_codes _ z h.0 (rw (h.1, to_z-of_z h.0) at c.number.ensures))

pub returns-in-Err : goal.returns-in-Err
returns-in-Err c =
    let f = c.ranges.z in
    rw (below c.args.z (rw (to_z-of_z f) at c.in-Err.ensures) (rw (to_z-of_z f) at c.if-z-lt0.true)) (side_codes Below)

pub returns-in-Err-2 : goal.returns-in-Err-2
returns-in-Err-2 c =
    let f = c.ranges.z in
    rw (above c.args.z (rw (to_z-of_z f) at c.in-Err-2.ensures) (rw (to_z-of_z f) at c.if-z-lt0.false)) (side_codes Above)
