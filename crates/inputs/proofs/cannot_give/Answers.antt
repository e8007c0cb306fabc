-- `inputs::cannot_give` meets its contract.
use mathlib.Core.Path.{◌≡◌, refl, ◌∙◌}
use mathlib.Core.Bool.{not}
use denote.Enum.Bare.{sameb}
use Prim.Native.Nat.{◌≤◌}
use lib.ListN.{length}
use Rattle.std.proofs.Common.{rules, tests}
use Rattle.std.specs.Prelude.{Option, None, Some, is_some}
use Rattle.calculus.specs.declared.Value.{Value}
use Rattle.book.specs.Syntax.{same_type}
use Rattle.book.specs.contracts.ValueType.{the_type}
use Rattle.book.specs.declared.ValueType.{ValueType}
use Rattle.book.specs.declared.ValueType.TheVariants.{YesNo, Numeric}
use Rattle.lists.specs.Inputs.{is_given}
use Rattle.lists.proofs.Reading.{past, within}
use Rattle.inputs.proofs.cannot_give.Goals as goal

unlike : (a b : ValueType) → not (sameb the_type a b) ≡ not (same_type a b)
unlike YesNo YesNo = refl
unlike YesNo Numeric = refl
unlike Numeric YesNo = refl
unlike Numeric Numeric = refl

some_given : (g : Option Value) → is_some g ≡ is_given g
some_given None = refl
some_given (Some v) = refl

pub returns-in_default : goal.returns-in_default
returns-in_default c =
    let far : length c.args.types.now ≤ c.args.v = c.in_default.ensures.lookup.3 in
    rw (← past c.args.types.now c.args.given.now c.args.t c.args.v far) (search (rules, tests))

pub returns-then-ne : goal.returns-then-ne
returns-then-ne c =
    let there = c.in-Some.ensures.lookup.3 in
    rw (within c.args.types.now c.args.given.now c.args.t c.args.v there.0, ← there.1 0, ← c.type_of.ensures, ← unlike c.args.t c.type_of.result, ← c.ne.ensures, c.if-ne.true)

pub returns-else-ne : goal.returns-else-ne
returns-else-ne c =
    let there = c.in-Some.ensures.lookup.3 in
    rw (within c.args.types.now c.args.given.now c.args.t c.args.v there.0, ← there.1 0, ← c.type_of.ensures, ← unlike c.args.t c.type_of.result, ← c.ne.ensures, c.if-ne.false, ← c.given_at.ensures)
    (c.is_some.ensures ∙ some_given c.given_at.result)
