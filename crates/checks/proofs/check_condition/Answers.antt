-- `checks::check_condition` meets its contract.
use borrow.Author.Tests.{eq-eqb, ne_eqb}
use Rattle.sharing.proofs.Marks.{marked_none}
use Rattle.book.specs.declared.ValueType.TheVariants.{YesNo}
use Rattle.checks.proofs.Equal.{equal}
use Rattle.checks.proofs.check_condition.Goals as goal

pub returns-then-condition-eq255 : goal.returns-then-condition-eq255
returns-then-condition-eq255 c =
    let always = eq-eqb _ _ c.if-condition-eq255.true in
    record { named = rw always; shared = rw always marked_none; fitting = rw always }

pub returns : goal.returns
returns c =
    let node = ne_eqb _ _ c.if-condition-eq255.false in
    record {
      named = rw node c.below-names.ensures;
      shared = rw node c.mark-shares.ensures;
      fitting = rw (node, ← c.type_in.ensures) (equal c.type_in.result YesNo c.eq-suits.ensures);
    }
