-- `checks::check_consequence` meets its contract.
use Rattle.sharing.proofs.Marks.{marked_none}
use Rattle.checks.specs.Findings.{consequence_names}
use Rattle.book.specs.declared.ValueType.TheVariants.{YesNo}
use Rattle.checks.proofs.Equal.{equal}
use Rattle.checks.proofs.check_consequence.Goals as goal

pub returns-in-Of : goal.returns-in-Of
unfolding consequence_names
returns-in-Of c =
    let is = c.in-Of.is in
    record {
      named = rw is c.below-names.ensures;
      shared = rw is c.mark-shares.ensures;
      fitting = rw (is, ← c.type_in.ensures) (equal c.type_in.result c.args.wanted c.eq-suits.ensures);
    }

pub returns-in-Fixed : goal.returns-in-Fixed
unfolding consequence_names
returns-in-Fixed c =
    let is = c.in-Fixed.is in
    record { named = rw is; shared = rw is marked_none; fitting = rw is (equal YesNo c.args.wanted c.eq-suits-in-Fixed.ensures) }
