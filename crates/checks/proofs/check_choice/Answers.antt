-- `checks::check_choice` meets its contract.
use Rattle.book.specs.References.{node_names}
use Rattle.references.specs.Dangling.{both_below}
use Rattle.sharing.proofs.Marks.{marked_then}
use Rattle.checks.specs.Findings.{type_byte, node_suits}
use Rattle.book.specs.declared.ValueType.TheVariants.{YesNo}
use Rattle.checks.proofs.Equal.{equal}
use Rattle.checks.proofs.check_choice.Goals as goal

pub returns : goal.returns
unfolding node_names both_below node_suits type_byte
returns c =
    record {
      told = λ book i.
          record {
            named = rw (c.below.ensures, c.both_below.ensures);
            shared = marked_then c.mark-first.ensures (marked_then c.mark-second.ensures c.mark-shares.ensures);
            fitting = rw (equal c.type_in.result YesNo c.eq.ensures, equal c.type_in-2.result c.type_in-t.result c.eq-2.ensures, c.type_in.ensures, c.type_in-2.ensures, c.type_in-t.ensures);
            typed = rw (c.byte_of-byte.ensures, c.type_in-t.ensures);
          };
    }
