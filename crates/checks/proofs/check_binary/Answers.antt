-- `checks::check_binary` meets its contract.
use Rattle.book.specs.References.{node_names}
use Rattle.references.specs.Dangling.{both_below}
use Rattle.sharing.proofs.Marks.{marked_then}
use Rattle.checks.specs.Findings.{type_byte, node_suits}
use Rattle.checks.proofs.Equal.{equal}
use Rattle.checks.proofs.check_binary.Goals as goal

pub returns : goal.returns
unfolding node_names both_below node_suits type_byte
returns c =
    record {
      told = λ book i.
          record {
            named = c.both_below-names.ensures;
            shared = marked_then c.mark-first.ensures c.mark-shares.ensures;
            fitting = rw (equal c.type_in-left.result c.operand_type-t.result c.eq.ensures, equal c.type_in.result c.operand_type-t.result c.eq-2.ensures, c.type_in.ensures, c.operand_type-t.ensures, c.type_in-left.ensures);
            typed = rw (c.byte_of-byte.ensures, c.binary_type.ensures);
          };
    }
