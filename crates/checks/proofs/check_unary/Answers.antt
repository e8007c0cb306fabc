-- `checks::check_unary` meets its contract.
use Rattle.book.specs.References.{node_names}
use Rattle.checks.specs.Findings.{type_byte, node_suits}
use Rattle.checks.proofs.Equal.{equal}
use Rattle.checks.proofs.check_unary.Goals as goal

pub returns : goal.returns
unfolding node_names node_suits type_byte
returns c =
    record {
      told = λ book i.
          record {
            named = c.below-names.ensures;
            shared = c.mark-shares.ensures;
            fitting = rw (equal c.type_in.result c.unary_type-t.result c.eq-suits.ensures, c.type_in.ensures, c.unary_type-t.ensures);
            typed = rw (c.byte_of-byte.ensures, c.unary_type-t.ensures);
          };
    }
