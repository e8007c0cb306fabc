-- `checks::check_default` meets its contract.
use Rattle.book.specs.References.{node_names}
use Rattle.references.specs.Dangling.{both_below, default_names}
use Rattle.sharing.proofs.Marks.{marked_then, marked_unless}
use Rattle.typing.specs.Types.{named_fits}
use Rattle.checks.specs.Findings.{type_byte, node_suits}
use Rattle.book.specs.declared.ValueType.TheVariants.{YesNo}
use Rattle.checks.proofs.Equal.{equal}
use Rattle.checks.proofs.check_default.Goals as goal

pub returns : goal.returns
unfolding node_names both_below default_names named_fits node_suits type_byte
returns c =
    record {
      told = λ book i.
          record {
            named = c.default_names-names.ensures;
            shared =
                marked_unless c.args.x c.mark_unless-first.ensures
                (marked_unless c.args.y c.mark_unless-second.ensures
                (marked_unless c.args.z c.mark_unless-third.ensures
                (marked_then c.mark-fourth.ensures c.mark-shares.ensures)));
            fitting = rw (c.named_fits.ensures, c.named_fits-2.ensures, c.named_fits-3.ensures, equal c.type_in.result YesNo c.eq-justified.ensures, c.type_in.ensures, c.type_in-t.ensures);
            typed = rw (c.byte_of-byte.ensures, c.type_in-t.ensures);
          };
    }
