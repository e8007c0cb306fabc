-- `scan::step_at` meets its contract.
use mathlib.Core.Path.{sym, ◌∙◌}
use native.Mathlib.Omega.{arith}
use Rattle.record.specs.declared.Record.TheVariants.{End, Unknown, Truncated}
use Rattle.scan.proofs.Steps.{as_record, by_record_lem, whole_step, whole_record}
use Rattle.scan.proofs.step_at.Goals as goal

pub body_at-body-requires : goal.body_at-body-requires
body_at-body-requires c = let w = whole_record _ _ _ _ _ (sym c.in-Whole.is ∙ as_record _ _ _ c.read_from.ensures) in omega arith

pub step_over-requires : goal.step_over-requires
step_over-requires c = let w = whole_record _ _ _ _ _ (sym c.in-Whole.is ∙ as_record _ _ _ c.read_from.ensures) in (c.requires.1, w.known, w.below)

pub returns-in-End : goal.returns-in-End
returns-in-End c = by_record_lem _ _ _ _ _ c.requires.0 End (sym c.in-End.is ∙ as_record _ _ _ c.read_from.ensures)

pub returns-in-Unknown : goal.returns-in-Unknown
returns-in-Unknown c = by_record_lem _ _ _ _ _ c.requires.0 Unknown (sym c.in-Unknown.is ∙ as_record _ _ _ c.read_from.ensures)

pub returns-in-Truncated : goal.returns-in-Truncated
returns-in-Truncated c = by_record_lem _ _ _ _ _ c.requires.0 Truncated (sym c.in-Truncated.is ∙ as_record _ _ _ c.read_from.ensures)

pub returns-in-Whole : goal.returns-in-Whole
returns-in-Whole c = c.step_over.ensures ∙ whole_step _ _ _ _ _ c.requires.0 _ _ _ (sym c.in-Whole.is ∙ as_record _ _ _ c.read_from.ensures) _ c.body_at-body.ensures _ c.read_on-next.ensures
