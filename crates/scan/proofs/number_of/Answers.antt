-- `scan::number_of` meets its contract.
use mathlib.Core.Path.{◌∙◌}
use native.Mathlib.Omega.{arith}
use Rattle.scan.proofs.Tallies.{number_one, number_more}
use Rattle.scan.proofs.number_of.Goals as goal

pub returns-then-stage-lt2 : goal.returns-then-stage-lt2
returns-then-stage-lt2 c = number_one _ _ _ c.if-stage-lt2.true

pub overflow_sub-scopes : goal.overflow_sub-scopes
overflow_sub-scopes c = let o = c.requires.opened c.if-stage-lt2.false in omega arith

pub returns : goal.returns
returns c = c.from.ensures ∙ number_more _ _ _ c.requires c.if-stage-lt2.false
