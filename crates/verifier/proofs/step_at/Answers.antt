-- `verifier::step_at` meets its contract.
use mathlib.Core.Path.{ap}
use native.Mathlib.Omega.{arith}
use Rattle.record.specs.declared.Shape.{Shape}
use Rattle.verifier.proofs.Steps.{next_room, makes_instructing, instruction_stepped, landed_refused, landed_heading}
use Rattle.verifier.proofs.step_at.Goals as goal

pub landing_of-requires : goal.landing_of-requires
landing_of-requires c = (c.requires.0, c.requires.1, c.shape_in-shape.ensures)

pub heading_at-requires : goal.heading_at-requires
heading_at-requires c = landed_heading _ _ _ _ _ c.requires.1 c.requires.0 _ c.in-Heading.is c.landing_of.ensures

pub overflow_add-next-in-Ahead : goal.overflow_add-next-in-Ahead
overflow_add-next-in-Ahead c = let h = next_room _ _ _ _ _ c.requires.1 c.requires.0 _ (ap (λ (x : Shape). x.length) c.shape_in-shape.ensures) _ _ c.in-Ahead.is c.landing_of.ensures in omega arith

pub instruction-requires : goal.instruction-requires
instruction-requires c = makes_instructing _ _ _ _ _ c.requires.1 c.requires.0 _ (ap (λ (x : Shape). x.length) c.shape_in-shape.ensures) _ _ c.in-Ahead.is c.landing_of.ensures (omega arith)

pub returns-in-Refused : goal.returns-in-Refused
returns-in-Refused c = landed_refused _ _ _ _ _ c.requires.1 c.requires.0 _ c.in-Refused.is c.landing_of.ensures

pub returns-in-Ahead : goal.returns-in-Ahead
returns-in-Ahead c = instruction_stepped _ _ _ _ _ c.requires.1 c.requires.0 _ (ap (λ (x : Shape). x.length) c.shape_in-shape.ensures) _ _ c.in-Ahead.is c.landing_of.ensures _ _ c.instruction.ensures
