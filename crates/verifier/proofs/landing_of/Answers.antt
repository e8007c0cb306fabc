-- `verifier::landing_of` meets its contract.
use mathlib.Core.Path.{sym, ap, ◌∙◌}
use native.Mathlib.Omega.{arith}
use Rattle.record.specs.declared.Shape.{Shape}
use Rattle.verifier.specs.Pass.{Landed}
use Rattle.verifier.proofs.Landings.{body_room, called_room_lem, bare, no_stage, landed_none, landed_one, landed_names, landed_jump, landed_given, landed_number}
use Rattle.verifier.proofs.landing_of.Goals as goal

pub returns-then-shape-ne4 : goal.returns-then-shape-ne4
returns-then-shape-ne4 c = no_stage _ _ _ _ _ c.requires.0 c.requires.1 (λ e. c.if-shape-ne4.true ((ap (λ (x : Shape). x.stage) c.requires.2) ∙ e))

pub returns-then-u-eq0 : goal.returns-then-u-eq0
unfolding Landed
returns-then-u-eq0 c = λ e. c.if-u-eq0.true

pub two_names-requires : goal.two_names-requires
two_names-requires c = (body_room _ _ _ _ _ c.requires.0 c.requires.1 2 (omega arith), called_room_lem _ _ _ _ _ c.requires.0 c.requires.1 c.if-u-eq0.false)

pub returns-then-has_names : goal.returns-then-has_names
returns-then-has_names c = landed_names _ _ _ _ _ c.requires.0 c.requires.1 c.if-u-eq0.false (sym (ap (λ (x : Shape). x.stage) c.requires.2) ∙ c.if-shape-ne4.false) _ (sym (ap (λ (x : Shape). x.length) c.requires.2) ∙ c.in-2.is) (sym c.has_names.ensures ∙ c.if-has_names.true) c.two_names.ensures

pub returns-in-0 : goal.returns-in-0
returns-in-0 c = landed_none _ _ _ _ _ c.requires.0 c.requires.1 c.if-u-eq0.false (sym (ap (λ (x : Shape). x.stage) c.requires.2) ∙ c.if-shape-ne4.false) _ (sym (ap (λ (x : Shape). x.length) c.requires.2) ∙ c.in-0.is) (bare _ _ _ c.requires.0)

pub returns-in-1 : goal.returns-in-1
returns-in-1 c = landed_one _ _ _ _ _ c.requires.0 c.requires.1 c.if-u-eq0.false (sym (ap (λ (x : Shape). x.stage) c.requires.2) ∙ c.if-shape-ne4.false) _ (sym (ap (λ (x : Shape). x.length) c.requires.2) ∙ c.in-1.is) c.limit_of.ensures c.one_name.ensures

pub returns-else-has_names : goal.returns-else-has_names
returns-else-has_names c = landed_jump _ _ _ _ _ c.requires.0 c.requires.1 c.if-u-eq0.false (sym (ap (λ (x : Shape). x.stage) c.requires.2) ∙ c.if-shape-ne4.false) _ (sym (ap (λ (x : Shape). x.length) c.requires.2) ∙ c.in-2.is) (sym c.has_names.ensures ∙ c.if-has_names.false) c.jump.ensures

pub returns-in-3 : goal.returns-in-3
returns-in-3 c = landed_given _ _ _ _ _ c.requires.0 c.requires.1 c.if-u-eq0.false (sym (ap (λ (x : Shape). x.stage) c.requires.2) ∙ c.if-shape-ne4.false) _ (sym (ap (λ (x : Shape). x.length) c.requires.2) ∙ c.in-3.is) (rw (← c.byte_at.ensures, ← c.from-x.ensures) c.jump-in-3.ensures)

pub returns-in_default : goal.returns-in_default
returns-in_default c = let same = ap (λ (x : Shape). x.length) c.requires.2 in landed_number _ _ _ _ _ c.requires.0 c.requires.1 c.if-u-eq0.false (sym (ap (λ (x : Shape). x.stage) c.requires.2) ∙ c.if-shape-ne4.false) _ (λ e. omega arith) (λ e. omega arith) (λ e. omega arith) (λ e. omega arith) c.no_name.ensures
