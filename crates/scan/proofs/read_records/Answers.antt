-- `scan::read_records` meets its contract.
use Rattle.std.proofs.Common.{sym, ◌∙◌, arith}
use Rattle.std.proofs.lemmas.Result.{err_from_is_err_and}
use Rattle.scan.specs.Counting.{tally_of}
use Rattle.scan.proofs.Filling.{going_start, going_stop, going_turn, going_end, room_here, next_inside}
use Rattle.scan.proofs.read_records.Goals as goal

pub loop-at-init : goal.loop-at-init
loop-at-init c = going_start _ _ c.requires

pub step_at-requires : goal.step_at-requires
step_at-requires c = (c.loop-at-test.true, c.loop-at.invariant.counting)

pub returns-in_err-stage : goal.returns-in_err-stage
returns-in_err-stage c =
    let p = err_from_is_err_and c.from_residual.result c.from_residual.ensures.1 in
    rw (p.1, p.2) (going_stop _ _ _ _ _ _ c.loop-at.invariant c.loop-at-test.true _ (sym c.in_err-stage.was ∙ c.step_at.ensures))

pub store-requires : goal.store-requires
store-requires c =
    let p = c.in_ok-stage.field-0 in
    room_here _ _ _ _ _ _ c.loop-at.invariant c.loop-at-test.true p.stage p.next (sym c.in_ok-stage.was ∙ c.step_at.ensures) c.requires.short

pub scopes_with-scopes-requires : goal.scopes_with-scopes-requires
unfolding tally_of
scopes_with-scopes-requires c = c.loop-at.invariant.counting.within.scopes

pub loop-at-smaller : goal.loop-at-smaller
loop-at-smaller c =
    let p = c.in_ok-stage.field-0 in
    let r = next_inside _ _ _ _ _ _ c.loop-at.invariant c.loop-at-test.true p.stage p.next (sym c.in_ok-stage.was ∙ c.step_at.ensures) in
    let l = r.0 in
    let i = r.1 in
    omega arith

pub loop-at-preserved : goal.loop-at-preserved
loop-at-preserved c =
    let p = c.in_ok-stage.field-0 in
    going_turn _ _ _ _ _ _ c.loop-at.invariant c.loop-at-test.true p.stage p.next (sym c.in_ok-stage.was ∙ c.step_at.ensures)
    _ c.store.ensures _ c.scopes_with-scopes.ensures

pub returns : goal.returns
returns c = going_end _ _ _ _ _ _ c.loop-at-test.false c.loop-at.invariant
