-- `scopes::enter_sub` and `scopes::run_steps` meet their contracts. The invariant: the cells hold what the steps so far have set, and the rest of the
-- run comes to what the whole does; what is known stays so. The measure: a scope that is called has its block before the caller's.
use mathlib.Core.Path.{refl, sym, ◌∙◌}
use native.Mathlib.Omega.{arith}
use Rattle.slices.proofs.Parts.{part_room}
use Rattle.scopes.proofs.Cells.{kept_taken, kept_dropped}
use Rattle.scopes.proofs.Entering.{Turn, scope_few, evaluable, earlier, callee, noting, runs_steps, called_few, begins, ends, put_room, given_room_lem, turn_variable, end_variable}
use Rattle.scopes.proofs.Entering.{number_below, number_few, called_room_lem, end_hand, few_ended, few_values, end_call, turn_call, call_same}
use Prim.Native.Nat.{ℕ, ◌+◌, ◌-◌, ◌*◌}
use Rattle.scopes.proofs.+enter_sub_run_steps.Goals as goal
use Rattle.scopes.proofs.+enter_sub_run_steps.Goals.{run_steps-After-byte_at-x, run_steps-then-x-variables+else-c-ge-EMPTY, run_steps-else-x-variables+else-c-ge-EMPTY-2+in-Ok}

-- what is known at a turn of the loop
turn : (t : ℕ) (c : run_steps-After-byte_at-x t) →
    let s = c.args in
    Turn s.book.now.bytes.now s.orders.now s.i s.given.now c.loop-n.own c.loop-n.called c.loop-n.handed c.loop-n.count c.loop-n.n c.variable_count-variables.result (c.sub_scope_count.result) c.byte_at-x.result
turn t c =
    record {
      running = c.loop-n.invariant.running;
      variables = c.variable_count-variables.ensures;
      sub_scopes = c.sub_scope_count.ensures;
      more = omega (arith, c.loop-n-test.true);
      at = c.byte_at-x.ensures;
    }

pub enter_sub-recall_scope-requires : goal.enter_sub-recall_scope-requires
enter_sub-recall_scope-requires t c = noting c.requires c.requires.room c.requires.kept c.requires.known

pub enter_sub-shape_of-own-in-Some : goal.enter_sub-shape_of-own-in-Some
enter_sub-shape_of-own-in-Some t c = c.recall_scope.ensures.size ∙ sym c.requires.room

pub enter_sub-returns-in-Some : goal.enter_sub-returns-in-Some
enter_sub-returns-in-Some t c = record { came = c.recall_scope.ensures.found _ c.in-Some.is; known = c.requires.known }

pub enter_sub-run_steps-requires : goal.enter_sub-run_steps-requires
enter_sub-run_steps-requires t c = (omega (arith, c.decreases), runs_steps c.requires 1 c.recall_scope.ensures.size c.recall_scope.ensures.kept (omega (arith, c.sub_scope_count-calls.ensures, c.if-calls-eq0.true)))

pub enter_sub-shape_of-own-then-calls-eq0 : goal.enter_sub-shape_of-own-then-calls-eq0
enter_sub-shape_of-own-then-calls-eq0 t c = c.run_steps.ensures.came.size ∙ sym c.requires.room

pub enter_sub-run_steps-requires-then-calls-le2 : goal.enter_sub-run_steps-requires-then-calls-le2
enter_sub-run_steps-requires-then-calls-le2 t c = (omega (arith, c.decreases), runs_steps c.requires 64 c.recall_scope.ensures.size c.recall_scope.ensures.kept (omega (arith, c.sub_scope_count-calls.ensures, c.if-calls-le2.true)))

pub enter_sub-shape_of-own-then-calls-le2 : goal.enter_sub-shape_of-own-then-calls-le2
enter_sub-shape_of-own-then-calls-le2 t c = c.run_steps-then-calls-le2.ensures.came.size ∙ sym c.requires.room

pub enter_sub-run_steps-requires-2 : goal.enter_sub-run_steps-requires-2
enter_sub-run_steps-requires-2 t c = (omega (arith, c.decreases), runs_steps c.requires 256 c.recall_scope.ensures.size c.recall_scope.ensures.kept (omega (arith, c.sub_scope_count-calls.ensures, called_few c.requires)))

pub enter_sub-shape_of-own : goal.enter_sub-shape_of-own
enter_sub-shape_of-own t c = c.run_steps-2.ensures.came.size ∙ sym c.requires.room

pub run_steps-overflow_mul-i : goal.run_steps-overflow_mul-i
run_steps-overflow_mul-i t c = omega (arith, scope_few c.requires.entry)

pub run_steps-overflow_add-steps : goal.run_steps-overflow_add-steps
run_steps-overflow_add-steps t c = omega (arith, c.variable_count-variables.ensures, c.sub_scope_count.ensures, c.requires.entry.world.sound.variables c.args.i, c.requires.entry.world.sound.sub_scopes c.args.i)

pub run_steps-loop-n-init : goal.run_steps-loop-n-init
run_steps-loop-n-init t c = record { running = begins c.requires.entry c.requires.entry.room c.requires.entry.kept c.requires.called_room c.requires.called_kept; known = c.requires.entry.known; called_same = refl; memo_same = refl }

pub run_steps-overflow_mul-i-in-loop-n : goal.run_steps-overflow_mul-i-in-loop-n
run_steps-overflow_mul-i-in-loop-n t c = omega (arith, scope_few c.requires.entry)

pub run_steps-overflow_add-i : goal.run_steps-overflow_add-i
run_steps-overflow_add-i t c = omega (arith, scope_few c.requires.entry, c.loop-n-test.true, c.variable_count-variables.ensures, c.sub_scope_count.ensures, c.requires.entry.world.sound.variables c.args.i, c.requires.entry.world.sound.sub_scopes c.args.i)

pub run_steps-step_cell-c-requires : goal.run_steps-step_cell-c-requires
run_steps-step_cell-c-requires t c = record { evaluable = evaluable c.requires.entry (turn t (goal.at.run_steps-step_cell-c-requires t c).After-byte_at-x) c.part_of-row.ensures; given_kept = c.requires.entry.given_kept; room = given_room_lem c.requires.entry (turn t (goal.at.run_steps-step_cell-c-requires t c).After-byte_at-x) c.if-x-variables.true }

pub run_steps-shape_of-own-then-c-ge-EMPTY : goal.run_steps-shape_of-own-then-c-ge-EMPTY
run_steps-shape_of-own-then-c-ge-EMPTY t c = c.loop-n.invariant.running.own_room ∙ sym c.requires.entry.room

pub run_steps-shape_of-called-then-c-ge-EMPTY : goal.run_steps-shape_of-called-then-c-ge-EMPTY
run_steps-shape_of-called-then-c-ge-EMPTY t c = c.loop-n.invariant.called_same

pub run_steps-shape_of-memo-then-c-ge-EMPTY : goal.run_steps-shape_of-memo-then-c-ge-EMPTY
run_steps-shape_of-memo-then-c-ge-EMPTY t c = c.loop-n.invariant.memo_same

pub run_steps-returns-then-c-ge-EMPTY : goal.run_steps-returns-then-c-ge-EMPTY
run_steps-returns-then-c-ge-EMPTY t c = record { came = end_variable c.requires.entry (turn t (goal.at.run_steps-returns-then-c-ge-EMPTY t c).After-byte_at-x) c.if-x-variables.true c.step_cell-c.ensures c.if-c-ge-EMPTY.true c.cause_of.ensures; known = c.loop-n.invariant.known }

pub run_steps-offset_bounds-own-x : goal.run_steps-offset_bounds-own-x
run_steps-offset_bounds-own-x t c = omega (arith, put_room c.requires.entry (turn t (goal.at.run_steps-offset_bounds-own-x t c).After-byte_at-x) c.if-x-variables.true, c.loop-n.invariant.running.own_room)

pub run_steps-bounds-own-x : goal.run_steps-bounds-own-x
run_steps-bounds-own-x t c = put_room c.requires.entry (turn t (goal.at.run_steps-bounds-own-x t c).After-byte_at-x) c.if-x-variables.true

pub run_steps-hand_over-c-requires : goal.run_steps-hand_over-c-requires
run_steps-hand_over-c-requires t c = record { evaluable = evaluable c.requires.entry (turn t (goal.at.run_steps-hand_over-c-requires t c).After-byte_at-x) c.part_of-row.ensures; number = number_few c.requires.entry (turn t (goal.at.run_steps-hand_over-c-requires t c).After-byte_at-x) c.if-x-variables.false; room = c.loop-n.invariant.running.handed_room; kept = c.loop-n.invariant.running.handed_kept }

pub run_steps-shape_of-own-then-c-ge-EMPTY-2 : goal.run_steps-shape_of-own-then-c-ge-EMPTY-2
run_steps-shape_of-own-then-c-ge-EMPTY-2 t c = c.loop-n.invariant.running.own_room ∙ sym c.requires.entry.room

pub run_steps-shape_of-called-then-c-ge-EMPTY-2 : goal.run_steps-shape_of-called-then-c-ge-EMPTY-2
run_steps-shape_of-called-then-c-ge-EMPTY-2 t c = c.loop-n.invariant.called_same

pub run_steps-shape_of-memo-then-c-ge-EMPTY-2 : goal.run_steps-shape_of-memo-then-c-ge-EMPTY-2
run_steps-shape_of-memo-then-c-ge-EMPTY-2 t c = c.loop-n.invariant.memo_same

pub run_steps-returns-then-c-ge-EMPTY-2 : goal.run_steps-returns-then-c-ge-EMPTY-2
run_steps-returns-then-c-ge-EMPTY-2 t c = record { came = end_hand c.requires.entry (turn t (goal.at.run_steps-returns-then-c-ge-EMPTY-2 t c).After-byte_at-x) c.if-x-variables.false c.hand_over-c.ensures c.if-c-ge-EMPTY-2.true c.cause_of-then-c-ge-EMPTY-2.ensures; known = c.loop-n.invariant.known }

pub run_steps-overflow_mul-from : goal.run_steps-overflow_mul-from
run_steps-overflow_mul-from t c = omega (arith, number_few c.requires.entry (turn t (goal.at.run_steps-overflow_mul-from t c).After-byte_at-x) c.if-x-variables.false)

pub run_steps-slice_bounds-part-end : goal.run_steps-slice_bounds-part-end
run_steps-slice_bounds-part-end t c = called_room_lem c.requires.entry (turn t (goal.at.run_steps-slice_bounds-part-end t c).After-byte_at-x) c.if-x-variables.false

pub run_steps-enter_sub-requires : goal.run_steps-enter_sub-requires
run_steps-enter_sub-requires t c = (omega (arith, earlier c.requires.entry _ _ (number_below c.requires.entry (turn t (goal.at.run_steps-enter_sub-requires t c).After-byte_at-x) c.if-x-variables.false) c.sub_scope_at-j.ensures, c.decreases), callee c.requires.entry _ _ _ _ _ (number_below c.requires.entry (turn t (goal.at.run_steps-enter_sub-requires t c).After-byte_at-x) c.if-x-variables.false) c.sub_scope_at-j.ensures c.hand_over-c.ensures.size c.hand_over-c.ensures.kept (part_room _ _ ((c.byte_at-x.result - c.variable_count-variables.result) * 32 + 32 - (c.byte_at-x.result - c.variable_count-variables.result) * 32) (called_room_lem c.requires.entry (turn t (goal.at.run_steps-enter_sub-requires t c).After-byte_at-x) c.if-x-variables.false) (omega arith)) (kept_taken ((c.byte_at-x.result - c.variable_count-variables.result) * 32 + 32 - (c.byte_at-x.result - c.variable_count-variables.result) * 32) _ (kept_dropped ((c.byte_at-x.result - c.variable_count-variables.result) * 32) _ c.loop-n.invariant.running.called_kept)) c.loop-n.invariant.known)

pub run_steps-overflow_add-count : goal.run_steps-overflow_add-count
run_steps-overflow_add-count t c = omega (arith, few_values c.requires.entry (turn t (goal.at.run_steps-overflow_add-count t c).After-byte_at-x) c.if-x-variables.false c.hand_over-c.ensures c.if-c-ge-EMPTY-2.false c.sub_scope_at-j.ensures c.enter_sub.ensures.came c.in-Ok.is)

pub run_steps-loop-n-preserved : goal.run_steps-loop-n-preserved
run_steps-loop-n-preserved t c =
    elim c.if-x-variables.branch [
      | run_steps-then-x-variables+else-c-ge-EMPTY w ↦
          rw (w.own-is, w.called-is, w.memo-is, w.handed-is, w.count-is)
          (record { running = turn_variable c.requires.entry (turn t (goal.at.run_steps-loop-n-preserved t c).After-byte_at-x) w.if-x-variables.true w.step_cell-c.ensures w.if-c-ge-EMPTY.false; known = c.loop-n.invariant.known; called_same = c.loop-n.invariant.called_same; memo_same = c.loop-n.invariant.memo_same })
      | run_steps-else-x-variables+else-c-ge-EMPTY-2+in-Ok w ↦
          rw (w.own-is, w.called-is, w.memo-is, w.handed-is, w.count-is)
          (record { running = turn_call c.requires.entry (turn t (goal.at.run_steps-loop-n-preserved t c).After-byte_at-x) w.if-x-variables.false w.hand_over-c.ensures w.if-c-ge-EMPTY-2.false w.sub_scope_at-j.ensures w.enter_sub.ensures.came ((c.byte_at-x.result - c.variable_count-variables.result) * 32 + 32 - (c.byte_at-x.result - c.variable_count-variables.result) * 32) (omega arith) w.in-Ok.is; known = w.enter_sub.ensures.known; called_same = call_same c.requires.entry (turn t (goal.at.run_steps-loop-n-preserved t c).After-byte_at-x) w.if-x-variables.false w.enter_sub.ensures.came ((c.byte_at-x.result - c.variable_count-variables.result) * 32 + 32 - (c.byte_at-x.result - c.variable_count-variables.result) * 32) (omega arith) ∙ c.loop-n.invariant.called_same; memo_same = w.enter_sub.auto.memo ∙ c.loop-n.invariant.memo_same })
    ]

pub run_steps-overflow_add-result : goal.run_steps-overflow_add-result
run_steps-overflow_add-result t c = omega (arith, few_ended c.requires.entry (turn t (goal.at.run_steps-overflow_add-result t c).After-byte_at-x) c.if-x-variables.false c.hand_over-c.ensures c.if-c-ge-EMPTY-2.false c.sub_scope_at-j.ensures c.enter_sub.ensures.came c.in-Err.is)

pub run_steps-shape_of-own-in-Err : goal.run_steps-shape_of-own-in-Err
run_steps-shape_of-own-in-Err t c = c.loop-n.invariant.running.own_room ∙ sym c.requires.entry.room

pub run_steps-shape_of-called-in-Err : goal.run_steps-shape_of-called-in-Err
run_steps-shape_of-called-in-Err t c = call_same c.requires.entry (turn t (goal.at.run_steps-shape_of-called-in-Err t c).After-byte_at-x) c.if-x-variables.false c.enter_sub.ensures.came ((c.byte_at-x.result - c.variable_count-variables.result) * 32 + 32 - (c.byte_at-x.result - c.variable_count-variables.result) * 32) (omega arith) ∙ c.loop-n.invariant.called_same

pub run_steps-shape_of-memo-in-Err : goal.run_steps-shape_of-memo-in-Err
run_steps-shape_of-memo-in-Err t c = c.enter_sub.auto.memo ∙ c.loop-n.invariant.memo_same

pub run_steps-returns-in-Err : goal.run_steps-returns-in-Err
run_steps-returns-in-Err t c = record { came = end_call c.requires.entry (turn t (goal.at.run_steps-returns-in-Err t c).After-byte_at-x) c.if-x-variables.false c.hand_over-c.ensures c.if-c-ge-EMPTY-2.false c.sub_scope_at-j.ensures c.enter_sub.ensures.came c.in-Err.is; known = c.enter_sub.ensures.known }

pub run_steps-remember_scope-requires : goal.run_steps-remember_scope-requires
run_steps-remember_scope-requires t c = record { noting = noting c.requires.entry c.loop-n.invariant.running.own_room c.loop-n.invariant.running.own_kept c.loop-n.invariant.known; came = ends c.requires.entry c.loop-n.invariant.running c.variable_count-variables.ensures c.sub_scope_count.ensures (omega (arith, c.loop-n-test.false)) }

pub run_steps-shape_of-own : goal.run_steps-shape_of-own
run_steps-shape_of-own t c = c.loop-n.invariant.running.own_room ∙ sym c.requires.entry.room

pub run_steps-shape_of-called : goal.run_steps-shape_of-called
run_steps-shape_of-called t c = c.loop-n.invariant.called_same

pub run_steps-shape_of-memo : goal.run_steps-shape_of-memo
run_steps-shape_of-memo t c = c.remember_scope.auto.memo ∙ c.loop-n.invariant.memo_same

pub run_steps-returns : goal.run_steps-returns
run_steps-returns t c = record { came = ends c.requires.entry c.loop-n.invariant.running c.variable_count-variables.ensures c.sub_scope_count.ensures (omega (arith, c.loop-n-test.false)); known = c.remember_scope.ensures }
