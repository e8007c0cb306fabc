-- `blocks::enter`, `run_block`, `run_frame` and `enter_sub` meet their contracts. A block enters only blocks of lower numbers.
use Prim.Native.Nat.{◌+◌, ◌-◌, ◌*◌}
use mathlib.Core.Path.{refl, sym, ap, ◌∙◌}
use lib.ListN.{length}
use native.Mathlib.Omega.{arith}
use Rattle.std.specs.Prelude.{Err}
use Rattle.std.proofs.lemmas.Result.{err_from_is_err_and}
use Rattle.slices.proofs.Parts.{part_room}
use Rattle.blocks.proofs.Tables.{small}
use Rattle.blocks.proofs.Entering.{starts, stepping, world, body_is, ordered, ending, came_end, lent_rest, lent_size, lent_marked, rest_length, lent_before, sub_at, enterable}
use Rattle.blocks.proofs.Entering.{entry_twice, entry_ended, entry_stuck, entry_short, entry_turn, entry_few, callee_entry, came_values, came_ended, came_stuck, came_short}
use Rattle.blocks.proofs.Entering.{stands, acts, goes_on, further, went_on, came_stopped, framed_on}
use Rattle.blocks.proofs.Entering.{fresh_none, fresh_few, fresh_all}
use Rattle.blocks.proofs.Known.{row_room, recalled, entry_from, entry_sized, came_from, noted}
use Rattle.blocks.proofs.Large.{came_to}
use Rattle.blocks.proofs.+enter_enter_sub_run_block_run_frame.Goals as goal

pub enter-variables_in-requires : goal.enter-variables_in-requires
enter-variables_in-requires t c = small (world c.requires.0) _ c.requires.0.block

pub enter-recall-requires : goal.enter-recall-requires
enter-recall-requires t c = row_room c.requires.0 c.requires.0.room c.requires.1

pub enter-returns-in-Some : goal.enter-returns-in-Some
enter-returns-in-Some t c = (recalled c.requires.0 c.variables_in.ensures c.none_given-bare.ensures c.requires.1 c.recall.ensures c.in-Some.is, c.requires.1)

pub enter-run_block-requires : goal.enter-run_block-requires
enter-run_block-requires t c = (omega (arith, c.decreases), (entry_from c.in_default.ensures.kept c.requires.0, c.requires.1))

pub enter-remember-requires : goal.enter-remember-requires
enter-remember-requires t c = row_room c.requires.0 c.run_block.ensures.0.size c.run_block.ensures.1

pub enter-returns-in_err-n : goal.enter-returns-in_err-n
enter-returns-in_err-n t c =
    let e = err_from_is_err_and c.from_residual.result c.from_residual.ensures.1 in
    rw (e.1, e.2) (came_from c.in_default.ensures.kept c.in_err-n.ensures.0, c.in_err-n.ensures.1)

pub enter-returns : goal.enter-returns
enter-returns t c =
    let came = came_from c.in_default.ensures.kept c.in_ok-n.ensures.0 in
    (came, noted c.requires.0 c.variables_in.ensures c.none_given-bare.ensures c.in_ok-n.ensures.1 (came_to _ refl came tt) c.remember.auto.memo c.remember.ensures)

pub enter_sub-overflow_add-k : goal.enter_sub-overflow_add-k
enter_sub-overflow_add-k t c = let e = enterable c.requires c.byte_at-k.ensures in omega (arith, e.few, e.cells, e.block)

pub enter_sub-offset_bounds-frame-k : goal.enter_sub-offset_bounds-frame-k
enter_sub-offset_bounds-frame-k t c = let e = enterable c.requires c.byte_at-k.ensures in omega (arith, e.few, e.cells, e.block)

pub enter_sub-bounds-frame-k : goal.enter_sub-bounds-frame-k
enter_sub-bounds-frame-k t c = let e = enterable c.requires c.byte_at-k.ensures in omega (arith, e.few, e.cells, e.block)

pub enter_sub-returns-then-frame-k-ne0 : goal.enter_sub-returns-then-frame-k-ne0
enter_sub-returns-then-frame-k-ne0 t c = record { entered_at = record { shows = λ own k. entry_twice (world c.requires.entry) _ c.requires.entry.block k c.requires.inside c.requires.enters _ (sub_at c.args.s.at _ c.byte_at-k.ensures) c.if-frame-k-ne0.true }; known = c.requires.known }

pub enter_sub-block_of-q-requires : goal.enter_sub-block_of-q-requires
enter_sub-block_of-q-requires t c = let e = enterable c.requires c.byte_at-k.ensures in (e.block, omega (arith, e.few))

pub enter_sub-overflow_mul-part : goal.enter_sub-overflow_mul-part
enter_sub-overflow_mul-part t c = let e = enterable c.requires c.byte_at-k.ensures in omega (arith, e.few, e.cells, e.block)

pub enter_sub-overflow_add-part : goal.enter_sub-overflow_add-part
enter_sub-overflow_add-part t c = let e = enterable c.requires c.byte_at-k.ensures in omega (arith, e.few, e.cells, e.block)

pub enter_sub-offset_bounds-st-h : goal.enter_sub-offset_bounds-st-h
enter_sub-offset_bounds-st-h t c = let a = c.requires.stands.room.stack in let b = c.requires.stands.room.pairs in let d = c.requires.stands.room.tries in omega arith

pub enter_sub-slice_bounds-left-count : goal.enter_sub-slice_bounds-left-count
enter_sub-slice_bounds-left-count t c = let a = c.requires.stands.room.stack in let b = c.requires.stands.room.pairs in let d = c.requires.stands.room.tries in omega arith

pub enter_sub-slice_bounds-left-start : goal.enter_sub-slice_bounds-left-start
enter_sub-slice_bounds-left-start t c = let a = c.requires.stands.room.stack in let b = c.requires.stands.room.pairs in let d = c.requires.stands.room.tries in omega arith

pub enter_sub-slice_bounds-left-end : goal.enter_sub-slice_bounds-left-end
enter_sub-slice_bounds-left-end t c = let a = c.requires.stands.room.stack in let b = c.requires.stands.room.pairs in let d = c.requires.stands.room.tries in omega arith

pub enter_sub-overflow_mul-open : goal.enter_sub-overflow_mul-open
enter_sub-overflow_mul-open t c = let a = c.requires.stands.room.stack in let b = c.requires.stands.room.pairs in let d = c.requires.stands.room.tries in omega arith

pub enter_sub-offset_bounds-tr-t : goal.enter_sub-offset_bounds-tr-t
enter_sub-offset_bounds-tr-t t c = let a = c.requires.stands.room.stack in let b = c.requires.stands.room.pairs in let d = c.requires.stands.room.tries in omega arith

pub enter_sub-slice_bounds-open-count : goal.enter_sub-slice_bounds-open-count
enter_sub-slice_bounds-open-count t c = let a = c.requires.stands.room.stack in let b = c.requires.stands.room.pairs in let d = c.requires.stands.room.tries in omega arith

pub enter_sub-slice_bounds-open-start : goal.enter_sub-slice_bounds-open-start
enter_sub-slice_bounds-open-start t c = let a = c.requires.stands.room.stack in let b = c.requires.stands.room.pairs in let d = c.requires.stands.room.tries in omega arith

pub enter_sub-slice_bounds-open-end : goal.enter_sub-slice_bounds-open-end
enter_sub-slice_bounds-open-end t c = let a = c.requires.stands.room.stack in let b = c.requires.stands.room.pairs in let d = c.requires.stands.room.tries in omega arith

pub enter_sub-overflow_add-own : goal.enter_sub-overflow_add-own
enter_sub-overflow_add-own t c = let e = enterable c.requires c.byte_at-k.ensures in omega (arith, e.few, e.cells, e.block)

pub enter_sub-offset_bounds-frame-part : goal.enter_sub-offset_bounds-frame-part
enter_sub-offset_bounds-frame-part t c = let e = enterable c.requires c.byte_at-k.ensures in omega (arith, e.few, e.cells, e.block)

pub enter_sub-slice_bounds-own-count : goal.enter_sub-slice_bounds-own-count
enter_sub-slice_bounds-own-count t c = let e = enterable c.requires c.byte_at-k.ensures in omega (arith, e.few, e.cells, e.block)

pub enter_sub-slice_bounds-own-start : goal.enter_sub-slice_bounds-own-start
enter_sub-slice_bounds-own-start t c = let e = enterable c.requires c.byte_at-k.ensures in omega (arith, e.few, e.cells, e.block)

pub enter_sub-slice_bounds-own-end : goal.enter_sub-slice_bounds-own-end
enter_sub-slice_bounds-own-end t c = let e = enterable c.requires c.byte_at-k.ensures in omega (arith, e.few, e.cells, e.block)

pub enter_sub-enter-requires : goal.enter_sub-enter-requires
enter_sub-enter-requires t c = let e = enterable c.requires c.byte_at-k.ensures in (omega (arith, e.below, c.block_of-q.ensures, c.decreases), (callee_entry c.requires.entry (omega (arith, e.below, c.block_of-q.ensures)) (part_room c.args.frame.now (40 + c.byte_at-k.result * 32) (40 + c.byte_at-k.result * 32 + 32 - (40 + c.byte_at-k.result * 32)) (omega (arith, e.cells)) (omega arith)), c.requires.known))

pub enter_sub-overflow_add-frame : goal.enter_sub-overflow_add-frame
enter_sub-overflow_add-frame t c = let e = enterable c.requires c.byte_at-k.ensures in omega (arith, e.few, e.cells, e.block)

pub enter_sub-offset_bounds-frame-k-in-Ok : goal.enter_sub-offset_bounds-frame-k-in-Ok
enter_sub-offset_bounds-frame-k-in-Ok t c = let e = enterable c.requires c.byte_at-k.ensures in omega (arith, e.few, e.cells, e.block)

pub enter_sub-bounds-frame-k-in-Ok : goal.enter_sub-bounds-frame-k-in-Ok
enter_sub-bounds-frame-k-in-Ok t c = let e = enterable c.requires c.byte_at-k.ensures in let n = lent_size c.args.frame.now c.enter.new.own (40 + c.byte_at-k.result * 32) (40 + c.byte_at-k.result * 32 + 32 - (40 + c.byte_at-k.result * 32)) e.cells (omega arith) c.enter.ensures.0.size in omega (arith, e.few, e.cells)

pub enter_sub-advance-requires : goal.enter_sub-advance-requires
enter_sub-advance-requires t c = omega (arith, c.requires.inside)

pub enter_sub-overflow_add-result : goal.enter_sub-overflow_add-result
enter_sub-overflow_add-result t c = omega (arith, entry_few (world c.requires.entry) _ c.requires.entry.block c.requires.stands c.requires.inside c.requires.enters _ (sub_at c.args.s.at _ c.byte_at-k.ensures) c.if-frame-k-ne0.false (40 + c.byte_at-k.result * 32 + 32 - (40 + c.byte_at-k.result * 32)) (omega arith) _ _ (came_values c.block_of-q.ensures c.enter.ensures.0 c.in-Ok.is) c.enter.ensures.0.size)

pub enter_sub-overflow_add-result-in-Err-Ended : goal.enter_sub-overflow_add-result-in-Err-Ended
enter_sub-overflow_add-result-in-Err-Ended t c = omega (arith, (entry_ended (world c.requires.entry) _ c.requires.entry.block c.requires.stands c.requires.inside c.requires.enters _ (sub_at c.args.s.at _ c.byte_at-k.ensures) c.if-frame-k-ne0.false (40 + c.byte_at-k.result * 32 + 32 - (40 + c.byte_at-k.result * 32)) (omega arith) _ _ (came_ended c.block_of-q.ensures c.enter.ensures.0 (c.in-Err-Ended.is ∙ ap Err c.in-Err-Ended.field-0-is))).1)

pub enter_sub-shape_of-st-in-Ok : goal.enter_sub-shape_of-st-in-Ok
enter_sub-shape_of-st-in-Ok t c = lent_rest c.args.st.now c.enter.new.st c.args.s.height c.requires.stands.room.stack c.enter.auto.st

pub enter_sub-shape_of-tr-in-Ok : goal.enter_sub-shape_of-tr-in-Ok
enter_sub-shape_of-tr-in-Ok t c = lent_rest c.args.tr.now c.enter.new.tr (c.args.s.tries * 2) c.requires.stands.room.pairs c.enter.auto.tr

pub enter_sub-shape_of-frame-in-Ok : goal.enter_sub-shape_of-frame-in-Ok
enter_sub-shape_of-frame-in-Ok t c = let e = enterable c.requires c.byte_at-k.ensures in lent_marked c.args.frame.now c.enter.new.own (40 + c.byte_at-k.result * 32) (40 + c.byte_at-k.result * 32 + 32 - (40 + c.byte_at-k.result * 32)) (32 + c.byte_at-k.result) e.cells (omega arith) c.enter.ensures.0.size

pub enter_sub-shape_of-memo-in-Ok : goal.enter_sub-shape_of-memo-in-Ok
enter_sub-shape_of-memo-in-Ok t c = c.enter.ensures.1.size ∙ sym c.requires.known.size

pub enter_sub-returns-in-Ok : goal.enter_sub-returns-in-Ok
enter_sub-returns-in-Ok t c = record { entered_at = record { shows = λ own k. (entry_turn (world c.requires.entry) _ c.requires.entry.block k c.requires.inside c.requires.enters _ (sub_at c.args.s.at _ c.byte_at-k.ensures) c.if-frame-k-ne0.false (40 + c.byte_at-k.result * 32 + 32 - (40 + c.byte_at-k.result * 32)) (omega arith) _ _ (came_values c.block_of-q.ensures c.enter.ensures.0 c.in-Ok.is) c.enter.ensures.0.size _ _ _ c.advance.ensures refl refl refl (λ i l. lent_before c.args.st.now c.enter.new.st c.args.s.height (length c.args.st.now - c.args.s.height) c.requires.stands.room.stack i l) (λ i l. lent_before c.args.tr.now c.enter.new.tr (c.args.s.tries * 2) (length c.args.tr.now - (c.args.s.tries * 2)) c.requires.stands.room.pairs i l) (lent_rest c.args.st.now c.enter.new.st c.args.s.height c.requires.stands.room.stack c.enter.auto.st) (lent_rest c.args.tr.now c.enter.new.tr (c.args.s.tries * 2) c.requires.stands.room.pairs c.enter.auto.tr), further c.advance.ensures) }; known = c.enter.ensures.1 }

pub enter_sub-shape_of-st-in-Err-Ended : goal.enter_sub-shape_of-st-in-Err-Ended
enter_sub-shape_of-st-in-Err-Ended t c = lent_rest c.args.st.now c.enter.new.st c.args.s.height c.requires.stands.room.stack c.enter.auto.st

pub enter_sub-shape_of-tr-in-Err-Ended : goal.enter_sub-shape_of-tr-in-Err-Ended
enter_sub-shape_of-tr-in-Err-Ended t c = lent_rest c.args.tr.now c.enter.new.tr (c.args.s.tries * 2) c.requires.stands.room.pairs c.enter.auto.tr

pub enter_sub-shape_of-frame-in-Err-Ended : goal.enter_sub-shape_of-frame-in-Err-Ended
enter_sub-shape_of-frame-in-Err-Ended t c = let e = enterable c.requires c.byte_at-k.ensures in lent_size c.args.frame.now c.enter.new.own (40 + c.byte_at-k.result * 32) (40 + c.byte_at-k.result * 32 + 32 - (40 + c.byte_at-k.result * 32)) e.cells (omega arith) c.enter.ensures.0.size

pub enter_sub-shape_of-memo-in-Err-Ended : goal.enter_sub-shape_of-memo-in-Err-Ended
enter_sub-shape_of-memo-in-Err-Ended t c = c.enter.ensures.1.size ∙ sym c.requires.known.size

pub enter_sub-returns-in-Err-Ended : goal.enter_sub-returns-in-Err-Ended
enter_sub-returns-in-Err-Ended t c = rw (c.in-Err-Ended.c-is, c.in-Err-Ended.n-is) (record { entered_at = record { shows = λ own k. (entry_ended (world c.requires.entry) _ c.requires.entry.block k c.requires.inside c.requires.enters _ (sub_at c.args.s.at _ c.byte_at-k.ensures) c.if-frame-k-ne0.false (40 + c.byte_at-k.result * 32 + 32 - (40 + c.byte_at-k.result * 32)) (omega arith) _ _ (came_ended c.block_of-q.ensures c.enter.ensures.0 (c.in-Err-Ended.is ∙ ap Err c.in-Err-Ended.field-0-is))).0 }; known = c.enter.ensures.1 })

pub enter_sub-shape_of-st-in-Err-Stuck : goal.enter_sub-shape_of-st-in-Err-Stuck
enter_sub-shape_of-st-in-Err-Stuck t c = lent_rest c.args.st.now c.enter.new.st c.args.s.height c.requires.stands.room.stack c.enter.auto.st

pub enter_sub-shape_of-tr-in-Err-Stuck : goal.enter_sub-shape_of-tr-in-Err-Stuck
enter_sub-shape_of-tr-in-Err-Stuck t c = lent_rest c.args.tr.now c.enter.new.tr (c.args.s.tries * 2) c.requires.stands.room.pairs c.enter.auto.tr

pub enter_sub-shape_of-frame-in-Err-Stuck : goal.enter_sub-shape_of-frame-in-Err-Stuck
enter_sub-shape_of-frame-in-Err-Stuck t c = let e = enterable c.requires c.byte_at-k.ensures in lent_size c.args.frame.now c.enter.new.own (40 + c.byte_at-k.result * 32) (40 + c.byte_at-k.result * 32 + 32 - (40 + c.byte_at-k.result * 32)) e.cells (omega arith) c.enter.ensures.0.size

pub enter_sub-shape_of-memo-in-Err-Stuck : goal.enter_sub-shape_of-memo-in-Err-Stuck
enter_sub-shape_of-memo-in-Err-Stuck t c = c.enter.ensures.1.size ∙ sym c.requires.known.size

pub enter_sub-returns-in-Err-Stuck : goal.enter_sub-returns-in-Err-Stuck
enter_sub-returns-in-Err-Stuck t c = record { entered_at = record { shows = λ own k. entry_stuck (world c.requires.entry) _ c.requires.entry.block k c.requires.inside c.requires.enters _ (sub_at c.args.s.at _ c.byte_at-k.ensures) c.if-frame-k-ne0.false (40 + c.byte_at-k.result * 32 + 32 - (40 + c.byte_at-k.result * 32)) (omega arith) (came_stuck c.block_of-q.ensures c.enter.ensures.0 (c.in-Err-Stuck.is ∙ ap Err c.in-Err-Stuck.field-0-is)) }; known = c.enter.ensures.1 }

pub enter_sub-shape_of-st-in-Err-NoRoom : goal.enter_sub-shape_of-st-in-Err-NoRoom
enter_sub-shape_of-st-in-Err-NoRoom t c = lent_rest c.args.st.now c.enter.new.st c.args.s.height c.requires.stands.room.stack c.enter.auto.st

pub enter_sub-shape_of-tr-in-Err-NoRoom : goal.enter_sub-shape_of-tr-in-Err-NoRoom
enter_sub-shape_of-tr-in-Err-NoRoom t c = lent_rest c.args.tr.now c.enter.new.tr (c.args.s.tries * 2) c.requires.stands.room.pairs c.enter.auto.tr

pub enter_sub-shape_of-frame-in-Err-NoRoom : goal.enter_sub-shape_of-frame-in-Err-NoRoom
enter_sub-shape_of-frame-in-Err-NoRoom t c = let e = enterable c.requires c.byte_at-k.ensures in lent_size c.args.frame.now c.enter.new.own (40 + c.byte_at-k.result * 32) (40 + c.byte_at-k.result * 32 + 32 - (40 + c.byte_at-k.result * 32)) e.cells (omega arith) c.enter.ensures.0.size

pub enter_sub-shape_of-memo-in-Err-NoRoom : goal.enter_sub-shape_of-memo-in-Err-NoRoom
enter_sub-shape_of-memo-in-Err-NoRoom t c = c.enter.ensures.1.size ∙ sym c.requires.known.size

pub enter_sub-returns-in-Err-NoRoom : goal.enter_sub-returns-in-Err-NoRoom
enter_sub-returns-in-Err-NoRoom t c = record { entered_at = record { shows = λ own k. entry_short (world c.requires.entry) _ c.requires.entry.block k c.requires.inside c.requires.enters _ (sub_at c.args.s.at _ c.byte_at-k.ensures) c.if-frame-k-ne0.false (40 + c.byte_at-k.result * 32 + 32 - (40 + c.byte_at-k.result * 32)) (omega arith) (rest_length c.args.st.now c.args.s.height c.requires.stands.room.stack) (rest_length c.args.tr.now (c.args.s.tries * 2) c.requires.stands.room.pairs) (came_short c.block_of-q.ensures c.enter.ensures.0 (c.in-Err-NoRoom.is ∙ ap Err c.in-Err-NoRoom.field-0-is)) }; known = c.enter.ensures.1 }

pub run_block-sub_scopes_in-calls-requires : goal.run_block-sub_scopes_in-calls-requires
run_block-sub_scopes_in-calls-requires t c = small (world c.requires.0) _ c.requires.0.block

pub run_block-run_frame-requires : goal.run_block-run_frame-requires
run_block-run_frame-requires t c = (omega (arith, c.decreases), (c.requires.0, c.requires.1, fresh_none c.sub_scopes_in-calls.ensures c.if-calls-eq0.true))

pub run_block-returns-then-calls-eq0 : goal.run_block-returns-then-calls-eq0
run_block-returns-then-calls-eq0 t c = c.run_frame.ensures

pub run_block-run_frame-requires-then-calls-le2 : goal.run_block-run_frame-requires-then-calls-le2
run_block-run_frame-requires-then-calls-le2 t c = (omega (arith, c.decreases), (c.requires.0, c.requires.1, fresh_few c.sub_scopes_in-calls.ensures c.if-calls-le2.true))

pub run_block-returns-then-calls-le2 : goal.run_block-returns-then-calls-le2
run_block-returns-then-calls-le2 t c = c.run_frame-then-calls-le2.ensures

pub run_block-run_frame-requires-2 : goal.run_block-run_frame-requires-2
run_block-run_frame-requires-2 t c = (omega (arith, c.decreases), (c.requires.0, c.requires.1, fresh_all c.requires.0))

pub run_block-returns : goal.run_block-returns
run_block-returns t c = c.run_frame-2.ensures

pub run_frame-body_of-body-requires : goal.run_frame-body_of-body-requires
run_frame-body_of-body-requires t c = (small (world c.requires.0) _ c.requires.0.block, ordered c.requires.0)

pub run_frame-loop-s-init : goal.run_frame-loop-s-init
run_frame-loop-s-init t c = (starts (world c.requires.0) _ c.requires.0.block _ _ c.requires.2 _ _ _ _ refl refl refl refl (c.body_of-body.ensures ∙ body_is c.requires.0) c.requires.0.room, c.requires.1, refl)

pub run_frame-bounds-body-at : goal.run_frame-bounds-body-at
run_frame-bounds-body-at t c = c.loop-s-test.true

pub run_frame-enter_sub-requires : goal.run_frame-enter_sub-requires
run_frame-enter_sub-requires t c = (omega (arith, c.decreases), record { own = _; entry = entry_sized c.requires.0 c.loop-s.invariant.0.framed.own_size; known = c.loop-s.invariant.1; inside = c.loop-s-test.true; stands = stands c.loop-s.invariant.0; enters = c.if-body-at-eq-KIND_ENTER.true })

pub run_frame-loop-s-smaller-then-body-at-eq-KIND_ENTER : goal.run_frame-loop-s-smaller-then-body-at-eq-KIND_ENTER
run_frame-loop-s-smaller-then-body-at-eq-KIND_ENTER t c = omega (arith, (went_on (record { shows = c.enter_sub.ensures.entered_at.shows _ (stands c.loop-s.invariant.0) }) c.in_ok-s.was).1, c.loop-s-test.true)

pub run_frame-loop-s-preserved-then-body-at-eq-KIND_ENTER : goal.run_frame-loop-s-preserved-then-body-at-eq-KIND_ENTER
run_frame-loop-s-preserved-then-body-at-eq-KIND_ENTER t c = (goes_on c.loop-s.invariant.0 (went_on (record { shows = c.enter_sub.ensures.entered_at.shows _ (stands c.loop-s.invariant.0) }) c.in_ok-s.was).0, c.enter_sub.ensures.known, c.enter_sub.auto.frame ∙ c.loop-s.invariant.2)

pub run_frame-shape_of-st-in_err-s : goal.run_frame-shape_of-st-in_err-s
run_frame-shape_of-st-in_err-s t c = c.enter_sub.auto.st ∙ c.loop-s.invariant.0.stack

pub run_frame-shape_of-tr-in_err-s : goal.run_frame-shape_of-tr-in_err-s
run_frame-shape_of-tr-in_err-s t c = c.enter_sub.auto.tr ∙ c.loop-s.invariant.0.open_room

pub run_frame-shape_of-own-in_err-s : goal.run_frame-shape_of-own-in_err-s
run_frame-shape_of-own-in_err-s t c = c.loop-s.invariant.0.framed.own_size ∙ sym c.requires.0.room

pub run_frame-shape_of-frame-in_err-s : goal.run_frame-shape_of-frame-in_err-s
run_frame-shape_of-frame-in_err-s t c = c.enter_sub.auto.frame ∙ c.loop-s.invariant.2

pub run_frame-shape_of-memo-in_err-s : goal.run_frame-shape_of-memo-in_err-s
run_frame-shape_of-memo-in_err-s t c = c.enter_sub.ensures.known.size ∙ sym c.requires.1.size

pub run_frame-returns-in_err-s : goal.run_frame-returns-in_err-s
run_frame-returns-in_err-s t c =
    let e = err_from_is_err_and c.from_residual.result c.from_residual.ensures.1 in
    rw (e.1, e.2) (came_stopped _ c.loop-s.invariant.0 (record { shows = c.enter_sub.ensures.entered_at.shows _ (stands c.loop-s.invariant.0) }) _ c.in_err-s.was c.loop-s.invariant.0.framed.own_size, c.enter_sub.ensures.known)

pub run_frame-one_step-requires : goal.run_frame-one_step-requires
run_frame-one_step-requires t c = stepping (world c.requires.0) _ c.requires.0.block c.loop-s.invariant.0 c.loop-s-test.true c.if-body-at-eq-KIND_ENTER.false

pub run_frame-loop-s-smaller : goal.run_frame-loop-s-smaller
run_frame-loop-s-smaller t c = omega (arith, (went_on (record { shows = acts (world c.requires.0) _ c.requires.0.block (stands c.loop-s.invariant.0) c.loop-s-test.true _ _ _ _ c.one_step.auto.st c.one_step.auto.tr (framed_on c.loop-s.invariant.0.framed c.one_step.auto.own c.one_step.auto.frame) c.one_step.result c.one_step.ensures.shows }) c.in_ok-s-2.was).1, c.loop-s-test.true)

pub run_frame-loop-s-preserved : goal.run_frame-loop-s-preserved
run_frame-loop-s-preserved t c = (goes_on c.loop-s.invariant.0 (went_on (record { shows = acts (world c.requires.0) _ c.requires.0.block (stands c.loop-s.invariant.0) c.loop-s-test.true _ _ _ _ c.one_step.auto.st c.one_step.auto.tr (framed_on c.loop-s.invariant.0.framed c.one_step.auto.own c.one_step.auto.frame) c.one_step.result c.one_step.ensures.shows }) c.in_ok-s-2.was).0, c.loop-s.invariant.1, c.one_step.auto.frame ∙ c.loop-s.invariant.2)

pub run_frame-shape_of-st-in_err-s-2 : goal.run_frame-shape_of-st-in_err-s-2
run_frame-shape_of-st-in_err-s-2 t c = c.one_step.auto.st ∙ c.loop-s.invariant.0.stack

pub run_frame-shape_of-tr-in_err-s-2 : goal.run_frame-shape_of-tr-in_err-s-2
run_frame-shape_of-tr-in_err-s-2 t c = c.one_step.auto.tr ∙ c.loop-s.invariant.0.open_room

pub run_frame-shape_of-own-in_err-s-2 : goal.run_frame-shape_of-own-in_err-s-2
run_frame-shape_of-own-in_err-s-2 t c = c.one_step.auto.own ∙ c.loop-s.invariant.0.framed.own_size ∙ sym c.requires.0.room

pub run_frame-shape_of-frame-in_err-s-2 : goal.run_frame-shape_of-frame-in_err-s-2
run_frame-shape_of-frame-in_err-s-2 t c = c.one_step.auto.frame ∙ c.loop-s.invariant.2

pub run_frame-shape_of-memo-in_err-s-2 : goal.run_frame-shape_of-memo-in_err-s-2
run_frame-shape_of-memo-in_err-s-2 t c = c.loop-s.invariant.1.size ∙ sym c.requires.1.size

pub run_frame-returns-in_err-s-2 : goal.run_frame-returns-in_err-s-2
run_frame-returns-in_err-s-2 t c =
    let e = err_from_is_err_and c.from_residual-in_err-s-2.result c.from_residual-in_err-s-2.ensures.1 in
    rw (e.1, e.2) (came_stopped _ c.loop-s.invariant.0 (record { shows = acts (world c.requires.0) _ c.requires.0.block (stands c.loop-s.invariant.0) c.loop-s-test.true _ _ _ _ c.one_step.auto.st c.one_step.auto.tr (framed_on c.loop-s.invariant.0.framed c.one_step.auto.own c.one_step.auto.frame) c.one_step.result c.one_step.ensures.shows }) _ c.in_err-s-2.was (c.one_step.auto.own ∙ c.loop-s.invariant.0.framed.own_size), c.loop-s.invariant.1)

pub run_frame-finish-requires : goal.run_frame-finish-requires
run_frame-finish-requires t c = ending c.requires.0 c.loop-s.invariant.0

pub run_frame-shape_of-st : goal.run_frame-shape_of-st
run_frame-shape_of-st t c = c.loop-s.invariant.0.stack

pub run_frame-shape_of-tr : goal.run_frame-shape_of-tr
run_frame-shape_of-tr t c = c.loop-s.invariant.0.open_room

pub run_frame-shape_of-own : goal.run_frame-shape_of-own
run_frame-shape_of-own t c = c.loop-s.invariant.0.framed.own_size ∙ sym c.requires.0.room

pub run_frame-shape_of-frame : goal.run_frame-shape_of-frame
run_frame-shape_of-frame t c = c.loop-s.invariant.2

pub run_frame-shape_of-memo : goal.run_frame-shape_of-memo
run_frame-shape_of-memo t c = c.loop-s.invariant.1.size ∙ sym c.requires.1.size

pub run_frame-returns : goal.run_frame-returns
run_frame-returns t c = (came_end c.requires.0 c.loop-s.invariant.0 _ c.loop-s-test.false c.finish.ensures, c.loop-s.invariant.1)
