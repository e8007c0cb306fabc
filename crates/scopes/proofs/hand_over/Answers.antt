-- `scopes::hand_over` meets its contract. The invariant: the cells hold what the variables so far are handed.
use native.Mathlib.Omega.{arith}
use Rattle.book.specs.Positions.{sub_scope_at}
use Rattle.scopes.proofs.Hands.{none_passed, pass, halt, end}
use Rattle.scopes.proofs.hand_over.Goals as goal

pub loop-v-init : goal.loop-v-init
loop-v-init c = none_passed c.requires.room c.requires.kept

pub overflow_cast-v : goal.overflow_cast-v
overflow_cast-v c = omega (arith, c.loop-v-test.true, c.variable_count-v-end.ensures, c.requires.evaluable.ready.sound.variables c.sub_scope_at-j.result)

pub override_cell-c-requires : goal.override_cell-c-requires
override_cell-c-requires c = c.requires.evaluable

pub returns-then-c-ge-EMPTY : goal.returns-then-c-ge-EMPTY
unfolding sub_scope_at
returns-then-c-ge-EMPTY c = halt c.loop-v.invariant (rw (← c.sub_scope_at-j.ensures, ← c.variable_count-v-end.ensures) c.loop-v-test.true) c.override_cell-c.ensures c.if-c-ge-EMPTY.true

pub offset_bounds-handed-v : goal.offset_bounds-handed-v
offset_bounds-handed-v c = omega (arith, c.loop-v-test.true, c.variable_count-v-end.ensures, c.requires.evaluable.ready.sound.variables c.sub_scope_at-j.result)

pub bounds-handed-v : goal.bounds-handed-v
bounds-handed-v c = omega (arith, c.loop-v.invariant.size, c.loop-v-test.true, c.variable_count-v-end.ensures, c.requires.evaluable.ready.sound.variables c.sub_scope_at-j.result)

pub loop-v-preserved : goal.loop-v-preserved
unfolding sub_scope_at
loop-v-preserved c = pass c.loop-v.invariant (rw (← c.sub_scope_at-j.ensures, ← c.variable_count-v-end.ensures) c.loop-v-test.true) c.override_cell-c.ensures c.if-c-ge-EMPTY.false (omega (arith, c.loop-v.invariant.size, c.loop-v-test.true, c.variable_count-v-end.ensures, c.requires.evaluable.ready.sound.variables c.sub_scope_at-j.result))

pub returns : goal.returns
unfolding sub_scope_at
returns c = end c.loop-v.invariant (rw (← c.sub_scope_at-j.ensures, ← c.variable_count-v-end.ensures) c.loop-v-test.false)
