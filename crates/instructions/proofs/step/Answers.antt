-- `instructions::step` meets its contract.
use mathlib.Core.Path.{refl}
use Rattle.record.specs.Kinds.{kinds, shapes_of, shape_in}
use Rattle.machine.specs.Instructions.{instruction_of}
use Rattle.machine.specs.Machine.{effect}
use Rattle.cells.specs.Joining.{joined_of}
use Rattle.instructions.specs.Effects.{rest_at}
use Rattle.instructions.proofs.Steps.{own_named, called_named, given_named, own_fits, called_fits, store_fits, override_fits}
use Rattle.instructions.proofs.Steps.{does_own, does_called, does_given, does_store, does_override, pass_at, pass_try, pass_binary, pass_stuck, none_below, none_above, past_unary}
use Rattle.instructions.proofs.step.Goals as goal

pub read_own-requires : goal.read_own-requires
read_own-requires c = rw c.first.ensures (own_fits c.requires (own_named c.requires c.in-6.is)).0

pub read_called-requires : goal.read_called-requires
read_called-requires c = rw (c.first-in-7.ensures, c.second.ensures) (called_fits c.requires (called_named c.requires c.in-7.is))

pub store_at-requires : goal.store_at-requires
store_at-requires c = store_fits c.requires c.in-41.is

pub override_at-requires : goal.override_at-requires
override_at-requires c = override_fits c.requires c.in-42.is

pub jump_if_given-requires : goal.jump_if_given-requires
jump_if_given-requires c = let f = own_fits c.requires (given_named c.requires c.in-44.is) in rw c.first-in-44.ensures (f.0, f.1, c.distance-in-44.ensures.1)

pub returns-in-4 : goal.returns-in-4
unfolding effect instruction_of shape_in shapes_of kinds
returns-in-4 c = pass_at c.in-4.is (λ env m. c.push_truth.ensures _ m c.requires.room)

pub returns-in-5 : goal.returns-in-5
unfolding effect instruction_of shape_in shapes_of kinds
returns-in-5 c = pass_at c.in-5.is (λ env m. c.push_number.ensures _ m c.requires.room)

pub returns-in-6 : goal.returns-in-6
returns-in-6 c = does_own c.requires _ c.in-6.is _ (λ m. rw (← c.first.ensures) (c.read_own.ensures _ _ m c.requires.room))

pub returns-in-7 : goal.returns-in-7
returns-in-7 c = does_called c.requires _ c.in-7.is _ (λ n m. rw (← c.first-in-7.ensures, ← c.second.ensures) (λ l. c.read_called.ensures n _ m l c.requires.room))

pub returns-in-10 : goal.returns-in-10
unfolding effect instruction_of shape_in shapes_of kinds
returns-in-10 c = pass_at c.in-10.is (λ env m. c.unary.ensures env _ m 0 (c.requires.room.tries, c.requires.room.pairs))

pub returns-in-11 : goal.returns-in-11
unfolding effect instruction_of shape_in shapes_of kinds
returns-in-11 c = pass_at c.in-11.is (λ env m. c.unary-in-11.ensures env _ m 0 (c.requires.room.tries, c.requires.room.pairs))

pub returns-in-32 : goal.returns-in-32
unfolding effect instruction_of shape_in shapes_of kinds
returns-in-32 c = pass_at c.in-32.is (λ env m. c.raise.ensures m)

pub returns-in-33 : goal.returns-in-33
unfolding effect instruction_of shape_in shapes_of kinds
returns-in-33 c = pass_at c.in-33.is (λ env m. refl)

pub returns-in-34 : goal.returns-in-34
unfolding effect instruction_of shape_in shapes_of kinds
returns-in-34 c = pass_at c.in-34.is (λ env m. rw (← c.distance.ensures.0) (c.jump.ensures _ _ m c.requires.room))

pub returns-in-35 : goal.returns-in-35
unfolding effect instruction_of shape_in shapes_of kinds
returns-in-35 c = pass_at c.in-35.is (λ env m. rw (← c.distance-in-35.ensures.0) (c.branch-distance.ensures env _ m 0 (c.requires.room.tries, c.requires.room.pairs)))

pub returns-in-36 : goal.returns-in-36
returns-in-36 c = pass_try c.in-36.is _ (λ m. rw (← c.distance-in-36.ensures.0) (c.begin_try.ensures _ m (c.requires.room.stack, c.requires.room.height)))

pub returns-in-37 : goal.returns-in-37
unfolding effect instruction_of shape_in shapes_of kinds
returns-in-37 c = pass_at c.in-37.is (λ env m. c.end_try.ensures _ _ m c.requires.room)

pub returns-in-38 : goal.returns-in-38
unfolding effect instruction_of shape_in shapes_of kinds joined_of
returns-in-38 c = pass_at c.in-38.is (λ env m. c.push.ensures _ m c.requires.room)

pub returns-in-39 : goal.returns-in-39
unfolding effect instruction_of shape_in shapes_of kinds
returns-in-39 c = pass_at c.in-39.is (λ env m. c.join_top.ensures env _ m 0 (c.requires.room.tries, c.requires.room.pairs))

pub returns-in-40 : goal.returns-in-40
unfolding effect instruction_of shape_in shapes_of kinds
returns-in-40 c = pass_at c.in-40.is (λ env m. rw (← c.distance-in-40.ensures.0) (c.settle.ensures env _ m 0 (c.requires.room.tries, c.requires.room.pairs)))

pub returns-in-41 : goal.returns-in-41
returns-in-41 c = does_store c.requires _ c.in-41.is _ _ c.store_at.ensures

pub returns-in-42 : goal.returns-in-42
returns-in-42 c = does_override c.requires _ c.in-42.is _ c.override_at.ensures

pub returns-in-44 : goal.returns-in-44
returns-in-44 c = does_given c.requires _ c.in-44.is (λ m. rw (← c.first-in-44.ensures, ← c.distance-in-44.ensures.0) (c.jump_if_given.ensures _ _ m c.requires.room))

pub returns-in-12 : goal.returns-in-12
returns-in-12 c = pass_binary (past_unary _ (rest_at c.args.body.now c.args.s.at) c.requires.stays c.in-12.in_default-own.rest c.in-12.if-kind-lt10-own.false) c.in-12.if-kind-lt17-own.true c.operator_of.ensures (λ env m left. c.binary.ensures env _ m left (c.requires.room.tries, c.requires.room.pairs))

pub returns-in_default : goal.returns-in_default
returns-in_default c = pass_stuck (none_below _ _ c.requires.stays c.in_default.in_default-own.rest c.in_default.if-kind-lt10-own.true)

pub returns-in_default-2 : goal.returns-in_default-2
returns-in_default-2 c = pass_stuck (none_above _ _ c.requires.stays c.in_default.in_default-own.rest c.in_default.if-kind-lt17-own.false)
