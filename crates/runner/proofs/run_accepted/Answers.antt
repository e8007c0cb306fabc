-- `runner::run_accepted` meets its contract.
use native.Mathlib.Omega.{arith}
use mathlib.Core.Path.{refl}
use Rattle.runner.proofs.Service.{refused_scope, block_small, variables_few, types_few, refused_input, refused_room, asks, answers}
use Rattle.runner.proofs.run_accepted.Goals as goal

pub returns-in_default : goal.returns-in_default
returns-in_default c = refused_scope c.requires c.args.scope _ (omega (arith, c.in_default.ensures))

pub fill_types-count-requires : goal.fill_types-count-requires
fill_types-count-requires c = (block_small c.requires c.args.scope _ c.in-Some.ensures, variables_few c.requires c.args.scope _ c.in-Some.ensures, refl)

pub read_by-requires : goal.read_by-requires
read_by-requires c = record { types_len_bound = types_few c.requires c.args.scope _ c.in-Some.ensures _ c.part_of-types.ensures c.fill_types-count.ensures; given_value = refl }

pub returns-then-not-read_by : goal.returns-then-not-read_by
returns-then-not-read_by c = refused_input c.requires c.args.scope _ c.in-Some.ensures _ c.part_of-types.ensures c.fill_types-count.ensures _ (c.read_by.ensures.refused c.if-not-read_by.true)

pub length_by-length-requires : goal.length_by-length-requires
length_by-length-requires c = types_few c.requires c.args.scope _ c.in-Some.ensures _ c.part_of-types.ensures c.fill_types-count.ensures

pub returns-then-results-length : goal.returns-then-results-length
returns-then-results-length c = refused_room c.requires c.args.scope _ c.in-Some.ensures _ c.part_of-types.ensures c.fill_types-count.ensures (c.read_by.ensures.taken c.if-not-read_by.false) (rw (← c.length_by-length.ensures) c.if-results-length.true)

pub run_block-requires : goal.run_block-requires
run_block-requires c = asks c.requires c.args.scope _ c.in-Some.ensures _ c.part_of-types.ensures c.fill_types-count.ensures (c.read_by.ensures.taken c.if-not-read_by.false) c.read_by.ensures.size (rw (← c.length_by-length.ensures) c.if-results-length.false)

pub returns : goal.returns
returns c = answers c.requires c.args.scope _ c.in-Some.ensures _ c.part_of-types.ensures c.fill_types-count.ensures (c.read_by.ensures.taken c.if-not-read_by.false) (rw (← c.length_by-length.ensures) c.if-results-length.false) c.run_block.ensures
