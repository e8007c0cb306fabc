-- `evaluator::evaluate_accepted` meets its contract.
use Rattle.evaluator.proofs.Service.{refused_scope, refused_input, refused_room, evaluated}
use Rattle.loaded.proofs.Taken.{taken_fitting}
use Rattle.evaluator.proofs.evaluate_accepted.Goals as goal

pub returns-then-book-i : goal.returns-then-book-i
returns-then-book-i c = refused_scope c.args.book.now.bytes.now c.args.book.now.scopes c.args.i c.requires.accepted _ c.if-book-i.true

pub returns-then-not-read_inputs : goal.returns-then-not-read_inputs
returns-then-not-read_inputs c = refused_input c.args.book.now.bytes.now c.args.book.now.scopes c.args.i c.requires.accepted c.if-book-i.false _ (c.read_inputs.ensures.refused c.if-not-read_inputs.true)

pub returns-then-results-length : goal.returns-then-results-length
returns-then-results-length c = refused_room c.args.book.now.bytes.now c.args.book.now.scopes c.args.i c.requires.accepted c.if-book-i.false (c.read_inputs.ensures.taken c.if-not-read_inputs.false) (rw (← c.result_length-length.ensures) c.if-results-length.true)

pub run-requires : goal.run-requires
run-requires c = record { tabled = c.requires; scope = c.if-book-i.false; given_room = c.read_inputs.ensures.size; given_kept = (c.read_inputs.ensures.taken c.if-not-read_inputs.false).kept; fitting = taken_fitting (c.read_inputs.ensures.taken c.if-not-read_inputs.false); room = rw (← c.result_length-length.ensures) c.if-results-length.false }

pub returns : goal.returns
returns c = evaluated c.args.book.now.bytes.now c.args.book.now.scopes c.args.i c.requires.accepted c.if-book-i.false (c.read_inputs.ensures.taken c.if-not-read_inputs.false) (rw (← c.result_length-length.ensures) c.if-results-length.false) c.run.ensures
