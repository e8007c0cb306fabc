-- `judge::load` meets its contract.
use mathlib.Core.Path.{◌∙◌}
use native.Mathlib.Omega.{arith}
use Rattle.std.proofs.lemmas.Result.{err_from_is_err_and}
use Rattle.judge.proofs.Faults.{refused, long, faulty, sound, read_sound, read_fault}
use Rattle.judge.proofs.load.Goals as goal

pub returns-then-book-gt-BYTES : goal.returns-then-book-gt-BYTES
returns-then-book-gt-BYTES c = refused (long c.args.book.now (omega (arith, c.if-book-gt-BYTES.true)))

pub returns-in_err-scopes : goal.returns-in_err-scopes
returns-in_err-scopes c =
    let p = err_from_is_err_and c.from_residual.result c.from_residual.ensures.1 in
    rw (p.1, p.2) (refused (faulty c.args.book.now c.if-book-gt-BYTES.false (read_fault c.read_records.ensures c.in_err-scopes.was)))

pub returns : goal.returns
returns c =
    let s = read_sound c.read_records.ensures c.in_ok-scopes.was in
    record { answer = c.judge_whole.ensures.answer ∙ sound c.args.book.now c.if-book-gt-BYTES.false s; tables = c.judge_whole.ensures.tables }
