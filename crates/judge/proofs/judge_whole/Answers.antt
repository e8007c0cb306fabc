-- `judge::judge_whole` meets its contract.
use mathlib.Core.Path.{◌≡◌, sym, ◌∙◌}
use Rattle.std.proofs.Common.{arith}
use Rattle.std.proofs.lemmas.Result.{err_from_is_err_and}
use Rattle.answers.specs.declared.Fault.TheVariants.{DanglingReference}
use Rattle.book.specs.Decode.{scopes_of}
use Rattle.judge.proofs.Faults.{refused, found_dangling, found_sound, found_shares, found_mismatches, dangling, shared, mismatched, mixed, orders_left}
use Rattle.judge.proofs.judge_whole.Goals as goal

pub returns-in_err-found : goal.returns-in_err-found
returns-in_err-found c =
    let fault : c.in_err-found.field-0.0 ≡ DanglingReference = grind arith in
    let p = err_from_is_err_and c.from_residual.result c.from_residual.ensures.1 in
    rw (p.1, p.2, fault)
    (refused (dangling (scopes_of c.args.book.now.bytes.now) (found_dangling c.find_faults.ensures c.ok_or.ensures.ok_part c.in_err-found.was)))

pub returns-then-found : goal.returns-then-found
returns-then-found c =
    let sound = found_sound c.find_faults.ensures c.ok_or.ensures.ok_part c.in_ok-found.was in
    let shares = found_shares c.find_faults.ensures c.ok_or.ensures.ok_part c.in_ok-found.was c.if-found.true in
    refused (shared (scopes_of c.args.book.now.bytes.now) sound shares)

pub returns-then-found-2 : goal.returns-then-found-2
returns-then-found-2 c =
    let sound = found_sound c.find_faults.ensures c.ok_or.ensures.ok_part c.in_ok-found.was in
    let shares = found_shares c.find_faults.ensures c.ok_or.ensures.ok_part c.in_ok-found.was c.if-found.false in
    let mismatches = found_mismatches c.find_faults.ensures c.ok_or.ensures.ok_part c.in_ok-found.was c.if-found-2.true in
    refused (mismatched (scopes_of c.args.book.now.bytes.now) sound shares mismatches)

pub returns-then-has_mixed : goal.returns-then-has_mixed
returns-then-has_mixed c =
    let sound = found_sound c.find_faults.ensures c.ok_or.ensures.ok_part c.in_ok-found.was in
    let shares = found_shares c.find_faults.ensures c.ok_or.ensures.ok_part c.in_ok-found.was c.if-found.false in
    let mismatches = found_mismatches c.find_faults.ensures c.ok_or.ensures.ok_part c.in_ok-found.was c.if-found-2.false in
    refused (mixed (scopes_of c.args.book.now.bytes.now) sound shares mismatches (sym c.has_mixed.ensures ∙ c.if-has_mixed.true))

pub returns : goal.returns
returns c =
    let sound = found_sound c.find_faults.ensures c.ok_or.ensures.ok_part c.in_ok-found.was in
    let shares = found_shares c.find_faults.ensures c.ok_or.ensures.ok_part c.in_ok-found.was c.if-found.false in
    let mismatches = found_mismatches c.find_faults.ensures c.ok_or.ensures.ok_part c.in_ok-found.was c.if-found-2.false in
    let left = orders_left (scopes_of c.args.book.now.bytes.now) sound shares mismatches (sym c.has_mixed.ensures ∙ c.if-has_mixed.false) in
    record { answer = c.judge_orders.ensures.answer ∙ left; tables = c.judge_orders.ensures.tables }
