-- `tabulator::tabulate` meets its contract.
use mathlib.Core.Path.{refl, sym, ◌∙◌}
use borrow.Author.Rules.{rules}
use Rattle.std.proofs.lemmas.Result.{err_from_is_err_and}
use Rattle.scan.proofs.Beginnings.{all_rows}
use Rattle.tabulator.proofs.Service.{refused_book}
use Rattle.tabulator.proofs.tabulate.Goals as goal

pub prepare-requires : goal.prepare-requires
prepare-requires c = record { unfilled = all_rows _; unlinked = refl; room = search rules }

pub invariant_of-indexed : goal.invariant_of-indexed
invariant_of-indexed c = record { laid = (c.prepare.ensures.world _ c.in_ok-scopes.was).sound.laid }

pub tabulate_loaded-requires : goal.tabulate_loaded-requires
tabulate_loaded-requires c = record { answer = sym c.in_ok-scopes.was ∙ c.prepare.ensures.answer; world = λ m e. c.prepare.ensures.world _ c.in_ok-scopes.was }

pub returns-in_err-scopes : goal.returns-in_err-scopes
returns-in_err-scopes c =
    let p = err_from_is_err_and c.from_residual.result c.from_residual.ensures.1 in
    rw (p.1, p.2) (refused_book c.args.book.now c.args.scope c.args.chosen.now c.args.inputs.now (sym c.prepare.ensures.answer ∙ c.in_err-scopes.was))
