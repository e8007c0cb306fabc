-- `evaluator::evaluate_in` meets its contract.
use mathlib.Core.Path.{sym, ◌∙◌}
use Rattle.std.proofs.lemmas.Result.{err_from_is_err_and}
use Rattle.loaded.proofs.Preparing.{laid_so}
use Rattle.evaluator.proofs.Service.{refused_book}
use Rattle.evaluator.proofs.evaluate_in.Goals as goal

pub invariant_of-indexed : goal.invariant_of-indexed
invariant_of-indexed c = record { laid = laid_so c.load.ensures c.in_ok-scopes.was }

pub evaluate_accepted-requires : goal.evaluate_accepted-requires
evaluate_accepted-requires c = let t = c.load.ensures.tables _ c.in_ok-scopes.was in record { accepted = sym c.load.ensures.answer ∙ c.in_ok-scopes.was; laid = t.laid; step_orders = t.step_orders }

pub returns-in_err-scopes : goal.returns-in_err-scopes
returns-in_err-scopes c = let p = err_from_is_err_and c.from_residual.result c.from_residual.ensures.1 in rw (p.1, p.2) (refused_book _ _ _ (sym c.load.ensures.answer ∙ c.in_err-scopes.was))
