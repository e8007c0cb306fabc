-- `compiler::compile_in` meets its contract.
use mathlib.Core.Path.{sym, ◌∙◌}
use Rattle.std.proofs.lemmas.Result.{err_from_is_err_and}
use Rattle.compiler.proofs.Answers.{refused}
use Rattle.compiler.proofs.compile_in.Goals as goal

pub invariant_of-indexed : goal.invariant_of-indexed
invariant_of-indexed c = record { laid = (c.load.ensures.tables _ c.in_ok-scopes.was).laid }

pub compile_accepted-requires : goal.compile_accepted-requires
compile_accepted-requires c =
    let t = c.load.ensures.tables _ c.in_ok-scopes.was in
    record {
      accepted = sym c.load.ensures.answer ∙ c.in_ok-scopes.was;
      laid = t.laid;
      block_order = t.block_order;
      step_orders = t.step_orders;
    }

pub returns-in_err-scopes : goal.returns-in_err-scopes
returns-in_err-scopes c =
    let p = err_from_is_err_and c.from_residual.result c.from_residual.ensures.1 in
    rw (p.1, p.2) (refused _ (sym c.load.ensures.answer ∙ c.in_err-scopes.was))
