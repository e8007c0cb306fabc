-- `loaded::prepare` meets its contract.
use native.Mathlib.Omega.{arith}
use Rattle.std.proofs.lemmas.Grind.{common_steps}
use Rattle.std.proofs.lemmas.Result.{err_from_is_err_and}
use Rattle.loaded.proofs.Preparing.{laid_so, unlinked, accepted_so, refused_so}
use Rattle.loaded.proofs.prepare.Goals as goal

pub invariant_of-indexed : goal.invariant_of-indexed
invariant_of-indexed c = record { laid = laid_so c.load.ensures {n = c.in_ok-scopes.scopes} (grind (arith, common_steps)) }

pub fill_all_links-requires : goal.fill_all_links-requires
fill_all_links-requires c = unlinked c.load.ensures {n = c.in_ok-scopes.scopes} (grind (arith, common_steps)) _ (omega arith) c.requires.unlinked

pub returns : goal.returns
returns c = accepted_so c.load.ensures {n = c.in_ok-scopes.scopes} (grind (arith, common_steps)) c.fill_all_links.ensures

pub returns-in_err-scopes : goal.returns-in_err-scopes
returns-in_err-scopes c = let p = err_from_is_err_and c.from_residual.result c.from_residual.ensures.1 in rw (p.1, p.2) (refused_so c.load.ensures (grind (arith, common_steps)))
