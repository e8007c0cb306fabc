-- The values that a run of a block comes to are of its variables' types.
-- Assumes nothing.
use Prim.Native.Nat.{ℕ, ◌<◌}
use mathlib.Core.Path.{◌≡◌, refl}
use mathlib.Core.List.{List, map}
use borrow.Author.Tests.{eq-eqb}
use Rattle.std.specs.Prelude.{Option}
use Rattle.calculus.specs.declared.Value.{Value}
use Rattle.lists.specs.Writing.{value_type}
use Rattle.evaluation.specs.Run.{values}
use Rattle.machine.specs.Acceptance.{weight_in}
use Rattle.machine.specs.Machine.{ran}
use Rattle.directory.specs.Tabled.{block_at, block_count}
use Rattle.blocks.specs.Entries.{back, run_at}
use Rattle.blocks.proofs.Invariant.{GivensFit, RanGood, block_good, run_cons}
use Rattle.blocks.proofs.Tables.{World, fit, below}
use Rattle.blocks.specs.Running.{block, before, env_at, weight_at}

module _ {code directory : List ℕ} (o : World code directory) (p : ℕ) (l : p < block_count code) (gs : List (Option Value)) (f : GivensFit (block code p).variables gs) where
  run_good : RanGood (before code p) (block code p) (env_at code p) (GivensFit (block code p).variables gs) (weight_in (before code p)) (weight_at code p) (run_at code p gs)
  unfolding run_at block_at back
  run_good =
      rw (run_cons (block code p) (before code p) (block code p).scope gs, eq-eqb (block code p).scope (block code p).scope refl)
      (block_good (before code p) (block code p) (GivensFit (block code p).variables gs) gs (λ x. x) (below o p l) (fit o p l))

  pub run_typed : (vs : List Value) (n : ℕ) → run_at code p gs ≡ ran (values vs n) → map value_type vs ≡ map (λ x. x.holds) (block code p).variables
  run_typed vs n e = let g = rw e at run_good in g.1 f
