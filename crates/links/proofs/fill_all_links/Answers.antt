-- `links::fill_all_links` meets its contract. The loop's invariant is `Filling`.
use Rattle.links.proofs.Rows.{fill}
use Rattle.links.proofs.fill_all_links.Goals as goal

pub loop-i-preserved : goal.loop-i-preserved
loop-i-preserved c =
    fill _ _ _ _ c.requires _ _ c.loop-i.invariant c.loop-i-test.true _ c.fill_links.ensures
