-- `links::fill_links` meets its contract. The loop's invariant: the clauses from the n-th on are linked.
use Prim.Native.Nat.{◌-◌}
use native.Mathlib.Omega.{arith}
use Rattle.book.specs.Positions.{clause_at}
use Rattle.links.proofs.Named.{sound_chained}
use Rattle.links.proofs.Linking.{start, room, turn}
use Rattle.links.proofs.fill_links.Goals as goal

pub loop-n-init : goal.loop-n-init
loop-n-init c = start _ _ c.requires.size c.requires.blank _ (omega arith)

pub link_clause-requires : goal.link_clause-requires
unfolding clause_at
link_clause-requires c =
    rw c.clause_at.ensures
    (room _ (sound_chained _ _ c.requires.sound c.args.i) (c.loop-n.n - 1) (omega arith) c.loop-n.links c.loop-n.invariant.size)

pub loop-n-preserved : goal.loop-n-preserved
unfolding clause_at
loop-n-preserved c =
    rw (c.link_clause.ensures, c.clause_at.ensures)
    (turn _ (sound_chained _ _ c.requires.sound c.args.i) c.loop-n.links c.loop-n.n (c.loop-n.n - 1) (omega arith) (omega arith) c.loop-n.invariant)
