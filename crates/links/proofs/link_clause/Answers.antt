-- `links::link_clause` meets its contract.
use Prim.Native.Nat.{◌≤◌}
use native.Mathlib.Omega.{arith}
use lib.ListN.{length-set}
use Rattle.links.proofs.Slots.{slot_bound}
use Rattle.links.proofs.link_clause.Goals as goal

pub bounds-links-slot : goal.bounds-links-slot
bounds-links-slot c =
    let b : c.slot_of-slot.result ≤ 288 = rw c.slot_of-slot.ensures (slot_bound _) in
    simp length-set (omega arith)
