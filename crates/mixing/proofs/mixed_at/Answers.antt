-- `mixing::mixed_at` meets its contract. The invariant of its loop is `Marking`.
use Prim.Native.Nat.{ℕ, ◌<◌}
use mathlib.Core.List.{List}
use mathlib.Core.Logic.{inl, inr}
use lib.ListN.{length}
use Rattle.book.specs.Decode.{scopes_of}
use Rattle.book.specs.References.{scope_at}
use Rattle.book.specs.Syntax.{Scope}
use Rattle.book.specs.Positions.{clause_at}
use Rattle.mixing.proofs.Targets.{Ranged, ranged}
use Rattle.mixing.proofs.Marking.{Read, start, room_at, turn, found, ended}
use Rattle.mixing.proofs.mixed_at.Goals as goal
use Rattle.mixing.proofs.mixed_at.Goals.{After-mark_of-mark, else-seen-at-ne0-via-then-seen-at-ne0+else-seen-at, else-seen-at-ne0-via-else-seen-at-ne0}

pub loop-n-init : goal.loop-n-init
loop-n-init c = start _ _

module _ (c : After-mark_of-mark) where
  abbrev scopes : List Scope
  scopes = scopes_of c.args.book.now.bytes.now

  -- the targets of all clauses have their places
  all : (k : ℕ) → k < length (scope_at scopes c.args.i).clauses → Ranged (clause_at scopes c.args.i k).target
  all = ranged scopes c.args.book.now.laid.within c.requires c.args.i

  -- the clause of this turn
  read : Read scopes c.args.i c.loop-n.n c.slot_of-at.result c.mark_of-mark.result
  read =
      record {
        within = rw (← c.clause_count-n-end.ensures) c.loop-n-test.true;
        place = rw c.clause_at-clause.ensures at c.slot_of-at.ensures;
        mark = rw c.clause_at-clause.ensures at c.mark_of-mark.ensures;
      }

  room : c.slot_of-at.result < 288
  room = room_at _ _ _ _ c.loop-n.invariant all _ _ read

pub bounds-seen-at : goal.bounds-seen-at
bounds-seen-at c = room (goal.at.bounds-seen-at c).After-mark_of-mark

pub returns-then-seen-at : goal.returns-then-seen-at
returns-then-seen-at c =
    let marked = (goal.at.returns-then-seen-at c).After-mark_of-mark in
    found _ _ _ _ marked.loop-n.invariant (all marked) _ _ (read marked) c.if-seen-at-ne0.true c.if-seen-at.true

pub bounds-seen-at-in-loop-n : goal.bounds-seen-at-in-loop-n
bounds-seen-at-in-loop-n c = room (goal.at.bounds-seen-at-in-loop-n c).After-mark_of-mark

pub loop-n-preserved : goal.loop-n-preserved
loop-n-preserved c =
    let marked = (goal.at.loop-n-preserved c).After-mark_of-mark in
    turn _ _ _ _ marked.loop-n.invariant (all marked) _ _ (read marked)
    (elim c.else-seen-at-ne0.branch [
      | else-seen-at-ne0-via-then-seen-at-ne0+else-seen-at w ↦ inr w.if-seen-at.false
      | else-seen-at-ne0-via-else-seen-at-ne0 w ↦ inl w.if-seen-at-ne0.false
    ])

pub returns : goal.returns
returns c = ended _ _ _ _ c.loop-n.invariant (rw (← c.clause_count-n-end.ensures) c.loop-n-test.false)
