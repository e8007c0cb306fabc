-- `steps::mark_node` meets its contract.
use native.Mathlib.Omega.{arith}
use mathlib.Core.Logic.{inl, inr}
use Rattle.steps.proofs.Marking.{no_column}
use Rattle.steps.proofs.Owners.{own_none, own_then, own_unless}
use Rattle.steps.proofs.mark_node.Goals as goal
use Rattle.steps.proofs.mark_node.Goals.{After-own_by-in-Binary, After-own_by-in-Choice-2, After-own_by-in-Default-4, Start}

pub returns-in-Constant : goal.returns-in-Constant
returns-in-Constant c =
    elim c.in-Constant.is [
      | inl p ↦ rw p.1 (no_column _ _ _ (omega arith), own_none)
      | inr p ↦ elim p [
        | inl q ↦ rw q.1 (no_column _ _ _ (omega arith), own_none)
        | inr q ↦ elim q [
          | inl r ↦ rw r.1 (no_column _ _ _ (omega arith), own_none)
          | inr r ↦ rw r.1 (no_column _ _ _ (omega arith), own_none)
        ]
      ]
    ]

pub returns-in-Own : goal.returns-in-Own
returns-in-Own c = rw c.in-Own.is (c.mark.ensures, own_none)

pub returns-in-Called : goal.returns-in-Called
returns-in-Called c = rw c.in-Called.is (c.mark-in-Called.ensures, own_none)

pub returns-in-Unary : goal.returns-in-Unary
returns-in-Unary c = rw c.in-Unary.is (no_column _ _ _ (omega arith), c.own_by.ensures)

pub returns-in-Binary : goal.returns-in-Binary
returns-in-Binary c =
    let a = (goal.at.returns-in-Binary c).After-own_by-in-Binary in
    rw a.in-Binary.is
    (no_column _ _ _ (omega arith), own_then a.own_by-in-Binary.ensures c.own_by-in-Binary-2.ensures)

pub returns-in-Choice : goal.returns-in-Choice
returns-in-Choice c =
    let b = (goal.at.returns-in-Choice c).After-own_by-in-Choice-2 in
    let a = b in
    rw a.in-Choice.is
    (no_column _ _ _ (omega arith), own_then a.own_by-in-Choice.ensures (own_then b.own_by-in-Choice-2.ensures c.own_by-in-Choice-3.ensures))

pub returns-in-Default : goal.returns-in-Default
returns-in-Default c =
    let j = (goal.at.returns-in-Default c).After-own_by-in-Default-4 in
    let z = j in
    let y = z in
    let x = y in
    rw x.in-Default.is (
      no_column _ _ _ (omega arith),
      own_unless x.own_by-in-Default.ensures
          (own_unless y.own_by-in-Default-2.ensures (own_unless z.own_by-in-Default-3.ensures (own_then j.own_by-in-Default-4.ensures c.own_by-in-Default-5.ensures))),
    )
