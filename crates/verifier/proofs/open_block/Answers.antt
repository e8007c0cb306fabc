-- `verifier::open_block` meets its contract.
use mathlib.Core.Path.{sym, ◌∙◌}
use borrow.Author.Tests.{lt-ltb, le-ltb, not-true, not-false}
use Rattle.verifier.specs.Pass.{opening}
use Rattle.verifier.proofs.Opens.{is_placed}
use Rattle.verifier.proofs.open_block.Goals as goal
use Rattle.verifier.proofs.open_block.Goals.{then-scope-gt31-via-then-scope-gt31, then-scope-gt31-via-else-scope-gt31+then-is_some}

pub returns-then-scope-gt31 : goal.returns-then-scope-gt31
unfolding opening
returns-then-scope-gt31 c =
    rw (← c.from-scope.ensures) (elim c.then-scope-gt31.branch [
      | then-scope-gt31-via-then-scope-gt31 w ↦ rw (lt-ltb _ _ w.if-scope-gt31.true)
      | then-scope-gt31-via-else-scope-gt31+then-is_some w ↦
          let p = is_placed _ _ w.place_of.ensures in
          let s = w.is_some.ensures in
          let t = w.if-is_some.true in
          rw (le-ltb _ _ w.if-scope-gt31.false, not-true _ (sym p ∙ sym s ∙ t))
    ])

pub returns : goal.returns
unfolding opening
returns c =
    let p = is_placed _ _ c.place_of.ensures in
    let s = c.is_some.ensures in
    let t = c.if-is_some.false in
    let z = c.default.ensures in
    rw (z.1.0, z.1.1.0, z.1.1.1.1.1.1.1, ← c.from-scope.ensures, le-ltb _ _ c.if-scope-gt31.false, not-false _ (sym p ∙ sym s ∙ t))
