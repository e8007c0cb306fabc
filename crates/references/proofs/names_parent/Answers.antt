-- `references::names_parent` meets its contract.
use mathlib.Core.Path.{ap}
use mathlib.Core.Bool.{Bool, ◌&&◌}
use Rattle.references.specs.Dangling.{parent_names}
use Rattle.book.specs.Positions.{clause_at}
use Rattle.book.specs.Syntax.{same_target}
use Rattle.std.proofs.Common.{◌≡◌, rules}
use borrow.Author.Tests.{eq-eqb, ne_eqb}
use Rattle.references.proofs.names_parent.Goals as goal

pub returns-then-p-eq255 : goal.returns-then-p-eq255
unfolding parent_names
returns-then-p-eq255 c = rw (eq-eqb _ _ c.if-p-eq255.true)

pub returns : goal.returns
unfolding parent_names clause_at
returns c =
    let same : c.eq.result ≡ same_target c.clause_at-parent.result.target c.args.target = search rules in
    rw (ne_eqb _ _ c.if-p-eq255.false, ← c.below.ensures, ← c.clause_at-parent.ensures)
    (ap (λ (b : Bool). c.below.result && b) same)
