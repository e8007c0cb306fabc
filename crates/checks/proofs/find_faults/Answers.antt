-- `checks::find_faults` meets its contract.
use mathlib.Core.Path.{ap}
use Rattle.book.specs.Syntax.{empty_scope}
use Rattle.book.specs.References.{dangles}
use Rattle.book.specs.Sharing.{shares}
use Rattle.book.specs.Typing.{mismatches}
use Rattle.book.proofs.Searches.{start}
use Rattle.book.proofs.Scopes.{stopped, next, finished}
use Rattle.checks.specs.Findings.{says_dangling, shares_in}
use Rattle.checks.proofs.Gathered.{more, whole}
use Rattle.checks.proofs.Gathered.{start as none}
use Rattle.checks.proofs.Passes.{never, kept}
use Rattle.checks.specs.declared.Findings.{Findings}
use Rattle.book.specs.Decode.{scopes_of}
use Rattle.std.proofs.Common.{◌≡◌}
use Rattle.checks.proofs.find_faults.Goals as goal

pub loop-i-init : goal.loop-i-init
loop-i-init c = (start _ _, none _ _ _, none _ _ _)

pub returns-in_err-found : goal.returns-in_err-found
unfolding dangles
returns-in_err-found c =
    rw c.from_residual.ensures
    (record {
      dangling = stopped _ _ c.requires c.loop-i.invariant.0 _ c.loop-i-test.true c.check_scope.ensures.dangling (ap says_dangling c.in_err-found.was);
      shared = λ f q. absurd (never q);
      mismatched = λ f q. absurd (never q);
    })

pub loop-i-preserved : goal.loop-i-preserved
loop-i-preserved c =
    let below = rw c.requires at c.loop-i-test.true in (
      next _ _ c.requires c.loop-i.invariant.0 _ c.loop-i-test.true c.check_scope.ensures.dangling (ap says_dangling c.in_ok-found.was),
      more _ _ _ _ _ c.loop-i.invariant.1 empty_scope below _ (c.check_scope.ensures.shared _ c.in_ok-found.was),
      more _ _ _ _ _ c.loop-i.invariant.2 empty_scope below _ (c.check_scope.ensures.mismatched _ c.in_ok-found.was),
    )

pub returns : goal.returns
unfolding dangles shares shares_in mismatches
returns c =
    let all = rw c.requires at c.loop-i-test.false in
    let book = scopes_of c.args.book.now.bytes.now in
    record {
      dangling = finished _ _ c.requires c.loop-i.invariant.0 c.loop-i-test.false;
      shared = λ f q. kept (λ (f : Findings). f.shares ≡ shares book) q (whole _ _ _ _ _ c.loop-i.invariant.1 all);
      mismatched = λ f q. kept (λ (f : Findings). f.mismatches ≡ mismatches book) q (whole _ _ _ _ _ c.loop-i.invariant.2 all);
    }
