-- `scan::has_few_scopes` meets its contract.
use borrow.Author.Tests.{le-ltb}
use Rattle.scan.proofs.Beginnings.{not_seen, seen}
use Rattle.scan.proofs.has_few_scopes.Goals as goal

pub returns-then-book-lt512 : goal.returns-then-book-lt512
returns-then-book-lt512 c = seen _ _ c.scope_bytes.ensures

pub returns-else-book-lt512 : goal.returns-else-book-lt512
returns-else-book-lt512 c = rw (le-ltb _ _ c.if-book-lt512.false) (not_seen c.args.book.now)
