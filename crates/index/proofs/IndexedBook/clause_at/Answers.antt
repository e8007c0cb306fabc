-- `index::IndexedBook::clause_at` meets its contract.
use Rattle.index.proofs.Rows.{clause_here, clause_past}
use Rattle.index.proofs.IndexedBook.clause_at.Goals as goal

pub clause_of-requires : goal.clause_of-requires
clause_of-requires c = rw c.column_at-at.ensures (clause_here _ _ c.args.self.now.laid _ c.args.c _ c.count_at.ensures c.if-c-count_at.true).found.whole

pub returns-then-c-count_at : goal.returns-then-c-count_at
returns-then-c-count_at c = rw (c.clause_of.ensures, c.column_at-at.ensures) (clause_here _ _ c.args.self.now.laid _ c.args.c _ c.count_at.ensures c.if-c-count_at.true).found.is

pub returns-else-c-count_at : goal.returns-else-c-count_at
returns-else-c-count_at c = clause_past _ _ c.args.self.now.laid _ c.args.c _ c.count_at.ensures c.if-c-count_at.false
