-- `index::IndexedBook::node_at` meets its contract.
use Rattle.index.proofs.Rows.{node_here, node_past}
use Rattle.index.proofs.IndexedBook.node_at.Goals as goal

pub node_of-requires : goal.node_of-requires
node_of-requires c = rw c.column_at-at.ensures (node_here _ _ c.args.self.now.laid _ c.args.n _ c.count_at.ensures c.if-n-count_at.true).found.whole

pub returns-then-n-count_at : goal.returns-then-n-count_at
returns-then-n-count_at c = rw (c.node_of.ensures, c.column_at-at.ensures) (node_here _ _ c.args.self.now.laid _ c.args.n _ c.count_at.ensures c.if-n-count_at.true).found.is

pub returns-else-n-count_at : goal.returns-else-n-count_at
returns-else-n-count_at c = node_past _ _ c.args.self.now.laid _ c.args.n _ c.count_at.ensures c.if-n-count_at.false
