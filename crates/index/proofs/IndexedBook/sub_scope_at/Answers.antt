-- `index::IndexedBook::sub_scope_at` meets its contract.
use native.Mathlib.Omega.{arith}
use Rattle.index.proofs.Bodies.{after}
use Rattle.index.proofs.Rows.{sub_scope_here, sub_scope_past}
use Rattle.book.specs.Positions.{sub_scope_from}
use Rattle.index.proofs.IndexedBook.sub_scope_at.Goals as goal

pub overflow_add-at : goal.overflow_add-at
overflow_add-at c = let w = (sub_scope_here _ _ c.args.self.now.laid _ c.args.k _ c.count_at.ensures c.if-k-count_at.true).found.whole in omega (arith, c.column_at-at.ensures)

pub bounds-self-at : goal.bounds-self-at
bounds-self-at c = rw c.column_at-at.ensures (sub_scope_here _ _ c.args.self.now.laid _ c.args.k _ c.count_at.ensures c.if-k-count_at.true).found.whole

pub returns-then-k-count_at : goal.returns-then-k-count_at
unfolding sub_scope_from
returns-then-k-count_at c = rw (c.from.ensures, c.column_at-at.ensures, ← after c.args.self.now.bytes.now _ 0) (sub_scope_here _ _ c.args.self.now.laid _ c.args.k _ c.count_at.ensures c.if-k-count_at.true).found.is

pub returns-else-k-count_at : goal.returns-else-k-count_at
returns-else-k-count_at c = sub_scope_past _ _ c.args.self.now.laid _ c.args.k _ c.count_at.ensures c.if-k-count_at.false
