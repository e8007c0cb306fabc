-- `index::IndexedBook::variable_at` meets its contract.
use native.Mathlib.Omega.{arith}
use Rattle.index.proofs.Bodies.{after}
use Rattle.index.proofs.Rows.{variable_here, variable_past}
use Rattle.book.specs.Positions.{variable_from}
use Rattle.index.proofs.IndexedBook.variable_at.Goals as goal

pub overflow_add-at : goal.overflow_add-at
overflow_add-at c = let w = (variable_here _ _ c.args.self.now.laid _ c.args.v _ c.count_at.ensures c.if-v-count_at.true).found.whole in omega (arith, c.column_at-at.ensures)

pub bounds-self-at : goal.bounds-self-at
bounds-self-at c = rw c.column_at-at.ensures (variable_here _ _ c.args.self.now.laid _ c.args.v _ c.count_at.ensures c.if-v-count_at.true).found.whole

pub returns-then-v-count_at : goal.returns-then-v-count_at
unfolding variable_from
returns-then-v-count_at c = rw (c.type_of.ensures, c.column_at-at.ensures, ← after c.args.self.now.bytes.now _ 0) (variable_here _ _ c.args.self.now.laid _ c.args.v _ c.count_at.ensures c.if-v-count_at.true).found.is

pub returns-else-v-count_at : goal.returns-else-v-count_at
returns-else-v-count_at c = variable_past _ _ c.args.self.now.laid _ c.args.v _ c.count_at.ensures c.if-v-count_at.false
