-- `terms::eval_below`, `eval_inner`, `eval_default` and `exception` meet their contracts.
-- The number of the node falls, or stays from `eval_below` to `eval_inner` to `eval_default`; an exception comes between the default that names it
-- and its node.
use Prim.Native.Nat.{ℕ, ◌+◌, ◌*◌, ◌<◌}
use mathlib.Core.Path.{◌≡◌}
use mathlib.Core.Bool.{true, false, cond}
use mathlib.Core.List.{List}
use mathlib.Core.Logic.{inl, inr, ⊎_elim}
use native.Mathlib.Omega.{arith}
use lib.ListN.{get_or}
use lib.Dec.{eqb}
use borrow.Author.Tests.{eq-eqb, ne_eqb, eqb-false}
use Rattle.laws.proofs.Booleans.{decide}
use Rattle.terms.specs.Outcomes.{NamesException, Readable, ReadableException}
use Rattle.terms.proofs.Nodes as nodes
use Rattle.terms.proofs.+eval_below_eval_default_eval_inner_exception.Goals as goal
use Rattle.terms.proofs.+eval_below_eval_default_eval_inner_exception.Goals.{eval_inner-then-t-eq-YES, eval_inner-else-t-eq-YES, eval_inner-in_default-via-then-kind-lt8, eval_inner-in_default-via-else-kind-lt8+else-kind-lt17}

-- a node of lower number, and an exception
module _ {bytes row own called : List ℕ} {n t : ℕ} (r : Readable bytes row own called n) (l : 4 * n < t) where
  below : (a : ℕ) → a < n → (4 * a + 3 < t) × Readable bytes row own called a
  below a h = (omega arith, nodes.readable_below _ _ _ _ _ r a (omega arith))

  except : (x : ℕ) → NamesException n x → (cond (eqb x 255) 0 (4 * x + 4) < t) × ReadableException bytes row own called x
  except x named = (
    ⊎_elim
        (λ (q : eqb x 255 ≡ true). rw q (omega arith))
        (λ (q : eqb x 255 ≡ false). let h = named (eqb-false x 255 q) in rw q (omega arith))
        (decide (eqb x 255)),
    λ e. (below x (named e)).1,
  )

pub eval_below-offset_bounds-row-n : goal.eval_below-offset_bounds-row-n
eval_below-offset_bounds-row-n t c = omega (arith, nodes.in_row _ _ _ _ _ c.requires)

pub eval_below-bounds-row-n : goal.eval_below-bounds-row-n
eval_below-bounds-row-n t c = nodes.in_row _ _ _ _ _ c.requires

pub eval_below-overflow_cast-at : goal.eval_below-overflow_cast-at
eval_below-overflow_cast-at t c = omega (arith, c.type_inv.row c.args.n)

pub eval_below-bounds-book-at : goal.eval_below-bounds-book-at
eval_below-bounds-book-at t c = nodes.in_book _ _ _ _ _ c.requires

pub eval_below-leaf-requires : goal.eval_below-leaf-requires
eval_below-leaf-requires t c = nodes.leaf_readable _ _ _ _ _ c.requires (rw (← c.is_leaf.ensures) c.if-is_leaf.true)

pub eval_below-returns-then-is_leaf : goal.eval_below-returns-then-is_leaf
eval_below-returns-then-is_leaf t c = nodes.leaf_here _ _ _ _ _ c.requires _ c.leaf.ensures

pub eval_below-eval_inner-requires : goal.eval_below-eval_inner-requires
eval_below-eval_inner-requires t c = (omega (arith, c.decreases), record { readable = c.requires; inner = rw (← c.is_leaf.ensures) c.if-is_leaf.false })

pub eval_below-returns : goal.eval_below-returns
eval_below-returns t c = c.eval_inner.ensures

pub eval_default-offset_bounds-row-n : goal.eval_default-offset_bounds-row-n
eval_default-offset_bounds-row-n t c = omega (arith, nodes.in_row _ _ _ _ _ c.requires.readable)

pub eval_default-bounds-row-n : goal.eval_default-bounds-row-n
eval_default-bounds-row-n t c = nodes.in_row _ _ _ _ _ c.requires.readable

pub eval_default-overflow_cast-at : goal.eval_default-overflow_cast-at
eval_default-overflow_cast-at t c = omega (arith, c.type_inv.row c.args.n)

pub eval_default-overflow_add-at : goal.eval_default-overflow_add-at
eval_default-overflow_add-at t c = omega (arith, c.requires.whole)

pub eval_default-bounds-book-at : goal.eval_default-bounds-book-at
eval_default-bounds-book-at t c = omega (arith, c.requires.whole)

pub eval_default-exception-first-requires : goal.eval_default-exception-first-requires
eval_default-exception-first-requires t c = except c.requires.readable (omega (arith, c.decreases)) _ (nodes.default_below_lem _ _ _ _ _ c.requires.readable c.requires.is).0

pub eval_default-overflow_add-at-2 : goal.eval_default-overflow_add-at-2
eval_default-overflow_add-at-2 t c = omega (arith, c.requires.whole)

pub eval_default-bounds-book-at-2 : goal.eval_default-bounds-book-at-2
eval_default-bounds-book-at-2 t c = omega (arith, c.requires.whole)

pub eval_default-exception-second-requires : goal.eval_default-exception-second-requires
eval_default-exception-second-requires t c = except c.requires.readable (omega (arith, c.decreases)) _ (nodes.default_below_lem _ _ _ _ _ c.requires.readable c.requires.is).1

pub eval_default-overflow_add-at-3 : goal.eval_default-overflow_add-at-3
eval_default-overflow_add-at-3 t c = omega (arith, c.requires.whole)

pub eval_default-bounds-book-at-3 : goal.eval_default-bounds-book-at-3
eval_default-bounds-book-at-3 t c = omega (arith, c.requires.whole)

pub eval_default-exception-all-requires : goal.eval_default-exception-all-requires
eval_default-exception-all-requires t c = except c.requires.readable (omega (arith, c.decreases)) _ (nodes.default_below_lem _ _ _ _ _ c.requires.readable c.requires.is).2

pub eval_default-returns-then-all-eq-MANY : goal.eval_default-returns-then-all-eq-MANY
eval_default-returns-then-all-eq-MANY t c = nodes.default_many _ _ _ _ _ c.requires.readable c.requires.is _ _ _ c.exception-first.ensures c.exception-second.ensures c.exception-all.ensures c.if-all-eq-MANY.true

pub eval_default-returns-then-all-ne-NOTHING : goal.eval_default-returns-then-all-ne-NOTHING
eval_default-returns-then-all-ne-NOTHING t c = nodes.default_one _ _ _ _ _ c.requires.readable c.requires.is _ _ _ c.exception-first.ensures c.exception-second.ensures c.exception-all.ensures c.if-all-eq-MANY.false c.if-all-ne-NOTHING.true

pub eval_default-overflow_add-at-4 : goal.eval_default-overflow_add-at-4
eval_default-overflow_add-at-4 t c = omega (arith, c.requires.whole)

pub eval_default-bounds-book-at-4 : goal.eval_default-bounds-book-at-4
eval_default-bounds-book-at-4 t c = omega (arith, c.requires.whole)

pub eval_default-overflow_cast-book : goal.eval_default-overflow_cast-book
eval_default-overflow_cast-book t c = omega (arith, c.type_inv.book (get_or c.args.row.now c.args.n 0 + 4))

pub eval_default-eval_below-j-requires : goal.eval_default-eval_below-j-requires
eval_default-eval_below-j-requires t c = below c.requires.readable (omega (arith, c.decreases)) _ (nodes.default_below_lem _ _ _ _ _ c.requires.readable c.requires.is).3

pub eval_default-returns-then-j-ge-EMPTY : goal.eval_default-returns-then-j-ge-EMPTY
eval_default-returns-then-j-ge-EMPTY t c = nodes.justification_end _ _ _ _ _ c.requires.readable c.requires.is _ _ _ c.exception-first.ensures c.exception-second.ensures c.exception-all.ensures c.if-all-ne-NOTHING.false _ c.eval_below-j.ensures c.if-j-ge-EMPTY.true

pub eval_default-overflow_add-at-then-j-eq-YES : goal.eval_default-overflow_add-at-then-j-eq-YES
eval_default-overflow_add-at-then-j-eq-YES t c = omega (arith, c.requires.whole)

pub eval_default-bounds-book-at-then-j-eq-YES : goal.eval_default-bounds-book-at-then-j-eq-YES
eval_default-bounds-book-at-then-j-eq-YES t c = omega (arith, c.requires.whole)

pub eval_default-overflow_cast-book-then-j-eq-YES : goal.eval_default-overflow_cast-book-then-j-eq-YES
eval_default-overflow_cast-book-then-j-eq-YES t c = omega (arith, c.type_inv.book (get_or c.args.row.now c.args.n 0 + 5))

pub eval_default-eval_below-requires : goal.eval_default-eval_below-requires
eval_default-eval_below-requires t c = below c.requires.readable (omega (arith, c.decreases)) _ (nodes.default_below_lem _ _ _ _ _ c.requires.readable c.requires.is).4

pub eval_default-returns-then-j-eq-YES : goal.eval_default-returns-then-j-eq-YES
eval_default-returns-then-j-eq-YES t c = nodes.justified _ _ _ _ _ c.requires.readable c.requires.is _ _ _ c.exception-first.ensures c.exception-second.ensures c.exception-all.ensures c.if-all-ne-NOTHING.false _ _ c.eval_below-j.ensures c.if-j-ge-EMPTY.false c.if-j-eq-YES.true c.eval_below.ensures

pub eval_default-returns-else-j-eq-YES : goal.eval_default-returns-else-j-eq-YES
eval_default-returns-else-j-eq-YES t c = nodes.unjustified _ _ _ _ _ c.requires.readable c.requires.is _ _ _ c.exception-first.ensures c.exception-second.ensures c.exception-all.ensures c.if-all-ne-NOTHING.false _ c.eval_below-j.ensures c.if-j-ge-EMPTY.false c.if-j-eq-YES.false

pub eval_inner-offset_bounds-row-n : goal.eval_inner-offset_bounds-row-n
eval_inner-offset_bounds-row-n t c = omega (arith, nodes.in_row _ _ _ _ _ c.requires.readable)

pub eval_inner-bounds-row-n : goal.eval_inner-bounds-row-n
eval_inner-bounds-row-n t c = nodes.in_row _ _ _ _ _ c.requires.readable

pub eval_inner-overflow_cast-at : goal.eval_inner-overflow_cast-at
eval_inner-overflow_cast-at t c = omega (arith, c.type_inv.row c.args.n)

pub eval_inner-bounds-book-at : goal.eval_inner-bounds-book-at
eval_inner-bounds-book-at t c = nodes.in_book _ _ _ _ _ c.requires.readable

pub eval_inner-overflow_add-a : goal.eval_inner-overflow_add-a
eval_inner-overflow_add-a t c = omega (arith, nodes.in_book _ _ _ _ _ c.requires.readable)

pub eval_inner-bounds-book-at-2 : goal.eval_inner-bounds-book-at-2
eval_inner-bounds-book-at-2 t c = nodes.first_byte _ _ _ _ _ c.requires.readable (let h = c.type_inv.book (get_or c.args.row.now c.args.n 0) in omega arith)

pub eval_inner-overflow_cast-a : goal.eval_inner-overflow_cast-a
eval_inner-overflow_cast-a t c = omega (arith, c.type_inv.book (get_or c.args.row.now c.args.n 0 + 1))

pub eval_inner-eval_below-requires : goal.eval_inner-eval_below-requires
eval_inner-eval_below-requires t c = below c.requires.readable (omega (arith, c.decreases)) _ (nodes.not_below _ _ _ _ _ c.requires.readable c.in-10.is)

pub eval_inner-overflow_cast-a-in-11 : goal.eval_inner-overflow_cast-a-in-11
eval_inner-overflow_cast-a-in-11 t c = omega (arith, c.type_inv.book (get_or c.args.row.now c.args.n 0 + 1))

pub eval_inner-eval_below-requires-in-11 : goal.eval_inner-eval_below-requires-in-11
eval_inner-eval_below-requires-in-11 t c = below c.requires.readable (omega (arith, c.decreases)) _ (nodes.negate_below _ _ _ _ _ c.requires.readable c.in-11.is)

pub eval_inner-overflow_cast-a-in-17 : goal.eval_inner-overflow_cast-a-in-17
eval_inner-overflow_cast-a-in-17 t c = omega (arith, c.type_inv.book (get_or c.args.row.now c.args.n 0 + 1))

pub eval_inner-eval_below-t-requires : goal.eval_inner-eval_below-t-requires
eval_inner-eval_below-t-requires t c = below c.requires.readable (omega (arith, c.decreases)) _ (nodes.choice_below _ _ _ _ _ c.requires.readable c.in-17.is).0

pub eval_inner-returns-then-t-ge-EMPTY : goal.eval_inner-returns-then-t-ge-EMPTY
eval_inner-returns-then-t-ge-EMPTY t c = nodes.condition_end _ _ _ _ _ c.requires.readable c.in-17.is _ c.eval_below-t.ensures c.if-t-ge-EMPTY.true

pub eval_inner-overflow_add-taken : goal.eval_inner-overflow_add-taken
eval_inner-overflow_add-taken t c = omega (arith, nodes.in_book _ _ _ _ _ c.requires.readable)

pub eval_inner-bounds-book-at-then-t-eq-YES : goal.eval_inner-bounds-book-at-then-t-eq-YES
eval_inner-bounds-book-at-then-t-eq-YES t c = let h = nodes.choice_byte _ _ _ _ _ c.requires.readable c.in-17.is in omega arith

pub eval_inner-overflow_add-taken-else-t-eq-YES : goal.eval_inner-overflow_add-taken-else-t-eq-YES
eval_inner-overflow_add-taken-else-t-eq-YES t c = omega (arith, nodes.in_book _ _ _ _ _ c.requires.readable)

pub eval_inner-bounds-book-at-else-t-eq-YES : goal.eval_inner-bounds-book-at-else-t-eq-YES
eval_inner-bounds-book-at-else-t-eq-YES t c = let h = nodes.choice_byte _ _ _ _ _ c.requires.readable c.in-17.is in omega arith

pub eval_inner-eval_below-requires-in-17 : goal.eval_inner-eval_below-requires-in-17
eval_inner-eval_below-requires-in-17 t c =
    let b = nodes.choice_below _ _ _ _ _ c.requires.readable c.in-17.is in
    below c.requires.readable (omega (arith, c.decreases)) _
    (elim c.if-t-eq-YES.branch [
      | eval_inner-then-t-eq-YES w ↦ rw w.taken-is b.1
      | eval_inner-else-t-eq-YES w ↦ rw w.taken-is b.2
    ])

pub eval_inner-overflow_add-b : goal.eval_inner-overflow_add-b
eval_inner-overflow_add-b t c = omega (arith, nodes.in_book _ _ _ _ _ c.requires.readable)

pub eval_inner-bounds-book-at-in-12 : goal.eval_inner-bounds-book-at-in-12
eval_inner-bounds-book-at-in-12 t c = nodes.binary_byte _ _ _ _ _ c.requires.readable (c.in-12.in_default-own.rest, c.in-12.if-kind-lt8-own.false, c.in-12.if-kind-lt17-own.true)

pub eval_inner-overflow_cast-a-in-12 : goal.eval_inner-overflow_cast-a-in-12
eval_inner-overflow_cast-a-in-12 t c = omega (arith, c.type_inv.book (get_or c.args.row.now c.args.n 0 + 1))

pub eval_inner-eval_below-x-requires : goal.eval_inner-eval_below-x-requires
eval_inner-eval_below-x-requires t c = below c.requires.readable (omega (arith, c.decreases)) _ (nodes.binary_below _ _ _ _ _ c.requires.readable (c.in-12.in_default-own.rest, c.in-12.if-kind-lt8-own.false, c.in-12.if-kind-lt17-own.true)).0

pub eval_inner-returns-then-x-ge-EMPTY : goal.eval_inner-returns-then-x-ge-EMPTY
eval_inner-returns-then-x-ge-EMPTY t c = nodes.left_end _ _ _ _ _ c.requires.readable (c.in-12.in_default-own.rest, c.in-12.if-kind-lt8-own.false, c.in-12.if-kind-lt17-own.true) _ c.eval_below-x.ensures c.if-x-ge-EMPTY.true

pub eval_inner-overflow_cast-b : goal.eval_inner-overflow_cast-b
eval_inner-overflow_cast-b t c = omega (arith, c.type_inv.book (get_or c.args.row.now c.args.n 0 + 2))

pub eval_inner-eval_below-y-requires : goal.eval_inner-eval_below-y-requires
eval_inner-eval_below-y-requires t c = below c.requires.readable (omega (arith, c.decreases)) _ (nodes.binary_below _ _ _ _ _ c.requires.readable (c.in-12.in_default-own.rest, c.in-12.if-kind-lt8-own.false, c.in-12.if-kind-lt17-own.true)).1

pub eval_inner-eval_default-requires : goal.eval_inner-eval_default-requires
eval_inner-eval_default-requires t c =
    let out : nodes.Other (get_or c.args.book.now (get_or c.args.row.now c.args.n 0) 0) = (
      c.requires.inner,
      c.in_default-1.rest,
      elim c.in_default.branch [
        | eval_inner-in_default-via-then-kind-lt8 w ↦ inl w.if-kind-lt8-1.true
        | eval_inner-in_default-via-else-kind-lt8+else-kind-lt17 w ↦ inr w.if-kind-lt17-1.false
      ],
    ) in
    let byte = c.type_inv.book (get_or c.args.row.now c.args.n 0) in (omega (arith, c.decreases), record { readable = c.requires.readable; whole = nodes.default_byte _ _ _ _ _ c.requires.readable out (omega arith); is = nodes.default_node _ _ _ _ _ c.requires.readable out })

pub eval_inner-returns-in-8 : goal.eval_inner-returns-in-8
eval_inner-returns-in-8 t c = nodes.empty _ _ _ _ _ c.requires.readable c.in-8.is

pub eval_inner-returns-in-9 : goal.eval_inner-returns-in-9
eval_inner-returns-in-9 t c = nodes.conflict _ _ _ _ _ c.requires.readable c.in-9.is

pub eval_inner-returns-in-10 : goal.eval_inner-returns-in-10
eval_inner-returns-in-10 t c = nodes.of_not _ _ _ _ _ c.requires.readable c.in-10.is _ _ c.eval_below.ensures c.not.ensures

pub eval_inner-returns-in-11 : goal.eval_inner-returns-in-11
eval_inner-returns-in-11 t c = nodes.of_negate _ _ _ _ _ c.requires.readable c.in-11.is _ _ c.eval_below-in-11.ensures c.negate.ensures

pub eval_inner-returns-after-t-eq-YES : goal.eval_inner-returns-after-t-eq-YES
eval_inner-returns-after-t-eq-YES t c =
    elim c.if-t-eq-YES.branch [
      | eval_inner-then-t-eq-YES w ↦ nodes.branch _ _ _ _ _ c.requires.readable c.in-17.is _ _ true c.eval_below-t.ensures (omega arith) (eq-eqb _ _ w.if-t-eq-YES.true) (rw (← w.taken-is) c.eval_below-in-17.ensures)
      | eval_inner-else-t-eq-YES w ↦ nodes.branch _ _ _ _ _ c.requires.readable c.in-17.is _ _ false c.eval_below-t.ensures (omega arith) (ne_eqb _ _ w.if-t-eq-YES.false) (rw (← w.taken-is) c.eval_below-in-17.ensures)
    ]

pub eval_inner-returns-else-x-ge-EMPTY : goal.eval_inner-returns-else-x-ge-EMPTY
eval_inner-returns-else-x-ge-EMPTY t c = nodes.of_two _ _ _ _ _ c.requires.readable (c.in-12.in_default-own.rest, c.in-12.if-kind-lt8-own.false, c.in-12.if-kind-lt17-own.true) _ _ _ c.eval_below-x.ensures c.eval_below-y.ensures c.binary.ensures

pub eval_inner-returns-in_default : goal.eval_inner-returns-in_default
eval_inner-returns-in_default t c = c.eval_default.ensures

pub exception-returns-then-x-eq255 : goal.exception-returns-then-x-eq255
exception-returns-then-x-eq255 t c = nodes.none_gathered _ _ _ _ _ _ 0 c.if-x-eq255.true

pub exception-returns-then-g-ge-EMPTY : goal.exception-returns-then-g-ge-EMPTY
exception-returns-then-g-ge-EMPTY t c = nodes.ended_gathered _ _ _ _ _ _ 0 c.if-x-eq255.false c.if-g-ge-EMPTY.true

pub exception-eval_below-o-requires : goal.exception-eval_below-o-requires
exception-eval_below-o-requires t c = let l = rw (ne_eqb _ 255 c.if-x-eq255.false) at c.decreases in (omega (arith, l), c.requires c.if-x-eq255.false)

pub exception-returns : goal.exception-returns
exception-returns t c = nodes.one_gathered _ _ _ _ _ _ _ _ c.if-x-eq255.false c.eval_below-o.ensures c.gather.ensures
