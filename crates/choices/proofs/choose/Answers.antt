-- `choices::choose` meets its contract.
use mathlib.Core.Path.{refl, sym}
use Rattle.lists.proofs.Types.{whole, few}
use Rattle.choices.proofs.Choosing.{room, at_most, refused, done}
use Rattle.choices.proofs.choose.Goals as goal

pub slice_bounds-mark_chosen-end : goal.slice_bounds-mark_chosen-end
slice_bounds-mark_chosen-end c = whole c.fill_types-n.ensures

pub mark_chosen-requires : goal.mark_chosen-requires
mark_chosen-requires c = record { types_len_bound = few c.fill_types-n.ensures (c.args.book.now.laid.within.variables c.args.i); marks_value = refl }

pub returns-then-not-mark_chosen : goal.returns-then-not-mark_chosen
returns-then-not-mark_chosen c =
    refused c.fill_types-n.ensures (rw c.if-not-mark_chosen.true at c.mark_chosen.ensures) c.requires

pub slice_bounds-order_marked-end : goal.slice_bounds-order_marked-end
slice_bounds-order_marked-end c = sym (room c.fill_types-n.ensures (c.args.book.now.laid.within.variables c.args.i) c.mark_chosen.ensures)

pub order_marked-requires : goal.order_marked-requires
order_marked-requires c =
    record { marks_len_bound = at_most c.fill_types-n.ensures (c.args.book.now.laid.within.variables c.args.i) c.mark_chosen.ensures; ordered_len = c.requires }

pub returns : goal.returns
returns c =
    done c.fill_types-n.ensures (c.args.book.now.laid.within.variables c.args.i) (rw c.if-not-mark_chosen.false at c.mark_chosen.ensures) c.order_marked.ensures
