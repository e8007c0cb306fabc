-- `judge::judge_orders` meets its contract.
use mathlib.Core.Path.{sym, ◌∙◌}
use Rattle.book.specs.Decode.{scopes_of}
use Rattle.judge.proofs.Faults.{refused, whole_order, cycle, no_cycle, cycle_first, weight_next, steps_last, none_left}
use Rattle.judge.proofs.judge_orders.Goals as goal

pub block_order-requires : goal.block_order-requires
block_order-requires c = record { counted = c.requires.counted; room = c.requires.room.block_room }

pub returns-then-block_order-book : goal.returns-then-block_order-book
returns-then-block_order-book c =
    let book = scopes_of c.args.book.now.bytes.now in
    refused (cycle_first book (cycle book c.block_order.ensures.count c.requires.counted c.if-block_order-book.true))

pub fill_weights-requires : goal.fill_weights-requires
fill_weights-requires c =
    record {
      counted = c.requires.counted;
      order =
          record {
            sound = c.requires.named.sound;
            is = whole_order c.block_order.ensures c.if-block_order-book.false;
            all = sym c.block_order.ensures.count ∙ c.if-block_order-book.false;
          };
      room = c.requires.room.weight_room;
    }

pub returns-then-fill_weights : goal.returns-then-fill_weights
returns-then-fill_weights c =
    let book = scopes_of c.args.book.now.bytes.now in
    let whole = no_cycle book c.block_order.ensures.count c.requires.counted c.if-block_order-book.false in
    refused (weight_next book whole (sym c.fill_weights.ensures.over ∙ c.if-fill_weights.true))

pub fill_steps-requires : goal.fill_steps-requires
fill_steps-requires c = record { counted = c.requires.counted; named = c.requires.named; room = c.requires.room.order_room }

pub returns-then-fill_steps : goal.returns-then-fill_steps
returns-then-fill_steps c =
    let book = scopes_of c.args.book.now.bytes.now in
    let whole = no_cycle book c.block_order.ensures.count c.requires.counted c.if-block_order-book.false in
    refused
    (steps_last book whole (sym c.fill_weights.ensures.over ∙ c.if-fill_weights.false) (sym c.fill_steps.ensures.cycle ∙ c.if-fill_steps.true))

pub returns : goal.returns
returns c =
    let book = scopes_of c.args.book.now.bytes.now in
    let counted = c.requires.counted in
    let whole = no_cycle book c.block_order.ensures.count counted c.if-block_order-book.false in
    record {
      answer =
          none_left book whole (sym c.fill_weights.ensures.over ∙ c.if-fill_weights.false)
          (sym c.fill_steps.ensures.cycle ∙ c.if-fill_steps.false) counted;
      tables = λ n q.
          record {
            laid = c.args.book.now.laid;
            block_order = whole_order c.block_order.ensures (c.if-block_order-book.false ∙ counted);
            weight_of = c.fill_weights.ensures.each c.if-fill_weights.false;
            step_orders = c.fill_steps.ensures.rows c.if-fill_steps.false;
          };
    }
