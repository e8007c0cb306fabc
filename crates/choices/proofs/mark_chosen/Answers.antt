-- `choices::mark_chosen` meets its contract. The invariant: those from a place on are good and marked.
use Prim.Native.Nat.{ℕ, ◌-◌, ◌<◌, ◌≤◌}
use mathlib.Core.List.{List, reverse}
use mathlib.Core.Path.{◌≡◌, sym, ap, ◌∙◌}
use lib.ListN.{length, get_or}
use native.Mathlib.Omega.{arith}
use Rattle.std.proofs.lemmas.Grind.{get_or_default_zero}
use Rattle.std.proofs.lemmas.List.{get_or-reverse, length-reverse, length_push}
use Rattle.std.proofs.lemmas.Iterator.Adapters.{YieldsList-from_rev_slice}
use Rattle.std.proofs.lemmas.Iterator.Consumers.{YieldsList-turn, YieldsList-end}
use Rattle.order.proofs.Matrix.{marked_true, marked_false}
use Rattle.lists.specs.Reading.{typed}
use Rattle.lists.proofs.Types.{typed_count}
use Rattle.choices.proofs.Marking.{too_many, start, turn, stop, unfit_one, twice, has_mark}
use Rattle.choices.proofs.mark_chosen.Goals as goal
use Rattle.choices.proofs.mark_chosen.Goals.{In-Some}

-- item n of a reversed list
from_last : (xs : List ℕ) (n x : ℕ) → (n < length (reverse xs)) × (x ≡ get_or (reverse xs) n x)
    → (0 < length xs - n) × (x ≡ get_or xs (length xs - n - 1) 0)
from_last xs n x h =
    let l = length-reverse xs in
    let e : length xs - 1 - n ≡ length xs - n - 1 = omega arith in
    (omega (arith, h.0), h.1 ∙ get_or-reverse xs n x (omega (arith, h.0)) ∙ rw e (get_or_default_zero xs (length xs - n - 1) x (omega (arith, h.0))))

-- the variable of this turn is the last that is left
last_chosen : (c : In-Some) → (0 < length c.args.chosen.now - length c.loop-v.yielded)
    × (c.in-Some.v.now ≡ get_or c.args.chosen.now (length c.args.chosen.now - length c.loop-v.yielded - 1) 0)
last_chosen c =
    from_last _ _ _ (YieldsList-turn (YieldsList-from_rev_slice c.args.chosen.now cc) c.loop-v.yielded _ c.loop-v.yielded_by _ _ c.in-Some.v c.in-Some.is c.next.ensures.steps)

pub returns-then-chosen-gt12 : goal.returns-then-chosen-gt12
returns-then-chosen-gt12 c = too_many (ap length c.requires.marks_value) (omega (arith, c.if-chosen-gt12.true))

pub loop-v-init : goal.loop-v-init
loop-v-init c = start _ _ _ c.requires.marks_value (omega arith)

pub returns-then-cannot_give : goal.returns-then-cannot_give
returns-then-cannot_give c =
    unfit_one c.loop-v.invariant _ (last_chosen (goal.at.returns-then-cannot_give c).In-Some) (sym c.cannot_give.ensures ∙ c.if-cannot_give.true)

few : (types : List ℕ) → length types ≤ 32 → length (typed types) ≤ 32
few types l = rw (typed_count types) l

pub bounds-marks-at : goal.bounds-marks-at
bounds-marks-at c =
    rw c.from-at.ensures
    (has_mark c.loop-v.invariant _ (last_chosen (goal.at.bounds-marks-at c).In-Some) (few _ c.requires.types_len_bound) (sym c.cannot_give.ensures ∙ c.if-cannot_give.false))

pub returns-then-marks-at-ne0 : goal.returns-then-marks-at-ne0
returns-then-marks-at-ne0 c =
    twice c.loop-v.invariant _ (last_chosen (goal.at.returns-then-marks-at-ne0 c).In-Some) (rw (← c.from-at.ensures) (marked_true _ _ c.if-marks-at-ne0.true))

pub bounds-marks-at-in-loop-v : goal.bounds-marks-at-in-loop-v
bounds-marks-at-in-loop-v c =
    rw c.from-at.ensures
    (has_mark c.loop-v.invariant _ (last_chosen (goal.at.bounds-marks-at-in-loop-v c).In-Some) (few _ c.requires.types_len_bound) (sym c.cannot_give.ensures ∙ c.if-cannot_give.false))

pub loop-v-preserved : goal.loop-v-preserved
loop-v-preserved c =
    let n = length_push c.loop-v.yielded c.in-Some.v in
    rw c.from-at.ensures
    (turn c.loop-v.invariant _ (last_chosen (goal.at.loop-v-preserved c).In-Some) (few _ c.requires.types_len_bound)
    (sym c.cannot_give.ensures ∙ c.if-cannot_give.false) (rw (← c.from-at.ensures) (marked_false _ _ c.if-marks-at-ne0.false)) (omega arith))

pub returns : goal.returns
returns c =
    let e = YieldsList-end (YieldsList-from_rev_slice c.args.chosen.now cc) c.loop-v.yielded _ c.loop-v.yielded_by _ _ c.in-None.is c.next.ensures.steps in
    stop c.loop-v.invariant c.if-chosen-gt12.false (omega (arith, e.1, length-reverse c.args.chosen.now))
