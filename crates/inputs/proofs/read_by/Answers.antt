-- `inputs::read_by` meets its contract. The invariant: the list is read up to a position, and the cells hold what it gives so far.
use Rattle.lists.specs.Inputs.{bad_record}
use Rattle.lists.specs.Reading.{typed}
use Rattle.lists.proofs.Reading.{start, stop, fault, cell, turn}
use Rattle.lists.proofs.Types.{typed_count}
use Rattle.slices.proofs.Parts.{all_left}
use Rattle.cells.specs.Cells.{given_of}
use lib.ListN.{length, get_or, drop}
use Prim.Native.Nat.{ℕ, ◌+◌, ◌≤◌}
use mathlib.Core.Path.{◌≡◌, sym, ◌∙◌}
use mathlib.Core.Bool.{Bool, false, false≢true}
use mathlib.Core.List.{List, map}
use Rattle.inputs.proofs.read_by.Goals as goal
use Rattle.inputs.proofs.read_by.Goals.{After-is_bad}

pub loop-at-init : goal.loop-at-init
loop-at-init c = start _ _ c.requires.given_value

-- the record at the position is bad by its definition where the test says so
verdict : (c : After-is_bad) → Bool
verdict c =
    bad_record (typed c.args.types.now) (map given_of c.loop-at.given)
    (get_or c.args.inputs.now c.loop-at.at 0) (drop (c.loop-at.at + 1) c.args.inputs.now)

judged : (c : After-is_bad) → verdict c ≡ c.is_bad.result
unfolding verdict
judged c =
    rw (← all_left (c.loop-at.at + 1) c.args.inputs.now)
    (sym c.is_bad.ensures)

good : (c : After-is_bad) → c.is_bad.result ≡ false → verdict c ≡ false
good c e = judged c ∙ e

few : (types : List ℕ) → length types ≤ 32 → length (typed types) ≤ 32
few types h = rw (typed_count types) h

pub returns-then-is_bad : goal.returns-then-is_bad
unfolding verdict
returns-then-is_bad c =
    record {
      size = c.loop-at.invariant.size;
      taken = λ e. absurd (false≢true e);
      refused = λ e. fault c.loop-at.invariant c.loop-at-test.true (judged (goal.at.returns-then-is_bad c).After-is_bad ∙ c.if-is_bad.true);
    }

pub bounds-given-v : goal.bounds-given-v
unfolding verdict
bounds-given-v c =
    rw (c.byte_at-v.ensures, all_left (c.loop-at.at + 1) c.args.inputs.now)
    (cell c.loop-at.invariant c.loop-at-test.true (few c.args.types.now c.requires.types_len_bound) (good (goal.at.bounds-given-v c).After-is_bad c.if-is_bad.false))

pub loop-at-preserved : goal.loop-at-preserved
unfolding verdict
loop-at-preserved c =
    rw (c.byte_at-v.ensures, c.cell_of.ensures, c.input_value.ensures, c.input_length.ensures, all_left (c.loop-at.at + 1) c.args.inputs.now)
    (turn c.loop-at.invariant c.loop-at-test.true (few c.args.types.now c.requires.types_len_bound) (good (goal.at.loop-at-preserved c).After-is_bad c.if-is_bad.false))

pub returns : goal.returns
returns c =
    record {
      size = c.loop-at.invariant.size;
      taken = λ e. stop c.loop-at.invariant c.loop-at-test.false;
      refused = λ e. absurd (false≢true (sym e));
    }
