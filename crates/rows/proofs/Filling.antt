-- Filling the rows of a table.
--     none_left, last_row         where no variable is left: one row
--     first_half                  the table has two halves
--     one_of, shorter, room       where a variable is left: the others are fewer, and it has a cell
--     fills_first, fills_second   each half asks for what the whole does
--     whole, restored             the two halves are the whole, and the variable's cell holds nothing again
-- Assumes nothing.
use Prim.Native.Nat.{ℕ, suc, ◌-◌, ◌*◌, ◌/◌, ◌<◌, ◌≤◌}
use mathlib.Core.Path.{◌≡◌, refl, sym, ap, ◌∙◌}
use mathlib.Core.Bool.{Bool, true, false}
use mathlib.Core.List.{List, [], ◌∷◌, ◌++◌, append-nil}
use native.Mathlib.Omega.{arith}
use lib.ListN.{length, get_or, set, take, drop, length-set, length-append, length-drop}
use lib.Seq.{take_at, drop_at, take-length, drop-length, set-set, set-get_or, length-take-le}
use Rattle.std.specs.Prelude.{Option, Some}
use Rattle.laws.proofs.Booleans.{neither}
use Rattle.calculus.specs.declared.Value.TheVariants.{Truth}
use Rattle.calculus.proofs.Numbers.{zero_fits}
use Rattle.cells.specs.Codec.{no_cell, yes_cell, truth_cell, value_cell}
use Rattle.cells.proofs.Variables.{kept_stored}
use Rattle.slices.proofs.Parts.{all_left}
use Rattle.book.specs.Lists.{any}
use Rattle.book.specs.Decode.{scopes_of}
use Rattle.book.specs.References.{scope_at}
use Rattle.book.specs.declared.ValueType.TheVariants.{YesNo}
use Rattle.book.specs.declared.Variable.{Variable}
use Rattle.book.proofs.Same.{same_type_lem}
use Rattle.lists.specs.Writing.{result_length_at}
use Rattle.scopes.specs.Steps.{givens_from}
use Rattle.scopes.specs.Known.{Known}
use Rattle.tabulation.specs.Assignments.{power}
use Rattle.order.specs.Order.{among}
use Rattle.book.specs.Sharing.{repeats}
use Rattle.tabulation.specs.Chosen.{unfit}
use Rattle.lists.proofs.Reading.{Free, can_give}
use Rattle.tabulation.proofs.Giving.{fit_after}
use Rattle.rows.specs.Filling.{cell_row, cell_rows, FillsRow, FillsRows}
use Rattle.rows.proofs.Power.{doubled}
use Rattle.rows.proofs.Cells.{not_given, givens_set, fitting_set}
use Rattle.rows.proofs.Rows.{no_choice, both_halves}
use Rattle.calculus.specs.declared.Value.{Value}

none_of : (chosen : List ℕ) → length chosen < 1 → chosen ≡ []
none_of [] e = refl
none_of (v ∷ vs) e = absurd (omega arith)

-- the first of the chosen variables, and the others
split : (chosen : List ℕ) → 1 ≤ length chosen → chosen ≡ get_or chosen 0 0 ∷ take (length chosen - 1) (drop 1 chosen)
split [] more = absurd (omega arith)
split (v ∷ vs) more = ap (λ (l : List ℕ). v ∷ l) (sym (all_left 1 (v ∷ vs)))

pub one_of : {chosen : List ℕ} {v : ℕ} → 1 ≤ length chosen → v ≡ get_or chosen 0 0 → chosen ≡ v ∷ take (length chosen - 1) (drop 1 chosen)
one_of {chosen} more p = split chosen more ∙ rw p

-- the first chosen variable may be chosen; it is not among the others, and they may be chosen though it is given
module _ (variables : List Variable) (gs : List (Option Value)) (v : ℕ) (vs : List ℕ) where
  first_fit : any (unfit variables gs) (v ∷ vs) ≡ false → Free variables gs YesNo v
  unfolding any
  first_fit e = can_give variables gs YesNo v (neither (unfit variables gs v) (any (unfit variables gs) vs) e).0

  others_distinct : repeats (v ∷ vs) ≡ false → repeats vs ≡ false
  unfolding repeats
  others_distinct e = (neither (among vs v) (repeats vs) e).1

  others_fit : repeats (v ∷ vs) ≡ false → any (unfit variables gs) (v ∷ vs) ≡ false → (g : Option Value) → any (unfit variables (set gs v g)) vs ≡ false
  unfolding repeats any
  others_fit d e g =
      fit_after variables gs v g vs (neither (among vs v) (repeats vs) d).0 (neither (unfit variables gs v) (any (unfit variables gs) vs) e).1

pub first_half : (table : List ℕ) → length (take (length table / 2) table) ≡ length table / 2
first_half table = length-take-le (length table / 2) table (omega arith)

-- a list of which the first h bytes are put in place
abbrev joined : List ℕ → ℕ → List ℕ → List ℕ
joined first h table = first ++ drop h table

module _ (first table : List ℕ) (h : ℕ) (size : length first ≡ h) where
  behind : drop h (joined first h table) ≡ drop h table
  behind = drop_at first (drop h table) h size

  left : length (joined first h table) - h ≡ length (drop h table)
  left = let l = length-append first (drop h table) in omega arith

  rest_length : length (take (length (joined first h table) - h) (drop h (joined first h table))) ≡ length table - h
  rest_length = rw (left, behind) (ap length (take-length (drop h table)) ∙ length-drop h table)

  halves : (second : List ℕ) → take h (joined first h table) ++ (second ++ drop (length (joined first h table) - h) (drop h (joined first h table))) ≡ first ++ second
  halves second =
      rw (left, behind, drop-length (drop h table), take_at first (drop h table) h size) (ap (λ (l : List ℕ). first ++ l) (append-nil second))

module _ {bytes index links orders : List ℕ} {i : ℕ} {chosen given memo table : List ℕ}
    (f : FillsRows bytes index links orders i chosen given memo table) where
  abbrev variables : List Variable
  variables = (scope_at (scopes_of bytes) i).variables

  abbrev gives : List ℕ → List (Option Value)
  gives cells = givens_from cells 0 (length variables)

  pub none_left : length chosen < 1 → FillsRow bytes index links orders i given memo table
  unfolding power
  none_left e =
      let size : length table ≡ suc (result_length_at (scopes_of bytes) i) = let none : length chosen ≡ 0 = omega arith in let s = rw none at f.size in omega arith in
      let d = length-drop 1 table in
      record {
        runs =
            record { enterable = f.enterable; known = f.known; room = omega arith };
        size = size;
      }

  pub last_row : {row : List ℕ} → length chosen < 1 → row ≡ cell_row bytes i given → row ≡ cell_rows bytes i chosen given
  last_row e r = r ∙ sym (ap (λ (vs : List ℕ). cell_rows bytes i vs given) (none_of chosen e) ∙ no_choice bytes i given)

  module _ {v : ℕ} {vs : List ℕ} (is : chosen ≡ v ∷ vs) where
    pub shorter : length vs < length chosen
    shorter = let l = ap length is in omega arith

    distinct : repeats (v ∷ vs) ≡ false
    distinct = ap repeats (sym is) ∙ f.distinct

    all_fit : any (unfit variables (gives given)) (v ∷ vs) ≡ false
    all_fit = ap (any (unfit variables (gives given))) (sym is) ∙ f.fit

    fits : Free variables (gives given) YesNo v
    fits = first_fit variables (gives given) v vs all_fit

    pub room : v < length given
    room = let k = fits.known in let g = f.enterable.given_room in let w = f.enterable.world.sound.variables i in omega arith

    twice : length table ≡ 2 * (power (length vs) * suc (result_length_at (scopes_of bytes) i))
    twice = f.size ∙ ap (λ (l : List ℕ). power (length l) * suc (result_length_at (scopes_of bytes) i)) is ∙ doubled (length vs) _

    half : length table / 2 ≡ power (length vs) * suc (result_length_at (scopes_of bytes) i)
    half = let t = twice in omega arith

    -- the rows of the others, with the first set to no or yes
    fills : (b : Bool) {cells known part : List ℕ} → cells ≡ set given v (truth_cell b) → Known bytes known → length part ≡ length table / 2
        → FillsRows bytes index links orders i vs cells known part
    unfolding value_cell
    fills b {cells} {known} {part} e k l =
        let g : gives cells ≡ set (gives given) v (Some (Truth b)) = ap gives e ∙ givens_set given (length variables) v b room in
        record {
          enterable = record {
            world = f.enterable.world;
            scope = f.enterable.scope;
            given_room = ap length e ∙ length-set given v (value_cell (Truth b)) ∙ f.enterable.given_room;
            given_kept = rw e (kept_stored given v (Truth b) zero_fits f.enterable.given_kept);
            fitting = rw g (fitting_set variables (gives given) v b f.enterable.fitting (sym (same_type_lem YesNo _ fits.typed)));
          };
          known = k;
          distinct = others_distinct variables (gives given) v vs distinct;
          fit = rw g (others_fit variables (gives given) v vs distinct all_fit (Some (Truth b)));
          size = l ∙ half;
        }

    pub fills_first : {one : List ℕ} → one ≡ set given v no_cell → FillsRows bytes index links orders i vs one memo (take (length table / 2) table)
    fills_first e = fills false e f.known (first_half table)

    -- the cells with no, before the first half and after it, and those with yes
    module _ {one after two : List ℕ} (is_one : one ≡ set given v no_cell) (same : after ≡ one) (then : two ≡ set after v yes_cell) where
      is_two : two ≡ set given v yes_cell
      is_two = then ∙ ap (λ (xs : List ℕ). set xs v yes_cell) (same ∙ is_one) ∙ set-set given v no_cell yes_cell

      module _ {first : List ℕ} (is_first : first ≡ cell_rows bytes i vs one) (kept : length first ≡ length (take (length table / 2) table)) where
        abbrev all : List ℕ
        all = joined first (length table / 2) table

        size : length first ≡ length table / 2
        size = kept ∙ first_half table

        pub fills_second : {known : List ℕ} → Known bytes known
            → FillsRows bytes index links orders i vs two known (take (length all - length table / 2) (drop (length table / 2) all))
        fills_second k =
            let t = twice in
            let l : length table - length table / 2 ≡ length table / 2 = omega arith in
            fills true is_two k (rest_length first table (length table / 2) size ∙ l)

        pub whole : {second : List ℕ} → second ≡ cell_rows bytes i vs two
            → take (length table / 2) all ++ (second ++ drop (length all - length table / 2) (drop (length table / 2) all)) ≡ cell_rows bytes i chosen given
        whole {second} e =
            halves first table (length table / 2) size second
            ∙ rw (is_first, e, is_one, is_two) (sym (both_halves bytes i given v vs))
            ∙ ap (λ (l : List ℕ). cell_rows bytes i l given) (sym is)

      pub restored : {end cells : List ℕ} → end ≡ two → cells ≡ set end v 0 → cells ≡ given
      restored {end} {cells} e q =
          let z : get_or given v 0 ≡ 0 = not_given given (length variables) v fits.known fits.fresh in
          q ∙ ap (λ (xs : List ℕ). set xs v 0) (e ∙ is_two) ∙ set-set given v yes_cell 0 ∙ ap (set given v) (sym z) ∙ set-get_or given v 0
