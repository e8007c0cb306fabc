-- A block's end.
--     looked_through                cells looked through
--     end_values, ..                what the end of a block comes to
-- Assumes nothing.
use Prim.Native.Nat.{ℕ, zero, suc, ◌+◌, ◌<◌, ◌≤◌}
use mathlib.Core.Path.{◌≡◌, refl, ap, ◌∙◌}
use mathlib.Core.Bool.{Bool, true, false, not}
use mathlib.Core.List.{List, ◌∷◌}
use mathlib.Core.Logic.{⊎_elim}
use native.Mathlib.Omega.{arith}
use lib.ListN.{length, get_or, take, drop, length-take, length-drop}
use lib.Seq.{get_or-take, get_or-drop}
use Rattle.std.specs.Bool.{MatchBool}
use Rattle.std.specs.List.{AllWithin, HoldsAt}
use lib.Dec.{eqb}
use borrow.Author.Tests.{ne_eqb, eqb-true, eqb-false, not-true, not-false}
use Rattle.std.specs.Prelude.{Some, Ok, Err}
use Rattle.laws.proofs.Booleans.{decide}
use Rattle.calculus.specs.declared.Value.{Value}
use Rattle.cells.specs.Cells.{given_of, held}
use Rattle.machine.specs.Machine.{Cell}
use Rattle.machine.specs.Run.{Finals, missing, finals, finals_of, all_entered, whole, at_end}
use Rattle.blocks.specs.declared.Halt.TheVariants as coded
use Rattle.instructions.specs.Views.{tab, cell_with, own_cell, values_in, callee_at, memory}
use Rattle.blocks.specs.Entries.{nonzero, Ending, Finished}
use Rattle.directory.specs.Layout.{variables_in, sub_scopes_in}
use Rattle.instructions.proofs.Memory.{present, absent, tab_same}

set_all : (cells : List ℕ) (v n : ℕ) → ((k : ℕ) → k < n → get_or cells (v + k) 0 ≡ 0 → ⊥) → true ≡ nonzero cells v n
unfolding nonzero
set_all cells v zero h = refl
set_all cells v (suc n) h =
    let z : v + 0 ≡ v = omega arith in
    let here : get_or cells v 0 ≡ 0 → ⊥ = rw z at (h 0 (omega arith)) in
    rw (ne_eqb (get_or cells v 0) 0 here)
    (set_all cells (suc v) n (λ k l. let y : suc v + k ≡ v + suc k = omega arith in rw y (h (suc k) (omega arith))))

set_not : (cells : List ℕ) (v n k : ℕ) → k < n → get_or cells (v + k) 0 ≡ 0 → false ≡ nonzero cells v n
unfolding nonzero
set_not cells v zero k l e = absurd (omega arith)
set_not cells v (suc n) zero l e = let z : v + 0 ≡ v = omega arith in rw (rw z at e)
set_not cells v (suc n) (suc k) l e =
    let y : v + suc k ≡ suc v + k = omega arith in
    ⊎_elim
    (λ (q : eqb (get_or cells v 0) 0 ≡ true). rw q)
    (λ (q : eqb (get_or cells v 0) 0 ≡ false). rw q (set_not cells (suc v) n k (omega arith) (rw y at e)))
    (decide (eqb (get_or cells v 0) 0))

-- a part of the cells looked through for one that is 0
pub looked_through : (cells : List ℕ) (from n : ℕ) (r : Bool) → from + n ≤ length cells
    → (xs : List ℕ) → xs ≡ take n (drop from cells)
    → MatchBool r (AllWithin (λ (x : ℕ). x ≡ 0 → ⊥) xs 0 (length xs)) ((k : ℕ) × (k < length xs) × HoldsAt (λ (x : ℕ). x ≡ 0) xs k)
    → r ≡ nonzero cells from n
looked_through cells from n r room xs e h = by_answer r h
  where
    count : length xs ≡ n
    count = let a = ap length e in let b = length-take n (drop from cells) in let d = length-drop from cells in omega arith

    cell : (k : ℕ) → k < n → get_or xs k 0 ≡ get_or cells (from + k) 0
    cell k l = ap (λ (ys : List ℕ). get_or ys k 0) e ∙ get_or-take n (drop from cells) k 0 l ∙ get_or-drop from cells k 0

    by_answer : (a : Bool) → MatchBool a (AllWithin (λ (x : ℕ). x ≡ 0 → ⊥) xs 0 (length xs)) ((k : ℕ) × (k < length xs) × HoldsAt (λ (x : ℕ). x ≡ 0) xs k)
        → a ≡ nonzero cells from n
    by_answer true f = set_all cells from n (λ k l. rw (cell k l) at (f k 0 (omega arith) (rw count l)))
    by_answer false f = let l : f.0 < n = rw count at f.1 in set_not cells from n f.0 l (rw (cell f.0 l) at (f.2 0))

-- The end of a block

abbrev finals_if : Bool → List Value → Finals
finals_if true vs = finals vs
finals_if false vs = missing

front_set : (f b : Bool) (v : Value) (vs : List Value) (cs : List Cell) → finals_of cs ≡ finals_if b vs → finals_of (cell_with f (Some v) ∷ cs) ≡ finals_if b (v ∷ vs)
front_set true true v vs cs e = rw e
front_set true false v vs cs e = rw e
front_set false true v vs cs e = rw e
front_set false false v vs cs e = rw e

finals_tab : (own frame : List ℕ) (v n : ℕ)
    → finals_of (tab (own_cell own frame) v n) ≡ finals_if (nonzero own v n) (tab (λ x. held (given_of (get_or own x 0))) v n)
unfolding tab nonzero own_cell
finals_tab own frame v zero = refl
finals_tab own frame v (suc n) =
    ⊎_elim
    (λ q. rw (absent (eqb-true (get_or own v 0) 0 q), q))
    (λ q.
    let p = present (get_or own v 0) (eqb-false (get_or own v 0) 0 q) in
    rw q (rw p (front_set (eqb (get_or frame v 0) 0) (nonzero own (suc v) n) (held (given_of (get_or own v 0))) (tab (λ x. held (given_of (get_or own x 0))) (suc v) n)
    (tab (own_cell own frame) (suc v) n) (finals_tab own frame (suc v) n))))
    (decide (eqb (get_or own v 0) 0))

entered_tab : (frame : List ℕ) (sizes : ℕ → ℕ) (k n : ℕ) → all_entered (tab (λ i. callee_at frame (sizes i) i) k n) ≡ nonzero frame (32 + k) n
unfolding tab nonzero callee_at
entered_tab frame sizes k zero = refl
entered_tab frame sizes k (suc n) =
    let z : 32 + suc k ≡ suc (32 + k) = omega arith in
    ⊎_elim
    (λ q. rw q)
    (λ q. rw q (entered_tab frame sizes (suc k) n ∙ ap (λ (j : ℕ). nonzero frame j n) z))
    (decide (eqb (get_or frame (32 + k) 0) 0))

values_tab : (own : List ℕ) (n : ℕ) → tab (λ x. held (given_of (get_or own x 0))) 0 n ≡ values_in own 0 n
unfolding values_in
values_tab own n =
    tab_same (λ x. held (given_of (get_or own x 0))) (λ x. held (given_of (get_or own (0 + x) 0))) 0 n
    (λ i l. let z : 0 + (0 + i) ≡ 0 + i = omega arith in rw z)

end_is : (v s : ℕ) (sizes : ℕ → ℕ) (own frame : List ℕ) (count : ℕ)
    → at_end (memory v s sizes own frame count) ≡ whole (finals_if (nonzero own 0 v) (values_in own 0 v)) (nonzero frame 32 s) count
unfolding memory
end_is v s sizes own frame count = rw (finals_tab own frame 0 v, entered_tab frame sizes 0 s, values_tab own v)

module _ (directory : List ℕ) (p : ℕ) (own frame : List ℕ) (v : ℕ) (variables_here : v ≡ variables_in directory p) where
  pub end_unset : {count : ℕ} {r : Bool} → r ≡ nonzero own 0 v → not r ≡ true → Finished directory p own frame count (Err coded.Stuck)
  end_unset {count} {r} e n =
      record {
        shows = λ sizes.
            end_is (variables_in directory p) (sub_scopes_in directory p) sizes own frame count ∙ rw (← variables_here, ← e, not-true r n);
      }

  module _ (s : ℕ) (subs_here : s ≡ sub_scopes_in directory p) where
    pub mark_room : Ending directory p own frame → 32 + s ≤ length frame
    mark_room e = rw subs_here e.sub_scopes

    module _ (count : ℕ) (r q : Bool) (e : r ≡ nonzero own 0 v) (n : not r ≡ false) (f : q ≡ nonzero frame 32 s) where
      ends_so : (sizes : ℕ → ℕ)
          → at_end (memory (variables_in directory p) (sub_scopes_in directory p) sizes own frame count) ≡ whole (finals (values_in own 0 (variables_in directory p))) q count
      ends_so sizes =
          end_is (variables_in directory p) (sub_scopes_in directory p) sizes own frame count
          ∙ rw (← variables_here, ← subs_here, ← e, not-false r n, ← f)

      pub end_waiting : not q ≡ true → Finished directory p own frame count (Err coded.Stuck)
      end_waiting m = record { shows = λ sizes. ends_so sizes ∙ rw (not-true q m) }

      pub end_values : not q ≡ false → Finished directory p own frame count (Ok count)
      end_values m = record { shows = λ sizes. ends_so sizes ∙ rw (not-false q m) }
