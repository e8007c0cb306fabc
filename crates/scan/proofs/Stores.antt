-- Storing a record.
-- Assumes nothing.
use Prim.Native.Nat.{ℕ, ◌+◌, ◌-◌, ◌*◌, ◌≤◌, ◌<◌}
use mathlib.Core.Path.{◌≡◌}
use mathlib.Core.Bool.{Bool, true, false, cond}
use mathlib.Core.List.{List}
use lib.ListN.{length, set, length-set}
use native.Mathlib.Omega.{arith}
use lib.Dec.{eqb}
use borrow.Author.Tests.{ne_eqb, lt-ltb, le-ltb}
use Rattle.scan.specs.declared.Slot.{Slot}
use Rattle.scan.specs.Counting.{slot_of, number_of}
use Rattle.scan.specs.Filling.{stored, Room}
use Rattle.scan.proofs.Cells.{count_cell, place_cell}

-- what there is room for
pub record Few (slot : Slot) (n scopes : ℕ) : Type 0 where
  pub opened : 1 ≤ scopes
  pub place : slot.base + n < 422
  pub number : n < 255

-- positions stand behind the counts
base_low : (s : ℕ) → 2 ≤ s → 4 ≤ (slot_of s).base
unfolding slot_of
base_low s h = rw (ne_eqb s 1 (λ e. absurd (omega arith))) (go (eqb s 2) (eqb s 3) (eqb s 4))
  where
    go : (a b c : Bool)
        → 4 ≤ (cond {A = Slot} a (record { base = 4; limit = 32 }) (cond b (record { base = 36; limit = 8 }) (cond c (record { base = 44; limit = 250 }) (record { base = 294; limit = 128 })))).base
    go true b c = omega arith
    go false true c = omega arith
    go false false true = omega arith
    go false false false = omega arith

module _ (index : List ℕ) (at s scopes : ℕ) where
  pub none : s < 2 → index ≡ stored index at s scopes
  unfolding stored
  none h = rw (lt-ltb s 2 h)

  pub few : Room index at s scopes → 2 ≤ s → (slot : Slot) → slot ≡ slot_of s → (n : ℕ) → n ≡ number_of index s scopes → Few slot n scopes
  few r h slot e n en = rw (e, en) (record { opened = r.counted.opened h; place = r.place h; number = r.number h })

  pub count_room : Room index at s scopes → 2 ≤ s → (k v : ℕ) → (scopes - 1) * 4 + (s - 2) < length (set index k v)
  count_room r h k v =
      let o = r.counted.opened h in
      omega (arith, length-set index k v, r.counted.size, r.counted.stage, r.counted.few)

  pub one : Room index at s scopes → 2 ≤ s → (slot : Slot) → slot ≡ slot_of s → (n : ℕ) → n ≡ number_of index s scopes
      → set (set index (124 + (scopes - 1) * 418 + (slot.base + n)) at) ((scopes - 1) * 4 + (s - 2)) (n + 1) ≡ stored index at s scopes
  unfolding stored
  one r h slot e n en =
      let low = base_low s h in
      rw (e, en, place_cell (scopes - 1) ((slot_of s).base + number_of index s scopes) (omega arith), count_cell (scopes - 1) (s - 2) (omega (arith, r.counted.stage)))
      (rw (le-ltb s 2 h))
