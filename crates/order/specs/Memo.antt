-- What a search for the ready vertex leaves to the next one.
use Rattle.std.specs.Prelude.{ℕ, ◌<◌, ◌≤◌, ◌+◌, ◌≡◌, true, false, cond, List, ◌⊎◌, length, get_or, set, ltb}
use Rattle.order.specs.Matrix.{marked, linked, edge_of}

-- `to` has the rows of `from`, and they are read from the same vertices on or from higher ones: all that is passed over is done
pub record Met (from : List ℕ) (n : ℕ) (done to : List ℕ) : Type 0 where
  pub long : length to ≡ length from
  pub rows : (v w : ℕ) → v < n → w < n → linked to v w ≡ linked from v w
  pub later : (v : ℕ) → v < n → get_or from (1600 + v) 0 ≤ get_or to (1600 + v) 0
  pub kept : (v w : ℕ) → v < n → w < n → w < get_or to (1600 + v) 0 → edge_of from v w ≡ true → marked done w ≡ true

-- v waits for w, from which on its row is read: v depends on w, w is not done, and w wakes v or a lower vertex
pub record Waits (deps : List ℕ) (n : ℕ) (done wakes : List ℕ) (v w : ℕ) : Type 0 where
  pub start : get_or deps (1600 + v) 0 ≡ w
  pub inside : w < n
  pub edge : edge_of deps v w ≡ true
  pub undone : marked done w ≡ false
  pub woken : get_or wakes w 0 ≤ v

-- each vertex below low is done or waits for another
pub record Resting (deps : List ℕ) (n : ℕ) (done wakes : List ℕ) (low : ℕ) : Type 0 where
  pub each : (v : ℕ) → v < low → (marked done v ≡ true) ⊎ ((w : ℕ) × Waits deps n done wakes v w)

-- whom each vertex wakes, once v waits for w
unfoldable pub woken_by : List ℕ → ℕ → ℕ → List ℕ
woken_by wakes v w = cond (ltb v (get_or wakes w 0)) (set wakes w v) wakes
