-- Laws of results written from cells.
--     put_bytes                  two bytes and then others, written one behind the other
--     start, room, turn, stop    writing goes on: at first, the room for the next record, after it, behind the last
-- Assumes nothing.
use Prim.Native.Nat.{ℕ, suc, ◌+◌, ◌-◌, ◌≤◌, ◌<◌}
use mathlib.Core.Path.{◌≡◌, refl, sym, ap, ◌∙◌}
use mathlib.Core.List.{List, [], ◌∷◌, ◌++◌}
use native.Mathlib.Omega.{arith}
use native.Mathlib.Numerals.{add-one}
use lib.ListN.{length, drop, length-append, take-append-drop}
use Rattle.slices.specs.Bytes.{overwrite}
use Rattle.slices.proofs.Overwrite.{chain, split, length_same}
use Rattle.cells.specs.Cells.{given_at, held}
use Rattle.lists.specs.Results.{result_record, results_from, results}
use Rattle.lists.specs.Writing.{values_from, values_of, Put}

-- One record

pub put_bytes : (s : List ℕ) (at a b : ℕ) (bs : List ℕ) → at + length (a ∷ b ∷ bs) ≤ length s
    → overwrite (overwrite (overwrite s at (a ∷ [])) (at + 1) (b ∷ [])) (at + 2) bs ≡ overwrite s at (a ∷ b ∷ bs)
put_bytes s at a b bs h = rw (chain s at (a ∷ []) (b ∷ []) (omega arith)) (chain s at (a ∷ b ∷ []) bs h)

-- All records

-- what is still to be written, n variables in all
unfoldable pub left : List ℕ → ℕ → ℕ → List ℕ
left cells n v = results_from v (values_from cells v (n - v))

-- the records below v are written: what is left, written behind them, makes the whole
pub record Written (cells : List ℕ) (n : ℕ) (before memory : List ℕ) (at v : ℕ) : Type 0 where
  pub whole : overwrite memory at (left cells n v) ≡ overwrite before 0 (results (values_of cells n))
  pub fits : at + length (left cells n v) ≤ length memory
  pub size : length memory ≡ length before
  pub below : v ≤ n
  pub all : length (results (values_of cells n)) ≤ length before

left_start : (cells : List ℕ) (n : ℕ) → left cells n 0 ≡ results (values_of cells n)
unfolding left results values_of
left_start cells n = let e : n - 0 ≡ n = omega arith in ap (λ (k : ℕ). results_from 0 (values_from cells 0 k)) e

left_more : (cells : List ℕ) (n v : ℕ) → v < n → left cells n v ≡ result_record v (held (given_at cells v)) ++ left cells n (v + 1)
unfolding left results_from values_from
left_more cells n v h = let e : n - v ≡ suc (n - (v + 1)) = omega arith in rw (e, add-one v)

left_none : (cells : List ℕ) (n v : ℕ) → n ≤ v → left cells n v ≡ []
unfolding left results_from values_from
left_none cells n v h = let e : n - v ≡ 0 = omega arith in rw e

pub start : (cells : List ℕ) (n : ℕ) (before : List ℕ) → length (results (values_of cells n)) ≤ length before → Written cells n before before 0 0
start cells n before h =
    let e = left_start cells n in
    record {
      whole = rw e;
      fits = rw e (omega arith);
      size = refl;
      below = omega arith;
      all = h;
    }

module _ {cells : List ℕ} {n : ℕ} {before memory : List ℕ} {at v : ℕ} (w : Written cells n before memory at v) where
  module _ (h : v < n) where
    pub room : at + length (result_record v (held (given_at cells v))) ≤ length memory
    room =
        let f = w.fits in
        let e = ap length (left_more cells n v h) ∙ length-append (result_record v (held (given_at cells v))) (left cells n (v + 1)) in
        omega arith

    pub turn : {after : List ℕ} {next : ℕ} → Put memory at (result_record v (held (given_at cells v))) next after → Written cells n before after next (v + 1)
    turn {after} p =
        let bs = result_record v (held (given_at cells v)) in
        let e = left_more cells n v h in
        let l = ap length e ∙ length-append bs (left cells n (v + 1)) in
        let f = w.fits in
        let same : length after ≡ length memory = ap length p.memory ∙ length_same memory at bs in
        let q = p.next in
        let fitting : at + length (bs ++ left cells n (v + 1)) ≤ length memory = rw (← e) f in
        record {
          whole = rw (p.memory, p.next) (chain memory at bs (left cells n (v + 1)) fitting ∙ ap (overwrite memory at) (sym e) ∙ w.whole);
          fits = omega arith;
          size = same ∙ w.size;
          below = omega arith;
          all = w.all;
        }

  pub stop : n ≤ v → memory ≡ results (values_of cells n) ++ drop (length (results (values_of cells n))) before
  stop h =
      let none = left_none cells n v h in
      let bs = results (values_of cells n) in
      let f = w.fits in
      let z : at + 0 ≡ at = omega arith in
      let l : length (left cells n v) ≡ 0 = ap length none in
      let here : at + 0 ≤ length memory = omega arith in
      let unchanged : overwrite memory at [] ≡ memory = split memory at [] here ∙ rw z (take-append-drop at memory) in
      let whole : overwrite memory at [] ≡ overwrite before 0 bs = ap (overwrite memory at) (sym none) ∙ w.whole in
      let b : 0 + length bs ≡ length bs = omega arith in
      let a = w.all in
      let behind : overwrite before 0 bs ≡ bs ++ drop (length bs) before = split before 0 bs (omega arith) ∙ ap (λ (k : ℕ). bs ++ drop k before) b in
      sym unchanged ∙ whole ∙ behind
