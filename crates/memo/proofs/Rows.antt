-- Cells that are copied, and rows that are read and written.
--     ungiven                                 a search for what is given
--     not_known, recalled                     a row that is read
--     noted                                   a row that is written
--     nothing_kept, kept_found, kept_noted    tables whose rows are as they must be
-- Assumes nothing.
use Prim.Native.Nat.{ℕ, suc, ◌+◌, ◌*◌, ◌<◌, ◌≤◌}
use mathlib.Core.Path.{◌≡◌, refl, sym, ap, ◌∙◌}
use mathlib.Core.Bool.{Bool, true, false, false≢true}
use mathlib.Core.List.{List}
use mathlib.Core.Logic.{◌⊎◌, inl, inr, ⊎_elim}
use native.Mathlib.Omega.{arith}
use lib.ListN.{length, get_or, set, drop, replicate, length-set, length-take, length-drop, length-replicate, get_or-replicate}
use lib.Seq.{ext_get_or, get_or-set_same, get_or-set_other, get_or-take, get_or-drop}
use Rattle.std.specs.Prelude.{None}
use Rattle.std.specs.Bool.{MatchBool}
use Rattle.std.specs.List.{AllWithin, HoldsAt, range_with_len}
use Rattle.std.proofs.Common.{zero-add}
use Rattle.std.proofs.lemmas.Bool.{cases_Bool, cases_eq, cases_lt}
use Rattle.std.proofs.lemmas.List.FromFn.{length-range_with_len, get_or-range_with_len}
use Rattle.cells.specs.Cells.{given_at}
use Rattle.memo.specs.Rows.{Copied, Ungiven, row_count, row_cells, HasRow, RowRoom, Unfound, Found, Remembered, Memo}

-- What is given

number_at : (n u : ℕ) → u < n → get_or (range_with_len 0 n) u 0 ≡ u
number_at n u l = get_or-range_with_len 0 n u 0 l ∙ zero-add u

-- a search through the first n variables for one that is given
pub ungiven : (given : List ℕ) (n : ℕ) (r : Bool)
    → MatchBool r
    (AllWithin (λ (u : ℕ). given_at given u ≡ None) (range_with_len 0 n) 0 (length (range_with_len 0 n)))
    ((u : ℕ) × (u < length (range_with_len 0 n)) × HoldsAt (λ (u : ℕ). given_at given u ≡ None → ⊥) (range_with_len 0 n) u)
    → Ungiven given n r
ungiven given n true h =
    record {
      none = λ e u l. rw (number_at n u l) at (h u 0 (omega arith) (rw length-range_with_len l));
      if_none = λ z. refl;
    }
ungiven given n false h =
    let l : h.0 < n = rw length-range_with_len at h.1 in
    record {
      none = λ e. absurd (false≢true e);
      if_none = λ none. absurd (h.2 0 (rw (number_at n h.0 l) (none h.0 l)));
    }

-- Rows

cells_length : (memo : List ℕ) (i : ℕ) → HasRow i memo → length (row_cells memo i) ≡ 32
unfolding row_cells
cells_length memo i l =
    let t = length-take 32 (drop (i * 33 + 1) memo) in
    let d = length-drop (i * 33 + 1) memo in
    omega (arith, t, d)

cells_at : (memo : List ℕ) (i x : ℕ) → x < 32 → get_or (row_cells memo i) x 0 ≡ get_or memo (i * 33 + 1 + x) 0
unfolding row_cells
cells_at memo i x l = get_or-take 32 (drop (i * 33 + 1) memo) x 0 l ∙ get_or-drop (i * 33 + 1) memo x 0

-- a row's cells are those that stand there
row_is : (memo : List ℕ) (i : ℕ) (own : List ℕ) → HasRow i memo → length own ≡ 32
    → ((x : ℕ) → x < 32 → get_or memo (i * 33 + 1 + x) 0 ≡ get_or own x 0) → row_cells memo i ≡ own
row_is memo i own l r k =
    let n = cells_length memo i l in
    ext_get_or 0 (row_cells memo i) own (n ∙ sym r) (λ x h. let w : x < 32 = omega arith in cells_at memo i x w ∙ k x w)

module _ {i : ℕ} {own memo : List ℕ} (n : RowRoom i own memo) where
  pub not_known : {asked : Bool} → get_or memo (i * 33) 0 ≡ 0 → Unfound memo i asked own own
  unfolding row_count
  not_known e = record { kept = refl; unknown = λ z. e }

  pub recalled : {own' : List ℕ} {asked : Bool} {r : ℕ} → asked ≡ true → r ≡ get_or memo (i * 33) 0 → (r ≡ 0 → ⊥) → Copied memo (i * 33 + 1) 32 own 0 own'
      → Found memo i asked r own'
  unfolding row_count
  recalled {own'} a e ne c =
      let same = row_is memo i own' n.row (c.size ∙ n.room)
      (λ x l. let z : 0 + x ≡ x = omega arith in sym (c.inside x l) ∙ ap (λ (y : ℕ). get_or own' y 0) z) in
      record { wanted = a; count = e; known = ne; cells = sym same }

  module _ {memo' : List ℕ} (count : ℕ) (c : Copied own 0 32 memo (i * 33 + 1) memo') where
    abbrev after : List ℕ
    after = set memo' (i * 33) count

    sized : length after ≡ length memo
    sized = length-set memo' (i * 33) count ∙ c.size

    still : (j : ℕ) → HasRow j memo → HasRow j after
    still j l = omega (arith, sized)

    mine : row_cells after i ≡ own
    mine =
        row_is after i own (still i n.row) n.room
        (λ x w.
        let z : 0 + x ≡ x = omega arith in
        get_or-set_other memo' (i * 33) (i * 33 + 1 + x) count 0 (λ e. omega arith) ∙ c.inside x w ∙ ap (λ (y : ℕ). get_or own y 0) z)

    apart : (j y : ℕ) → (j ≡ i → ⊥) → y < 33 → (j * 33 + y < i * 33) ⊎ (i * 33 + 33 ≤ j * 33 + y)
    apart j y ne w = ⊎_elim (λ l. inl (omega arith)) (λ l. inr (omega (arith, ne))) (cases_lt j i)

    untouched : (j y : ℕ) → (j ≡ i → ⊥) → y < 33 → get_or after (j * 33 + y) 0 ≡ get_or memo (j * 33 + y) 0
    untouched j y ne w =
        ⊎_elim
        (λ q. get_or-set_other memo' (i * 33) (j * 33 + y) count 0 (λ z. omega arith) ∙ c.below (j * 33 + y) (omega arith))
        (λ q. get_or-set_other memo' (i * 33) (j * 33 + y) count 0 (λ z. omega arith) ∙ c.above (j * 33 + y) (omega arith))
        (apart j y ne w)

    other_count : (j : ℕ) → (j ≡ i → ⊥) → row_count after j ≡ row_count memo j
    unfolding row_count
    other_count j ne = let z : j * 33 + 0 ≡ j * 33 = omega arith in rw z at (untouched j 0 ne (omega arith))

    other_cells : (j : ℕ) → HasRow j memo → (j ≡ i → ⊥) → row_cells after j ≡ row_cells memo j
    other_cells j l ne =
        row_is after j (row_cells memo j) (still j l) (cells_length memo j l)
        (λ x w.
        let k : j * 33 + 1 + x ≡ j * 33 + suc x = omega arith in
        ap (λ (y : ℕ). get_or after y 0) k
        ∙ untouched j (suc x) ne (omega arith)
        ∙ ap (λ (y : ℕ). get_or memo y 0) (sym k)
        ∙ sym (cells_at memo j x w))

    pub noted : {asked : Bool} → asked ≡ true → Remembered own count i asked memo after
    unfolding row_count
    noted e =
        let there : i * 33 < length memo' = omega (arith, n.row, c.size) in
        record {
          kept = λ z. absurd (false≢true (sym z ∙ e));
          noted = λ z.
              record { counts = get_or-set_same memo' (i * 33) count 0 there; cells = mine; others = λ j l ne. (other_count j ne, other_cells j l ne) };
        }

-- Tables of rows

module _ (Right : ℕ → ℕ → List ℕ → Type 0) where
  pub nothing_kept : (n : ℕ) → Memo Right (replicate n 0)
  unfolding row_count
  nothing_kept n =
      let long : length {A = ℕ} (replicate n 0) ≡ n = length-replicate {A = ℕ} n 0 in
      record { rows = λ i l ne. absurd (ne (get_or-replicate {A = ℕ} n (i * 33) 0 0 (omega (arith, long)))) }

  module _ {i : ℕ} {memo : List ℕ} {asked : Bool} (k : Memo Right memo) (l : HasRow i memo) where
    pub kept_found : {own' : List ℕ} {n : ℕ} → Found memo i asked n own' → Right i n own'
    kept_found f = rw (f.count, f.cells) (k.rows i l (λ z. f.known (f.count ∙ z)))

    pub kept_noted : {own memo' : List ℕ} {count : ℕ} → Remembered own count i asked memo memo' → length memo' ≡ length memo
        → (asked ≡ true → Right i count own) → Memo Right memo'
    kept_noted {own} {memo'} {count} m s right = ⊎_elim added (λ (e : asked ≡ false). rw (m.kept e) k) (cases_Bool asked)
      where
        added : asked ≡ true → Memo Right memo'
        added e =
            let w = m.noted e in
            record {
              rows = λ j h ne.
                  ⊎_elim
                  (λ (q : j ≡ i). rw (q, w.counts, w.cells) (right e))
                  (λ (q : j ≡ i → ⊥).
                  let old : HasRow j memo = omega (arith, s) in
                  let o = w.others j old q in
                  rw (o.0, o.1) (k.rows j old (λ z. ne (o.0 ∙ z))))
                  (cases_eq j i);
            }
