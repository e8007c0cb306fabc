-- What is known of blocks that were entered with nothing given.
--     recalled, noted                  a row that is read, and one that is written
--     came_from, came_so               cells that are as they were
--     nothing_known                    before the first block
-- Assumes nothing.
use Prim.Native.Nat.{ℕ, ◌+◌, ◌<◌}
use mathlib.Core.Path.{◌≡◌, sym, subst, ◌∙◌}
use mathlib.Core.Bool.{Bool, true}
use mathlib.Core.List.{List, []}
use native.Mathlib.Omega.{arith}
use lib.ListN.{length, get_or, replicate, length-replicate}
use Rattle.std.specs.Prelude.{Option, None, Some, Ok}
use Rattle.cells.specs.Cells.{given_of, given_at}
use Rattle.memo.specs.Rows.{Ungiven, HasRow, RowRoom, Found, Recalled, Remembered}
use Rattle.memo.proofs.Rows.{nothing_kept, kept_found, kept_noted}
use Rattle.directory.specs.Layout.{variables_in}
use Rattle.instructions.specs.Views.{givens_at}
use Rattle.instructions.proofs.Memory.{tab_same}
use Rattle.blocks.specs.Entries.{Outcome, variables_at, Entry, Came, CameTo, Known}
use Rattle.blocks.proofs.Tables.{small}
use Rattle.blocks.proofs.Entering.{world, variables_same}

-- where nothing is given, it does not matter in which cells
givens_none : (own : List ℕ) (n : ℕ) → ((u : ℕ) → u < n → given_at own u ≡ None) → givens_at own 0 n ≡ givens_at [] 0 n
unfolding givens_at given_at given_of
givens_none own n h =
    tab_same (λ x. given_of (get_or own (0 + x) 0)) (λ x. given_of (get_or [] (0 + x) 0)) 0 n
    (λ i l. let z : 0 + (0 + i) ≡ i = omega arith in rw z (h i l))

-- cells that are as they were
pub came_from : {code : List ℕ} {p : ℕ} {own own' own'' st tr : List ℕ} {a : Outcome} → own' ≡ own → Came code p own' a own'' st tr → Came code p own a own'' st tr
came_from {code} {p} {own} {own'} {own''} {st} {tr} {a} e k = subst (λ (xs : List ℕ). Came code p xs a own'' st tr) e k

pub entry_from : {code directory : List ℕ} {p : ℕ} {own own' : List ℕ} → own' ≡ own → Entry code directory p own → Entry code directory p own'
entry_from {code} {directory} {p} e k = subst (λ (xs : List ℕ). Entry code directory p xs) (sym e) k

pub entry_sized : {code directory : List ℕ} {p : ℕ} {own own' : List ℕ} → Entry code directory p own → length own' ≡ 32
    → Entry code directory p own'
entry_sized e s = record { accepts = e.accepts; tabled = e.tabled; block = e.block; room = s }

pub came_so : {code : List ℕ} {p : ℕ} {own own' st tr : List ℕ} {a r : Outcome} → Came code p own a own' st tr → a ≡ r → Came code p own r own' st tr
came_so {code} {p} {own} {own'} {st} {tr} k e = subst (λ (x : Outcome). Came code p own x own' st tr) e k

module _ {code directory : List ℕ} {p : ℕ} {own : List ℕ} (e : Entry code directory p own) where
  few : p < 32
  few = small (world e) p e.block

  has_row : {memo : List ℕ} → Known code memo → HasRow p memo
  has_row k = omega (arith, few, k.size)

  pub row_room : {own' memo : List ℕ} → length own' ≡ 32 → Known code memo → RowRoom p own' memo
  row_room s k = record { row = has_row k; room = s }

  module _ {n : ℕ} {b : Bool} (v : n ≡ variables_in directory p) (u : Ungiven own n b) where
    variables_are : n ≡ variables_at code p
    variables_are = v ∙ variables_same (world e) p e.block

    givens_are : b ≡ true → givens_at own 0 (variables_at code p) ≡ givens_at [] 0 (variables_at code p)
    givens_are t = givens_none own (variables_at code p) (λ x l. u.none t x (rw variables_are l))

    pub recalled : {memo : List ℕ} {r : Option ℕ} {n : ℕ} {own' st tr : List ℕ} → Known code memo → Recalled memo p b own r own' → r ≡ Some n
        → Came code p own (Ok n) own' st tr
    recalled {memo} {r} {n} {own'} k f e =
        let found : Found memo p b n own' = rw e at f in
        let row = kept_found _ k.table (has_row k) found in
        record { size = row.size; shows = rw (givens_are found.wanted) row.shows }

    pub noted : {memo memo' own' : List ℕ} {count : ℕ} → Known code memo → CameTo code p own (Ok count) own' → length memo' ≡ length memo
        → Remembered own' count p b memo memo' → Known code memo'
    noted k c s m =
        record {
          size = s ∙ k.size;
          table = kept_noted _ k.table (has_row k) m s (λ t. record { size = c.size; shows = rw (← givens_are t) c.shows });
        }

pub nothing_known : (code : List ℕ) → Known code (replicate 1056 0)
nothing_known code = record { size = length-replicate {A = ℕ} 1056 0; table = nothing_kept _ 1056 }
