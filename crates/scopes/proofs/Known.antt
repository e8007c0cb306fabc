-- What is known of scopes entered with nothing given.
--     recalled, noted                     a row that is read, and one that is written
--     nothing_known                       before the first scope
-- Assumes nothing.
use Prim.Native.Nat.{ℕ, zero, suc, ◌+◌, ◌*◌, ◌<◌, ◌≤◌}
use mathlib.Core.Path.{◌≡◌, refl, sym, subst, ◌∙◌}
use mathlib.Core.Bool.{Bool, true}
use mathlib.Core.List.{List, []}
use native.Mathlib.Omega.{arith}
use lib.ListN.{length, replicate, length-replicate}
use Rattle.std.specs.Prelude.{Result, Ok, Option, None, Some}
use Rattle.cells.specs.Codec.{AllKept}
use Rattle.cells.specs.Cells.{given_of, given_at}
use Rattle.book.specs.Decode.{scopes_of}
use Rattle.book.specs.References.{scope_at}
use Rattle.scopes.specs.Steps.{givens_from, entered_at, Came}
use Rattle.memo.specs.Rows.{NoneGiven, Ungiven, HasRow, RowRoom, Remembered}
use Rattle.memo.specs.Rows as cells
use Rattle.memo.proofs.Rows.{nothing_kept, kept_found, kept_noted}
use Rattle.scopes.specs.Known.{Known, Noting, Recalled}
use Rattle.scopes.specs.declared.Ended.{Ended}

-- where nothing is given, it does not matter in which cells
givens_none : (given : List ℕ) (v n : ℕ) → ((u : ℕ) → u < v + n → given_at given u ≡ None) → givens_from given v n ≡ givens_from [] v n
unfolding givens_from
givens_none given v zero h = refl
givens_none given v (suc n) h =
    rw (h v (omega arith) ∙ sym (empty v), givens_none given (suc v) n (λ u l. h u (omega arith))) refl
  where
    empty : (v : ℕ) → given_at [] v ≡ None
    empty v = unfold given_at given_of in refl

entered_none : (bytes : List ℕ) (i : ℕ) (given : List ℕ) → NoneGiven given (length (scope_at (scopes_of bytes) i).variables)
    → entered_at bytes i given ≡ entered_at bytes i []
unfolding entered_at
entered_none bytes i given h =
    let vars = length (scope_at (scopes_of bytes) i).variables in
    let e : givens_from given 0 vars ≡ givens_from [] 0 vars = givens_none given 0 vars (λ u l. h u (omega arith)) in
    rw e refl

came_none : (bytes : List ℕ) (i : ℕ) (given : List ℕ) (r : Result ℕ Ended) (own : List ℕ) → NoneGiven given (length (scope_at (scopes_of bytes) i).variables)
    → Came bytes i given r own → Came bytes i [] r own
came_none bytes i given r own h c = record { size = c.size; kept = c.kept; same = c.same ∙ entered_none bytes i given h; present = c.present }

none_came : (bytes : List ℕ) (i : ℕ) (given : List ℕ) (r : Result ℕ Ended) (own : List ℕ) → NoneGiven given (length (scope_at (scopes_of bytes) i).variables)
    → Came bytes i [] r own → Came bytes i given r own
none_came bytes i given r own h c = record { size = c.size; kept = c.kept; same = c.same ∙ sym (entered_none bytes i given h); present = c.present }

-- Rows

module _ {bytes index : List ℕ} {i : ℕ} {own memo : List ℕ} (n : Noting bytes index i own memo) where
  has_row : HasRow i memo
  has_row = omega (arith, n.scope, n.known.size)

  pub row_room : RowRoom i own memo
  row_room = record { row = has_row; room = n.room }

  module _ {given : List ℕ} {count : ℕ} {b : Bool} (u : Ungiven given count b) (v : count ≡ length (scope_at (scopes_of bytes) i).variables) where
    bare : b ≡ true → NoneGiven given (length (scope_at (scopes_of bytes) i).variables)
    bare t x l = u.none t x (omega (arith, v))

    pub recalled : {own' : List ℕ} {r : Option ℕ} → length own' ≡ 32 → cells.Recalled memo i b own r own' → Recalled bytes i given r own'
    recalled {own' = own'} {r = None} s f = record { size = s; kept = subst AllKept (sym f.kept) n.kept; found = λ m q. cc }
    recalled {own' = own'} {r = Some k} s f =
        let came : Came bytes i given (Ok k) own' = none_came bytes i given (Ok k) own' (bare f.wanted) (kept_found _ n.known.table has_row f) in
        record { size = s; kept = came.kept; found = λ m q. let e : k ≡ m = cc in subst (λ (z : ℕ). Came bytes i given (Ok z) own') e came }

    pub noted : {memo' : List ℕ} {m : ℕ} → Came bytes i given (Ok m) own → length memo' ≡ length memo → Remembered own m i b memo memo' → Known bytes memo'
    noted {memo'} {m} came s w =
        record {
          size = omega (arith, s, n.known.size);
          table = kept_noted _ n.known.table has_row w s (λ t. came_none bytes i given (Ok m) own (bare t) came);
        }

pub nothing_known : (bytes : List ℕ) (n : ℕ) → length (scopes_of bytes) * 33 ≤ n → Known bytes (replicate n 0)
nothing_known bytes n l =
    let long : length {A = ℕ} (replicate n 0) ≡ n = length-replicate {A = ℕ} n 0 in
    record { size = omega (arith, long); table = nothing_kept _ n }
