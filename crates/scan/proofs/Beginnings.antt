-- The bytes that may begin a scope, and the rows of an index for them.
--     scope_kind             a record that begins a scope has kind 1
--     count_one, count_none, count-end    how many such bytes there are, after one of them, after another byte, and at the end
--     not_seen, seen         whether they are few
--     begun_turn             no more scopes begin than there are such bytes, after a record
--     few_rows, all-rows     an empty index of 8 rows, and one of 32
-- Assumes nothing.
use Prim.Native.Nat.{ℕ, zero, suc, ◌+◌, ◌≤◌, ◌<◌}
use mathlib.Core.Path.{◌≡◌, refl, sym, ◌∙◌}
use mathlib.Core.Bool.{Bool, true, false, not, cond}
use mathlib.Core.List.{List, [], ◌∷◌}
use mathlib.Core.Logic.{⊎_elim}
use native.Mathlib.Omega.{arith}
use native.Mathlib.Numerals.{add-one}
use lib.ListN.{length, get_or, drop, replicate, length-replicate, drop_of_length-le}
use lib.Seq.{drop-cons, drop-drop}
use lib.Dec.{T, eqb, leb}
use borrow.Author.Tests.{eqb-true, eq-eqb, ne_eqb, leb-true}
use Rattle.laws.proofs.Booleans.{decide}
use Rattle.laws.proofs.Zeros.{zeros}
use Rattle.record.specs.Kinds.{kinds, shapes_of, pick_shape, shape_in}
use Rattle.record.specs.declared.Medium.{Medium}
use Rattle.record.specs.declared.Medium.TheVariants.{Book, Code}
use Rattle.book.proofs.Shapes.{every, at_every}
use Rattle.scan.specs.Counting.{scopes_with}
use Rattle.scan.specs.Filling.{scope_bytes, FewScopes, Unfilled}

other : (st : ℕ) → st ≡ 1 → T (not (eqb st 1)) → ⊥
other st e h = rw e at h

pub scope_kind : (m : Medium) (k : ℕ) → (shape_in m k).stage ≡ 1 → k ≡ 1
unfolding shape_in shapes_of kinds every
scope_kind Book zero e = absurd (omega arith)
scope_kind Book (suc zero) e = refl
scope_kind Book (suc (suc k)) e = absurd (other _ e (at_every (λ s. not (eqb (pick_shape Book s).stage 1)) (drop 2 kinds) (shapes_of 0) tt tt k))
scope_kind Code zero e = absurd (omega arith)
scope_kind Code (suc zero) e = refl
scope_kind Code (suc (suc k)) e = absurd (other _ e (at_every (λ s. not (eqb (pick_shape Code s).stage 1)) (drop 2 kinds) (shapes_of 0) tt tt k))

bytes_turn : (bytes : List ℕ) (at : ℕ) → at < length bytes
    → scope_bytes (drop at bytes) ≡ cond (eqb (get_or bytes at 0) 1) (suc (scope_bytes (drop (at + 1) bytes))) (scope_bytes (drop (at + 1) bytes))
unfolding scope_bytes
bytes_turn bytes at h = rw (drop-cons bytes at 0 h, add-one at)

one_counted : (bytes : List ℕ) (at : ℕ) → at < length bytes → get_or bytes at 0 ≡ 1 → scope_bytes (drop at bytes) ≡ suc (scope_bytes (drop (at + 1) bytes))
one_counted bytes at h e = bytes_turn bytes at h ∙ rw (eq-eqb (get_or bytes at 0) 1 e)

none_counted : (bytes : List ℕ) (at : ℕ) → at < length bytes → (get_or bytes at 0 ≡ 1 → ⊥) → scope_bytes (drop at bytes) ≡ scope_bytes (drop (at + 1) bytes)
none_counted bytes at h ne = bytes_turn bytes at h ∙ rw (ne_eqb (get_or bytes at 0) 1 ne)

-- the loop of `scope_bytes`
module _ (bytes : List ℕ) (count at : ℕ) (so_far : count + scope_bytes (drop at bytes) ≡ scope_bytes bytes) where
  pub count_one : at < length bytes → get_or bytes at 0 ≡ 1 → count + 1 + scope_bytes (drop (at + 1) bytes) ≡ scope_bytes bytes
  count_one h e = let t = one_counted bytes at h e in omega arith

  pub count_none : at < length bytes → (get_or bytes at 0 ≡ 1 → ⊥) → count + scope_bytes (drop (at + 1) bytes) ≡ scope_bytes bytes
  count_none h ne = let t = none_counted bytes at h ne in omega arith

  pub count_end : length bytes ≤ at → count ≡ scope_bytes bytes
  unfolding scope_bytes
  count_end h = let z : scope_bytes (drop at bytes) ≡ 0 = rw (drop_of_length-le bytes h) in omega arith

pub not_seen : (bytes : List ℕ) → FewScopes bytes false
not_seen bytes h = let z : ◌≡◌ {A = ℕ} 0 1 = cc in absurd (omega arith)

pub seen : (bytes : List ℕ) (n : ℕ) → n ≡ scope_bytes bytes → FewScopes bytes (leb n 8)
seen bytes n e h = let l = leb-true n 8 h in omega arith

pub one_more : (b : Bool) (n : ℕ) → n ≤ cond b (suc n) n
one_more true n = omega arith
one_more false n = omega arith

bytes_drop : (n : ℕ) (xs : List ℕ) → scope_bytes (drop n xs) ≤ scope_bytes xs
unfolding scope_bytes
bytes_drop zero xs = omega arith
bytes_drop (suc n) [] = omega arith
bytes_drop (suc n) (x ∷ xs) = let a = bytes_drop n xs in let b = one_more (eqb x 1) (scope_bytes xs) in omega arith

module _ (bytes : List ℕ) (at scopes st n : ℕ) (here : at < length bytes) (e : st ≡ (shape_in Book (get_or bytes at 0)).stage) where
  behind : scope_bytes (drop (at + 1 + n) bytes) ≤ scope_bytes (drop (at + 1) bytes)
  behind = rw (← drop-drop n (at + 1) bytes) (bytes_drop n (drop (at + 1) bytes))

  pub begun_turn : scopes_with st scopes + scope_bytes (drop (at + 1 + n) bytes) ≤ scopes + scope_bytes (drop at bytes)
  unfolding scopes_with
  begun_turn =
      let b = behind in
      ⊎_elim
      (λ (q : eqb st 1 ≡ true).
      let u = one_counted bytes at here (scope_kind Book (get_or bytes at 0) (sym e ∙ eqb-true st 1 q)) in
      rw q (omega arith))
      (λ (q : eqb st 1 ≡ false).
      let t = bytes_turn bytes at here in
      let m = one_more (eqb (get_or bytes at 0) 1) (scope_bytes (drop (at + 1) bytes)) in
      rw q (omega arith))
      (decide (eqb st 1))

pub few_rows : (bytes : List ℕ) → scope_bytes bytes ≤ 8 → Unfilled bytes (replicate 3472 0)
few_rows bytes few = record { empty = zeros 3472; rows = λ n a b. rw (length-replicate {A = ℕ} 3472 0) (omega arith) }

pub all_rows : (bytes : List ℕ) → Unfilled bytes (replicate 13504 0)
all_rows bytes = record { empty = zeros 13504; rows = λ n a b. rw (length-replicate {A = ℕ} 13504 0) (omega arith) }
