-- The rows of a directory.
--     begun_so, count-one, count_none, count-end    counting the bytes that may begin a block
--     small_few                                     no more blocks of the scopes below 32 than such bytes
--     room_for_few, room-for-all                    a directory of zeros has room for the blocks, and no scope has a place in it
-- Assumes nothing.
use Prim.Native.Nat.{ℕ, zero, suc, ◌+◌, ◌<◌, ◌≤◌}
use mathlib.Core.Path.{◌≡◌, refl, ap, ◌∙◌}
use mathlib.Core.Bool.{Bool, true, false, cond}
use mathlib.Core.List.{List, [], ◌∷◌}
use mathlib.Core.Logic.{⊎_elim}
use native.Mathlib.Omega.{arith}
use native.Mathlib.Numerals.{add-one}
use lib.ListN.{length, get_or, drop, replicate, length-replicate, drop_of_length-le}
use lib.Seq.{drop-cons, get_or-drop}
use lib.Dec.{eqb, ltb, leb}
use borrow.Author.Tests.{eqb-true, eq-eqb, ne_eqb, lt-ltb, leb-true}
use Rattle.laws.proofs.Booleans.{decide}
use Rattle.laws.proofs.Zeros.{zeros}
use Rattle.record.specs.declared.Medium.TheVariants.{Code}
use Rattle.scan.proofs.Beginnings.{scope_kind, one_more}
use Rattle.machine.specs.Blocks.{Block, Parsed, empty_block, body_length, stage_of, in_front, parse}
use Rattle.directory.specs.Layout.{place_in}
use Rattle.directory.specs.Tabled.{block_at, block_count, Room}
use Rattle.runner.specs.Rows.{begins, begins_at, beginnings_in}

-- Counting

pub begun_not : (code : List ℕ) (at : ℕ) → (get_or code at 0 ≡ 1 → ⊥) → false ≡ begins_at code at
unfolding begins_at
begun_not code at n = rw (ne_eqb (get_or code at 0) 1 n)

pub begun_so : (code : List ℕ) (at : ℕ) → get_or code at 0 ≡ 1 → ltb (get_or code (at + 1) 0) 32 ≡ begins_at code at
unfolding begins_at
begun_so code at e = rw (eq-eqb (get_or code at 0) 1 e)

turn : (code : List ℕ) (at : ℕ) → at < length code
    → beginnings_in (drop at code) ≡ cond (begins_at code at) (suc (beginnings_in (drop (at + 1) code))) (beginnings_in (drop (at + 1) code))
unfolding beginnings_in begins_at
turn code at h =
    let z : suc at + 0 ≡ suc at = omega arith in
    let e : get_or (drop (suc at) code) 0 0 ≡ get_or code (suc at) 0 = get_or-drop (suc at) code 0 0 ∙ ap (λ (i : ℕ). get_or code i 0) z in
    rw (drop-cons code at 0 h, add-one at) (rw e)

module _ (code : List ℕ) (count at : ℕ) (so_far : count + beginnings_in (drop at code) ≡ beginnings_in code) where
  pub count_one : at < length code → begins_at code at ≡ true → count + 1 + beginnings_in (drop (at + 1) code) ≡ beginnings_in code
  count_one h e = let t : beginnings_in (drop at code) ≡ suc (beginnings_in (drop (at + 1) code)) = turn code at h ∙ rw e in omega arith

  pub count_none : at < length code → begins_at code at ≡ false → count + beginnings_in (drop (at + 1) code) ≡ beginnings_in code
  count_none h e = let t : beginnings_in (drop at code) ≡ beginnings_in (drop (at + 1) code) = turn code at h ∙ rw e in omega arith

  pub count_end : length code ≤ at → count ≡ beginnings_in code
  unfolding beginnings_in
  count_end h = let z : beginnings_in (drop at code) ≡ 0 = rw (drop_of_length-le code h) in omega arith

pub not_seen : {n : ℕ} → false ≡ true → n ≤ 4
not_seen e = let z : ◌≡◌ {A = ℕ} 0 1 = cc in absurd (omega arith)

pub seen : {n m : ℕ} → n ≡ m → leb n 4 ≡ true → m ≤ 4
seen {n} e h = let l = leb-true n 4 h in omega arith

-- Blocks of the scopes below 32

abbrev smalls : List Block → ℕ
smalls [] = 0
smalls (b ∷ bs) = let n = smalls bs in cond (ltb b.scope 32) (suc n) n

front_one : (k : ℕ) (rest : List ℕ) (p : Parsed) → stage_of k ≡ 1
    → smalls (in_front k rest p).blocks ≡ cond (ltb (get_or rest 0 0) 32) (suc (smalls p.blocks)) (smalls p.blocks)
unfolding in_front
front_one k rest p e = rw (eq-eqb (stage_of k) 1 e)

as_many : (a b c : Bool) (x y z w : Parsed) (n : ℕ) → smalls x.blocks ≡ n → smalls y.blocks ≡ n → smalls z.blocks ≡ n → smalls w.blocks ≡ n
    → smalls (cond a x (cond b y (cond c z w))).blocks ≡ n
as_many true b c x y z w n i j k l = i
as_many false true c x y z w n i j k l = j
as_many false false true x y z w n i j k l = k
as_many false false false x y z w n i j k l = l

front_other : (k : ℕ) (rest : List ℕ) (p : Parsed) → eqb (stage_of k) 1 ≡ false → smalls (in_front k rest p).blocks ≡ smalls p.blocks
unfolding in_front
front_other k rest p e = rw e (as_many (eqb (stage_of k) 2) (eqb (stage_of k) 3) (eqb (stage_of k) 4) _ _ _ p (smalls p.blocks) refl refl refl refl)

grown : (c : Bool) {m n : ℕ} → m ≤ n → cond c (suc m) m ≤ cond c (suc n) n
grown true h = omega arith
grown false h = h

few_smalls : (bytes : List ℕ) (n : ℕ) → smalls (parse bytes n).blocks ≤ beginnings_in bytes
unfolding parse beginnings_in
few_smalls [] n = omega arith
few_smalls (b ∷ rest) (suc n) = let l = few_smalls rest n in let m = one_more (begins b (get_or rest 0 0)) (beginnings_in rest) in omega arith
few_smalls (k ∷ rest) zero =
    let l = few_smalls rest (body_length k) in
    ⊎_elim
    (λ q.
    let one = scope_kind Code k (eqb-true (stage_of k) 1 q) in
    let e = front_one k rest (parse rest (body_length k)) (eqb-true (stage_of k) 1 q) in
    rw (e, eq-eqb k 1 one) (grown (ltb (get_or rest 0 0) 32) l))
    (λ q.
    let e = front_other k rest (parse rest (body_length k)) q in
    let m = one_more (begins k (get_or rest 0 0)) (beginnings_in rest) in
    rw e (omega arith))
    (decide (eqb (stage_of k) 1))

all_small : (bs : List Block) (p : ℕ) → p < length bs → ((q : ℕ) → q ≤ p → (get_or bs q empty_block).scope < 32) → suc p ≤ smalls bs
all_small [] p l s = absurd (omega arith)
all_small (b ∷ bs) zero l s = rw (lt-ltb b.scope 32 (s 0 (omega arith))) (omega arith)
all_small (b ∷ bs) (suc p) l s =
    let m = all_small bs p (omega arith) (λ q h. s (suc q) (omega arith)) in
    rw (lt-ltb b.scope 32 (s 0 (omega arith))) (omega arith)

pub small_few : (code : List ℕ) (p : ℕ) → p < block_count code → ((q : ℕ) → q ≤ p → (block_at code q).scope < 32) → suc p ≤ beginnings_in code
unfolding block_count block_at
small_few code p l s = let a = all_small (parse code 0).blocks p l s in let b = few_smalls code 0 in omega arith

-- Directories of zeros

none_placed : (n i : ℕ) → place_in (replicate n 0) i ≡ 0
unfolding place_in
none_placed n i = ⊎_elim (λ q. rw q (zeros n i)) (λ q. rw q) (decide (ltb i 32))

pub room_for_few : (code : List ℕ) → beginnings_in code ≤ 4 → Room code (replicate 212 0) × ((i : ℕ) → place_in (replicate 212 0) i ≡ 0)
room_for_few code l =
    let n = length-replicate {A = ℕ} 212 0 in
    (record { places = omega arith; rows = λ p a b s. let f = small_few code p b s in omega arith }, none_placed 212)

pub room_for_all : (code : List ℕ) → Room code (replicate 1472 0) × ((i : ℕ) → place_in (replicate 1472 0) i ≡ 0)
room_for_all code =
    let n = length-replicate {A = ℕ} 1472 0 in
    (record { places = omega arith; rows = λ p a b s. omega arith }, none_placed 1472)
