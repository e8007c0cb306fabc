-- The index as it is filled, by sort and scope: the counts say how many records are placed, and what is left of the scope follows them.
--     parts_start              nothing is placed
--     parts_new, parts-turn    after a record that begins a scope, and after one of a sort
--     count_end, placed_end    nothing is left
-- Assumes nothing.
use Prim.Native.Nat.{ℕ, suc, ◌+◌, ◌-◌, ◌*◌, ◌≤◌, ◌<◌}
use mathlib.Core.Path.{◌≡◌, refl, sym, ap, ◌∙◌}
use mathlib.Core.Bool.{Bool, true, false, cond}
use mathlib.Core.List.{List, [], ◌∷◌}
use mathlib.Core.Logic.{⊎_elim}
use native.Mathlib.Omega.{arith}
use native.Mathlib.Numerals.{add-one}
use lib.ListN.{length, get_or, drop, length-drop}
use lib.Seq.{drop-cons}
use lib.Dec.{eqb, ltb}
use borrow.Author.Tests.{eqb-true, eqb-false, eq-eqb, ne_eqb, lt-ltb, le-ltb, ltb-true, ltb-false}
use Rattle.laws.proofs.Booleans.{decide}
use Rattle.book.specs.declared.Tally.{Tally}
use Rattle.book.specs.Syntax.{Scope, empty_scope}
use Rattle.book.specs.Records.{Met, stage_of, counted, start}
use Rattle.book.specs.Decode.{Parsed, in_front}
use Rattle.book.specs.References.{scope_at}
use Rattle.book.specs.Positions.{Found}
use Rattle.index.specs.Index.{index_at}
use Rattle.scan.proofs.Cells.{with_record, stored_other, count_own, place_own, column_zero}
use Rattle.book.proofs.Sorts.{Sort, number, stage, base, limit, count, Item, items_of, item, from, long, same_sort, number_below, base_above, bases_apart, count_new, scopes_new, scopes_turn, count_turn, items_none, begun, scopes_behind, items_turn}

-- What is left of a scope

-- of scope i, where c scopes have begun and p is still to be read
pub rest : ℕ → Parsed → ℕ → Scope
rest c p i = cond (ltb (suc i) c) empty_scope (cond (eqb (suc i) c) p.opened (scope_at p.scopes (i - c)))

module _ (p : Parsed) (i : ℕ) where
  rest_start : rest 0 p i ≡ scope_at p.scopes i
  unfolding rest
  rest_start = let e : i - 0 ≡ i = omega arith in rw (le-ltb (suc i) 0 (omega arith), ne_eqb (suc i) 0 (omega arith), e)

  rest_here : (c : ℕ) → suc i ≡ c → rest c p i ≡ p.opened
  unfolding rest
  rest_here c e = rw (le-ltb (suc i) c (omega arith), eq-eqb (suc i) c e)

  rest_kept : (q : Parsed) (c : ℕ) → (suc i ≡ c → ⊥) → p.scopes ≡ q.scopes → rest c p i ≡ rest c q i
  unfolding rest
  rest_kept q c ne e = rw (ne_eqb (suc i) c ne, e)

rest_end : (c i : ℕ) → rest c (record { opened = empty_scope; scopes = [] }) i ≡ empty_scope
unfolding rest
rest_end c i = go (ltb (suc i) c) (eqb (suc i) c)
  where
    go : (a b : Bool) → cond a empty_scope (cond b empty_scope empty_scope) ≡ empty_scope
    go true b = refl
    go false true = refl
    go false false = refl

-- one scope more has begun
rest_new : (p : Parsed) (c i : ℕ) → rest c (record { opened = empty_scope; scopes = p.opened ∷ p.scopes }) i ≡ rest (c + 1) p i
unfolding rest
rest_new p c i =
    ⊎_elim
    (λ (a : ltb (suc i) c ≡ true).
    let l = ltb-true (suc i) c a in
    rw (a, lt-ltb (suc i) (c + 1) (omega arith)))
    (λ (a : ltb (suc i) c ≡ false).
    let l = ltb-false (suc i) c a in
    ⊎_elim
    (λ (b : eqb (suc i) c ≡ true).
    let e = eqb-true (suc i) c b in
    rw (a, b, lt-ltb (suc i) (c + 1) (omega arith)))
    (λ (b : eqb (suc i) c ≡ false).
    let ne = eqb-false (suc i) c b in
    ⊎_elim
    (λ (d : eqb i c ≡ true).
    let e = eqb-true i c d in
    let z : i - c ≡ 0 = omega arith in
    rw (a, b, z, le-ltb (suc i) (c + 1) (omega arith), eq-eqb (suc i) (c + 1) (omega arith)))
    (λ (d : eqb i c ≡ false).
    let far = eqb-false i c d in
    let z : i - c ≡ suc (i - (c + 1)) = omega arith in
    rw (a, b, z, le-ltb (suc i) (c + 1) (omega arith), ne_eqb (suc i) (c + 1) (omega arith)))
    (decide (eqb i c)))
    (decide (eqb (suc i) c)))
    (decide (ltb (suc i) c))

-- One sort of records of one scope, of the scopes of a book

pub record Part (bytes : List ℕ) (book : List Scope) (index : List ℕ) (t : Tally) (p : Parsed) (s : Sort) (i : ℕ) : Type 0 where
  pub placed : (n : ℕ) (d : Item s) → n < index_at index i (number s) → Found (from s) (long s) bytes (index_at index i (base s + n)) (get_or (items_of s (scope_at book i)) n d)
  pub left : drop (index_at index i (number s)) (items_of s (scope_at book i)) ≡ items_of s (rest t.scopes p i)
  pub most : index_at index i (number s) ≤ length (items_of s (scope_at book i))
  pub current : suc i ≡ t.scopes → index_at index i (number s) ≡ count s t
  pub later : t.scopes ≤ i → index_at index i (number s) ≡ 0

-- all sorts and scopes
abbrev pub Parts : List ℕ → List Scope → List ℕ → Tally → Parsed → Type 0
Parts bytes book index t p = (s : Sort) (i : ℕ) → Part bytes book index t p s i

-- nothing is placed yet
pub parts_start : (bytes : List ℕ) (book : List Scope) (index : List ℕ) (p : Parsed) → p.scopes ≡ book → ((n : ℕ) → get_or index n 0 ≡ 0) → Parts bytes book index start p
parts_start bytes book index p e empty s i =
    let z : index_at index i (number s) ≡ 0 = column_zero index empty i (number s) in
    record {
      placed = λ k d h. absurd (omega arith);
      left = rw (z, rest_start p i, e);
      most = omega arith;
      current = λ h. absurd (omega arith);
      later = λ h. z;
    }

-- all is placed
module _ (bytes : List ℕ) (book : List Scope) (index : List ℕ) (t : Tally) (s : Sort) (i : ℕ)
    (part : Part bytes book index t (record { opened = empty_scope; scopes = [] }) s i) where
  pub count_end : index_at index i (number s) ≡ length (items_of s (scope_at book i))
  count_end =
      let e : drop (index_at index i (number s)) (items_of s (scope_at book i)) ≡ [] = part.left ∙ ap (items_of s) (rest_end t.scopes i) ∙ items_none s in
      let l = ap length e in
      let d = length-drop (index_at index i (number s)) (items_of s (scope_at book i)) in
      omega (arith, part.most)

  pub placed_end : (n : ℕ) (d : Item s) → n < length (items_of s (scope_at book i)) → Found (from s) (long s) bytes (index_at index i (base s + n)) (get_or (items_of s (scope_at book i)) n d)
  placed_end n d h = part.placed n d (rw count_end h)

-- a record that begins a scope
pub parts_new : (bytes : List ℕ) (book : List Scope) (index : List ℕ) (t : Tally) (m : Met) (p : Parsed) → stage_of m ≡ 1
    → Parts bytes book index t (in_front m p) → Parts bytes book index (counted 1 t) p
parts_new bytes book index t m p e old s i =
    let q = scopes_new t in
    record {
      placed = (old s i).placed;
      left = (old s i).left ∙ rw (begun m p e, q) (ap (items_of s) (rest_new p t.scopes i));
      most = (old s i).most;
      current = λ h. (old s i).later (omega arith) ∙ sym (count_new s t);
      later = λ h. (old s i).later (omega arith);
    }

-- a record of a sort, placed
module _ (bytes : List ℕ) (book : List Scope) (index : List ℕ) (at : ℕ) (t : Tally) (m : Met) (p : Parsed) (s' : Sort)
    (e : stage_of m ≡ stage s') (says : Found (from s') (long s') bytes at (item s' m)) (j : ℕ) (here : suc j ≡ t.scopes) (row : j < 32)
    (fits : count s' t < limit s') (size : 128 + (j * 418 + 418) ≤ length index)
    (few : (s : Sort) (i : ℕ) → length (items_of s (scope_at book i)) ≤ limit s)
    (old : Parts bytes book index t (in_front m p)) where
  abbrev new : List ℕ
  new = with_record index j s' (count s' t) at

  counted_own : index_at new j (number s') ≡ count s' t + 1
  counted_own = count_own index j s' (count s' t) at row fits size

  counted_other : (s : Sort) (i : ℕ) → (i ≡ j → number s ≡ number s' → ⊥) → index_at new i (number s) ≡ index_at index i (number s)
  counted_other s i ne =
      let b = number_below s in
      let a = base_above s' in
      stored_other index j s' (count s' t) at row fits i (number s) ne (λ _ h. absurd (omega arith))

  placed_own : index_at new j (base s' + count s' t) ≡ at
  placed_own = place_own index j s' (count s' t) at row fits size

  placed_other : (s : Sort) (i n : ℕ) → (i ≡ j → base s + n ≡ base s' + count s' t → ⊥) → index_at new i (base s + n) ≡ index_at index i (base s + n)
  placed_other s i n ne =
      let b = number_below s' in
      let a = base_above s in
      stored_other index j s' (count s' t) at row fits i (base s + n) (λ _ h. absurd (omega arith)) ne

  -- what was left of the scope begins with this record
  left_own : drop (count s' t) (items_of s' (scope_at book j)) ≡ item s' m ∷ items_of s' p.opened
  left_own =
      rw (← (old s' j).current here)
      ((old s' j).left
      ∙ ap (items_of s') (rest_here (in_front m p) j t.scopes here)
      ∙ items_turn s' s' m p e
      ∙ rw (eq-eqb (number s') (number s') refl))

  longer : count s' t < length (items_of s' (scope_at book j))
  longer =
      let l = ap length left_own in
      let d = length-drop (count s' t) (items_of s' (scope_at book j)) in
      omega arith

  -- so it is the next item of its sort, and the others follow
  next_own : (d : Item s') → (get_or (items_of s' (scope_at book j)) (count s' t) d ≡ item s' m) × (drop (suc (count s' t)) (items_of s' (scope_at book j)) ≡ items_of s' p.opened)
  next_own d =
      let q = sym (drop-cons (items_of s' (scope_at book j)) (count s' t) d longer) ∙ left_own in
      (cc q, cc q)

  turned : Tally
  turned = counted (stage s') t

  scopes_same : turned.scopes ≡ t.scopes
  unfolding turned
  scopes_same = scopes_turn s' t

  own : Part bytes book new turned p s' j
  unfolding turned
  own =
      let sc = scopes_same in
      record {
        placed = λ n d h. at_own n d (rw counted_own at h);
        left =
            rw (counted_own, add-one (count s' t)) ((next_own (item s' m)).1 ∙ ap (items_of s') (sym (rest_here p j turned.scopes (here ∙ sym scopes_same))));
        most = rw counted_own (omega (arith, longer));
        current = λ h. counted_own ∙ sym (count_turn s' s' t ∙ rw (eq-eqb (number s') (number s') refl));
        later = λ h. absurd (omega arith);
      }
    where
      at_own : (n : ℕ) (d : Item s') → n < count s' t + 1 → Found (from s') (long s') bytes (index_at new j (base s' + n)) (get_or (items_of s' (scope_at book j)) n d)
      at_own n d h =
          ⊎_elim
          (λ (q : eqb n (count s' t) ≡ true).
          rw (eqb-true n (count s' t) q, placed_own, (next_own d).0) says)
          (λ (q : eqb n (count s' t) ≡ false).
          let ne = eqb-false n (count s' t) q in
          let c = (old s' j).current here in
          rw (placed_other s' j n (λ a b. ne (omega arith))) ((old s' j).placed n d (omega arith)))
          (decide (eqb n (count s' t)))

  module _ (s : Sort) (i : ℕ) (ne : i ≡ j → number s ≡ number s' → ⊥) where
    rest_same : items_of s (rest t.scopes (in_front m p) i) ≡ items_of s (rest turned.scopes p i)
    rest_same =
        rw scopes_same
        (⊎_elim
        (λ (q : eqb (suc i) t.scopes ≡ true).
        let h = eqb-true (suc i) t.scopes q in
        rw (rest_here (in_front m p) i t.scopes h, rest_here p i t.scopes h)
        (items_turn s s' m p e ∙ rw (ne_eqb (number s) (number s') (ne (omega arith)))))
        (λ (q : eqb (suc i) t.scopes ≡ false).
        ap (items_of s) (rest_kept (in_front m p) i p t.scopes (eqb-false (suc i) t.scopes q) (scopes_behind s' m p e)))
        (decide (eqb (suc i) t.scopes)))

    elsewhere : (n : ℕ) → n < index_at index i (number s) → i ≡ j → base s + n ≡ base s' + count s' t → ⊥
    elsewhere n h a b =
        let f = few s i in
        bases_apart s s' (ne a) n (count s' t) (omega (arith, (old s i).most)) fits b

    other : Part bytes book new turned p s i
    unfolding turned
    other =
        let same = counted_other s i ne in
        let sc = scopes_same in
        record {
          placed = λ n d h. let h' : n < index_at index i (number s) = omega arith in rw (placed_other s i n (elsewhere n h')) ((old s i).placed n d h');
          left = rw same ((old s i).left ∙ rest_same);
          most = rw same (old s i).most;
          current = λ h. same ∙ (old s i).current (omega arith) ∙ sym (count_turn s s' t ∙ rw (ne_eqb (number s) (number s') (ne (omega arith))));
          later = λ h. same ∙ (old s i).later (omega arith);
        }

  pub parts_turn : Parts bytes book new (counted (stage s') t) p
  unfolding turned
  parts_turn s i =
      ⊎_elim
      (λ (a : eqb i j ≡ true).
      ⊎_elim
      (λ (b : eqb (number s) (number s') ≡ true).
      rw (eqb-true i j a, same_sort s s' (eqb-true (number s) (number s') b)) own)
      (λ (b : eqb (number s) (number s') ≡ false). other s i (λ _ h. eqb-false (number s) (number s') b h))
      (decide (eqb (number s) (number s'))))
      (λ (a : eqb i j ≡ false). other s i (λ h _. eqb-false i j a h))
      (decide (eqb i j))
