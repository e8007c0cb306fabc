-- The rows and the places of the directory.
--     places_same, place_set                              places where the first numbers are the same, and where one is written
--     filled_same, filled-set, filled-bound, filled-room  how many scopes have a block
--     row_other, row-begin .. row-subs                    the row of a block whose numbers are written
--     entered_same, closed_same                           rows and places of closed blocks stay where later rows are written
--     row_room, sized_same                                the room of a row
-- Assumes nothing.
use Prim.Native.Nat.{ℕ, zero, suc, ◌+◌, ◌*◌, ◌<◌, ◌≤◌}
use mathlib.Core.Path.{◌≡◌, refl, sym, ◌∙◌}
use mathlib.Core.Bool.{true, false, cond}
use mathlib.Core.List.{List}
use mathlib.Core.Logic.{⊎_elim}
use native.Mathlib.Omega.{arith}
use native.Mathlib.Nat.{eq-or-lt_of_le}
use lib.ListN.{length, get_or, set, length-set}
use lib.Seq.{get_or-set_same, get_or-set_other}
use lib.Dec.{eqb, ltb}
use borrow.Author.Tests.{eq-eqb, ne_eqb, lt-ltb, ltb-true, eqb-true, eqb-false}
use Rattle.laws.proofs.Booleans.{decide}
use Rattle.directory.specs.Layout.{place_in, begin_in, end_in, body_in, block_weight, variables_in, sub_scopes_in, block_in, type_in}
use Rattle.directory.specs.Tabled.{block_at, block_count, Entered}
use Rattle.verifier.specs.Pass.{AreClosed, Head, Sized, filled}
use Rattle.verifier.specs.declared.Progress.{Progress}

-- Places

pub places_same : (d d' : List ℕ) → ((i : ℕ) → i < 32 → get_or d' i 0 ≡ get_or d i 0) → (i : ℕ) → place_in d' i ≡ place_in d i
unfolding place_in
places_same d d' same i =
    ⊎_elim
    (λ (q : ltb i 32 ≡ true). rw q (same i (ltb-true i 32 q)))
    (λ (q : ltb i 32 ≡ false). rw q refl)
    (decide (ltb i 32))

module _ (d : List ℕ) (s v : ℕ) (inside : s < length d) (low : s < 32) where
  pub place_set : (i : ℕ) → place_in (set d s v) i ≡ cond (eqb s i) v (place_in d i)
  unfolding place_in
  place_set i =
      ⊎_elim
      (λ (q : eqb s i ≡ true). rw (q, ← eqb-true s i q, lt-ltb s 32 low) (get_or-set_same d s v 0 inside))
      (λ (q : eqb s i ≡ false). rw (q, get_or-set_other d s i v 0 (λ e. eqb-false s i q (sym e))) refl)
      (decide (eqb s i))

  pub place_here : place_in (set d s v) s ≡ v
  place_here = place_set s ∙ rw (eq-eqb s s refl)

  pub place_other : (i : ℕ) → (s ≡ i → ⊥) → place_in (set d s v) i ≡ place_in d i
  place_other i ne = place_set i ∙ rw (ne_eqb s i ne)

pub filled_same : (d d' : List ℕ) (n : ℕ) → ((i : ℕ) → i < n → place_in d' i ≡ place_in d i) → filled d' n ≡ filled d n
unfolding filled
filled_same d d' zero same = refl
filled_same d d' (suc n) same = rw (same n (omega arith), filled_same d d' n (λ i h. same i (omega arith)))

-- one more place is filled
pub filled_set : (d d' : List ℕ) (s : ℕ) → place_in d s ≡ 0 → 0 < place_in d' s → ((i : ℕ) → (s ≡ i → ⊥) → place_in d' i ≡ place_in d i) → (n : ℕ) → s < n
    → filled d' n ≡ suc (filled d n)
unfolding filled
filled_set d d' s none some same zero h = absurd (omega arith)
filled_set d d' s none some same (suc n) h =
    ⊎_elim
    (λ (q : s ≡ n).
    let e = filled_same d d' n (λ i l. same i (λ z. omega arith)) in
    rw (← q, none, ne_eqb (place_in d' s) 0 (λ z. omega arith)) (rw q (omega arith)))
    (λ (q : s < n). let e = filled_set d d' s none some same n q in rw (same n (λ z. omega arith), e) (omega arith))
    (eq-or-lt_of_le {n = s} {m = n} (omega arith))

pub filled_bound : (d : List ℕ) (n : ℕ) → filled d n ≤ n
unfolding filled
filled_bound d zero = omega arith
filled_bound d (suc n) =
    let h = filled_bound d n in
    ⊎_elim (λ (q : eqb (place_in d n) 0 ≡ true). rw q (omega arith)) (λ (q : eqb (place_in d n) 0 ≡ false). rw q (omega arith))
    (decide (eqb (place_in d n) 0))

-- there is room where one place is 0
pub filled_room : (d : List ℕ) (s n : ℕ) → s < n → place_in d s ≡ 0 → filled d n < n
unfolding filled
filled_room d s zero h e = absurd (omega arith)
filled_room d s (suc n) h e =
    ⊎_elim
    (λ (q : s ≡ n). let b = filled_bound d n in rw (← q, e) (rw q (omega arith)))
    (λ (q : s < n).
    let r = filled_room d s n q e in
    ⊎_elim (λ (p : eqb (place_in d n) 0 ≡ true). rw p (omega arith)) (λ (p : eqb (place_in d n) 0 ≡ false). rw p (omega arith))
    (decide (eqb (place_in d n) 0)))
    (eq-or-lt_of_le {n = s} {m = n} (omega arith))

-- The row of block m, whose first five numbers are written

module _ (d : List ℕ) (m b e w v s : ℕ) where
  abbrev pub row_set : List ℕ
  row_set = set (set (set (set (set d (m * 45 + 32) b) (m * 45 + 33) e) (m * 45 + 34) w) (m * 45 + 35) v) (m * 45 + 36) s

  pub row_length : length row_set ≡ length d
  row_length = simp length-set refl

  pub row_other : (i : ℕ) → ((j : ℕ) → j < 5 → i ≡ m * 45 + 32 + j → ⊥) → get_or row_set i 0 ≡ get_or d i 0
  row_other i out =
      get_or-set_other (set (set (set (set d (m * 45 + 32) b) (m * 45 + 33) e) (m * 45 + 34) w) (m * 45 + 35) v) (m * 45 + 36) i s 0
      (λ z. out 4 (omega arith) (omega arith))
      ∙ get_or-set_other (set (set (set d (m * 45 + 32) b) (m * 45 + 33) e) (m * 45 + 34) w) (m * 45 + 35) i v 0
      (λ z. out 3 (omega arith) (omega arith))
      ∙ get_or-set_other (set (set d (m * 45 + 32) b) (m * 45 + 33) e) (m * 45 + 34) i w 0 (λ z. out 2 (omega arith) (omega arith))
      ∙ get_or-set_other (set d (m * 45 + 32) b) (m * 45 + 33) i e 0 (λ z. out 1 (omega arith) (omega arith))
      ∙ get_or-set_other d (m * 45 + 32) i b 0 (λ z. out 0 (omega arith) (omega arith))

  module _ (room : m * 45 + 77 ≤ length d) where
    abbrev d1 : List ℕ
    d1 = set d (m * 45 + 32) b

    abbrev d2 : List ℕ
    d2 = set d1 (m * 45 + 33) e

    abbrev d3 : List ℕ
    d3 = set d2 (m * 45 + 34) w

    abbrev d4 : List ℕ
    d4 = set d3 (m * 45 + 35) v

    last : (i x : ℕ) → (i ≡ m * 45 + 36 → ⊥) → get_or d4 i 0 ≡ x → get_or row_set i 0 ≡ x
    last i x ne h = get_or-set_other d4 (m * 45 + 36) i s 0 ne ∙ h

    third : (i x : ℕ) → i < m * 45 + 35 → get_or d3 i 0 ≡ x → get_or row_set i 0 ≡ x
    third i x low h = last i x (λ z. omega arith) (get_or-set_other d3 (m * 45 + 35) i v 0 (λ z. omega arith) ∙ h)

    second : (i x : ℕ) → i < m * 45 + 34 → get_or d2 i 0 ≡ x → get_or row_set i 0 ≡ x
    second i x low h = third i x (omega arith) (get_or-set_other d2 (m * 45 + 34) i w 0 (λ z. omega arith) ∙ h)

    pub row_begin : begin_in row_set m ≡ b
    unfolding begin_in
    row_begin =
        second (m * 45 + 32) b (omega arith)
        (get_or-set_other d1 (m * 45 + 33) (m * 45 + 32) e 0 (λ z. omega arith) ∙ get_or-set_same d (m * 45 + 32) b 0 (omega arith))

    pub row_end : end_in row_set m ≡ e
    unfolding end_in
    row_end = second (m * 45 + 33) e (omega arith) (get_or-set_same d1 (m * 45 + 33) e 0 (simp length-set (omega arith)))

    pub row_weight : block_weight row_set m ≡ w
    unfolding block_weight
    row_weight = third (m * 45 + 34) w (omega arith) (get_or-set_same d2 (m * 45 + 34) w 0 (simp length-set (omega arith)))

    pub row_variables : variables_in row_set m ≡ v
    unfolding variables_in
    row_variables = last (m * 45 + 35) v (λ z. omega arith) (get_or-set_same d3 (m * 45 + 35) v 0 (simp length-set (omega arith)))

    pub row_subs : sub_scopes_in row_set m ≡ s
    unfolding sub_scopes_in
    row_subs = get_or-set_same d4 (m * 45 + 36) s 0 (simp length-set (omega arith))

-- Rows that stay

module _ (code d d' : List ℕ) (p : ℕ) (small : (length (block_at code p).variables ≤ 32) × (length (block_at code p).sub_scopes ≤ 8))
    (same : (i : ℕ) → p * 45 + 32 ≤ i → i < p * 45 + 77 → get_or d' i 0 ≡ get_or d i 0) where
  pub weight_same : block_weight d' p ≡ block_weight d p
  unfolding block_weight
  weight_same = same (p * 45 + 34) (omega arith) (omega arith)

  pub entered_same : Entered code d p → Entered code d' p
  unfolding begin_in end_in body_in variables_in sub_scopes_in block_in type_in
  entered_same o =
      let x = same (p * 45 + 32) (omega arith) (omega arith) in
      let y = same (p * 45 + 33) (omega arith) (omega arith) in
      let b : (k : ℕ) → k < length (block_at code p).sub_scopes → get_or d' (p * 45 + 37 + k) 0 ≡ get_or d (p * 45 + 37 + k) 0
      = λ k l. same (p * 45 + 37 + k) (omega arith) (omega arith) in
      record {
        ordered = rw (x, y) o.ordered;
        inside = rw y o.inside;
        body = rw (x, y) o.body;
        declares =
            record {
              number = same (p * 45 + 35) (omega arith) (omega arith) ∙ o.declares.number;
              types = λ v l. rw (same (p * 45 + 45 + v) (omega arith) (omega arith)) (o.declares.types v l);
            };
        sub_scopes = same (p * 45 + 36) (omega arith) (omega arith) ∙ o.sub_scopes;
        earlier = λ k l. rw (b k l) (o.earlier k l);
        subs = λ k l. rw (b k l) (o.subs k l);
      }

pub closed_same : (code : List ℕ) (m : ℕ) (d d' : List ℕ) → AreClosed code m d → ((i : ℕ) → i < m * 45 + 32 → get_or d' i 0 ≡ get_or d i 0)
    → AreClosed code m d'
closed_same code m d d' c same =
    let place = places_same d d' (λ i h. same i (omega arith)) in
    let row : (p : ℕ) → p < m → (i : ℕ) → p * 45 + 32 ≤ i → i < p * 45 + 77 → get_or d' i 0 ≡ get_or d i 0 = λ p h i a b. same i (omega arith) in
    record {
      within = c.within;
      well_formed = c.well_formed;
      entered = λ p h. entered_same code d d' p (c.small p h) (row p h) (c.entered p h);
      found = λ p h. place (block_at code p).scope ∙ c.found p h;
      present = λ i h. rw (place i) (c.present i (rw (place i) at h));
      used = filled_same d d' 32 (λ i _. place i) ∙ c.used;
      small = c.small;
      known = λ i. rw (place i) (c.known i);
      weighed = λ p h. c.weighed p h ∙ sym (weight_same code d d' p (c.small p h) (row p h));
      light = λ p h. rw (weight_same code d d' p (c.small p h) (row p h)) (c.light p h);
      declared = c.declared;
    }

-- Room

-- a scope that has a place is one of 32
placed_small : (directory : List ℕ) (i : ℕ) → (place_in directory i ≡ 0 → ⊥) → i < 32
unfolding place_in
placed_small directory i n =
    ⊎_elim (λ q. ltb-true i 32 q) (λ (q : ltb i 32 ≡ false). absurd (rw q at n refl)) (decide (ltb i 32))

pub row_room : (code : List ℕ) (at : ℕ) (u : Progress) (directory ring : List ℕ) → Sized code directory ring → AreClosed code u.blocks directory → Head code at u
    → u.blocks * 45 + 77 ≤ length directory
unfolding block_count
row_room code at u directory ring s c h =
    s.room.rows u.blocks h.room h.present
    (λ q l.
    ⊎_elim
    (λ (e : q ≡ u.blocks). rw (e, ← h.scope) h.scope_small)
    (λ (k : q < u.blocks). placed_small directory (block_at code q).scope (λ z. let f = c.found q k in omega arith))
    (eq-or-lt_of_le {n = q} {m = u.blocks} l))

pub sized_same : (code d d' ring ring' : List ℕ) → length d' ≡ length d → length ring' ≡ length ring → Sized code d ring → Sized code d' ring'
sized_same code d d' ring ring' e f s =
    record {
      room = record { places = rw e s.room.places; rows = λ p a b c. rw e (s.room.rows p a b c) };
      ring_room = λ p h. rw f (s.ring_room p h);
    }
