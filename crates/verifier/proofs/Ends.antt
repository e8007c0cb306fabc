-- The end of a block: what is refused, and what holds after it.
--     reach_refused, weight-refused                        a landing past the end; a weight above the limit
--     leave_closed, leave-idle                             one more block is closed, or none was open
--     leave_bounds                                         the room for its row
-- Assumes nothing.
use Prim.Native.Nat.{ℕ, suc, ◌+◌, ◌-◌, ◌*◌, ◌%◌, ◌<◌, ◌≤◌}
use mathlib.Core.Path.{◌≡◌, refl, sym, ap, ◌∙◌}
use mathlib.Core.Bool.{true, false, cond, not}
use mathlib.Core.List.{List, [], ◌∷◌, ◌++◌, append-nil}
use mathlib.Core.Logic.{⊎_elim}
use native.Mathlib.Omega.{arith}
use lib.ListN.{length, get_or, take, drop, set, length-set}
use lib.Seq.{get_or-set_other, take_all}
use lib.Dec.{eqb, ltb}
use borrow.Author.Tests.{eq-eqb, ne_eqb, lt-ltb, ltb-false, eqb-true}
use Rattle.laws.proofs.Booleans.{decide}
use Rattle.book.specs.Lists.{any}
use Rattle.book.specs.Scopes.{sum}
use Rattle.machine.specs.Blocks.{Block, has_block, variables_of}
use Rattle.machine.specs.Acceptance.{weight_in, accepted}
use Rattle.directory.specs.Layout.{place_in, body_in, block_weight, block_in, type_in}
use Rattle.directory.specs.Tabled.{block_at, Entered}
use Rattle.verifier.specs.Pass.{Marks, earlier, AreClosed, Busy, Reading, Leaving, AllClosed}
use Rattle.verifier.specs.declared.Progress.{Progress}
use Rattle.verifier.proofs.Blocks.{refused, block_fits, Formed, formed, well_formed_lem, earlier_suc, all_fit_lem}
use Rattle.verifier.proofs.Turns.{drop_end}
use Rattle.verifier.proofs.Entries.{place_set, place_here, place_other, filled_set, row_set, row_length, row_other, row_begin, row_end, row_weight, row_variables, row_subs, weight_same, entered_same, closed_same, row_room, sized_same}
use Rattle.verifier.proofs.Ring.{end_refused, end_fits, end_quiet}
use Rattle.book.proofs.Searches.{any_none}
use native.Mathlib.Nat.{eq-or-lt_of_le}
use native.Mathlib.Numerals.{add-one}

-- The end of the present block

module _ (code : List ℕ) (at : ℕ) (u : Progress) (directory ring : List ℕ)
    (l : Leaving code at u directory ring) (opened : 1 ≤ u.stage) where
  abbrev r : Reading code at u directory ring
  r = l.reading

  abbrev b : Block
  b = block_at code u.blocks

  abbrev e : List Block
  e = earlier code u.blocks

  busy : Busy code at u directory ring
  busy = r.busy opened

  variables_are : length b.variables ≡ u.variables
  variables_are =
      let x = drop_end b.variables u.variables (busy.head.variables_left ∙ ap (λ (p : Block). p.variables) l.ended) in
      let y = busy.head.variables_read in
      omega arith

  subs_are : length b.sub_scopes ≡ u.subs
  subs_are =
      let x = drop_end b.sub_scopes u.subs (busy.head.subs_left ∙ ap (λ (p : Block). p.sub_scopes) l.ended) in
      let y = busy.head.subs_read in
      omega arith

  body_is : take (at - u.begin) (drop u.begin code) ≡ b.body
  body_is =
      sym (append-nil (take (at - u.begin) (drop u.begin code)))
      ∙ ap (λ (x : List ℕ). take (at - u.begin) (drop u.begin code) ++ x) (sym (ap (λ (p : Block). p.body) l.ended))
      ∙ busy.head.body

  marks : Marks e b [] at u.reach ring
  marks = rw (ap (λ (p : Block). p.body) l.ended) at busy.marks

  weight_sum : u.weight ≡ suc (sum (weight_in e) b.sub_scopes)
  weight_sum =
      let s = subs_are in
      busy.head.weight ∙ ap (λ (x : List ℕ). suc (sum (weight_in e) x)) (take_all u.subs b.sub_scopes (omega arith))

  weight_is : weight_in (b ∷ e) b.scope ≡ u.weight
  unfolding weight_in
  weight_is = rw (eq-eqb b.scope b.scope refl) (sym weight_sum)

  -- what is refused
  pub reach_refused : at < u.reach → accepted code ≡ false
  reach_refused h =
      refused code
      (λ a. end_refused e b at u.reach ring marks h (formed e b (block_fits code u.blocks busy.head.present a)).fit)

  pub weight_refused : 4096 < u.weight → accepted code ≡ false
  weight_refused h =
      refused code
      (λ a. let z = (formed e b (block_fits code u.blocks busy.head.present a)).light in let y = weight_is in omega arith)

  -- what holds after it
  module _ (still : u.reach ≤ at) (light : u.weight ≤ 4096) where
    is_formed : Formed e b
    is_formed =
        record {
          scope = rw busy.head.scope at busy.head.scope_small;
          fresh = rw busy.head.scope at busy.head.fresh;
          known = any_none (λ i. not (has_block e i)) b.sub_scopes 0 (λ k h. ap not (busy.head.known k (let s = subs_are in omega arith)));
          fit = end_fits e b at u.reach ring marks still;
          light = let y = weight_is in omega arith;
        }

    abbrev m : ℕ
    m = u.blocks

    by_block : (P : ℕ → Type 0) → P u.blocks → ((p : ℕ) → p < u.blocks → P p) → (p : ℕ) → p < suc u.blocks → P p
    by_block P new old p h =
        ⊎_elim
        (λ (q : p ≡ u.blocks). rw q new)
        (λ (q : p < u.blocks). old p q)
        (eq-or-lt_of_le {n = p} {m = u.blocks} (omega arith))

    -- the directory with the block's row, then with its place
    abbrev rows : List ℕ
    rows = row_set directory m u.begin at u.weight u.variables u.subs

    abbrev placed : List ℕ
    placed = set rows u.scope (suc m)

    room : m * 45 + 77 ≤ length directory
    room = row_room code at u directory ring r.sized r.closed busy.head

    row_above : (i : ℕ) → m * 45 + 37 ≤ i → get_or rows i 0 ≡ get_or directory i 0
    row_above i h = row_other directory m u.begin at u.weight u.variables u.subs i (λ j l z. omega arith)

    -- the rows of the blocks before, with the places as they were
    before : AreClosed code m rows
    before =
        closed_same code m directory rows r.closed
        (λ i h. row_other directory m u.begin at u.weight u.variables u.subs i (λ j l z. omega arith))

    small : (p : ℕ) → p < suc m → (length (block_at code p).variables ≤ 32) × (length (block_at code p).sub_scopes ≤ 8)
    small =
        by_block (λ p. (length (block_at code p).variables ≤ 32) × (length (block_at code p).sub_scopes ≤ 8))
        (let x = variables_are in let y = subs_are in let z = r.limited in (omega arith, omega arith))
        r.closed.small

    entered_here : Entered code rows m
    unfolding body_in block_in type_in
    entered_here =
        let n = r.inside in
        let g = busy.head.begun in
        let x = row_begin directory m u.begin at u.weight u.variables u.subs room in
        let y = row_end directory m u.begin at u.weight u.variables u.subs room in
        record {
          ordered = rw (x, y) g;
          inside = rw y n;
          body = rw (x, y) body_is;
          declares =
              record {
                number = row_variables directory m u.begin at u.weight u.variables u.subs room ∙ sym variables_are;
                types =
                    λ v h.
                    rw (row_above (m * 45 + 45 + v) (omega arith)) (busy.noted.types v (let x = variables_are in omega arith));
              };
          sub_scopes = row_subs directory m u.begin at u.weight u.variables u.subs room ∙ sym subs_are;
          earlier =
              λ k h.
              rw (row_above (m * 45 + 37 + k) (omega arith)) (busy.noted.earlier k (let x = subs_are in omega arith));
          subs =
              λ k h.
              rw (row_above (m * 45 + 37 + k) (omega arith)) (busy.noted.subs k (let x = subs_are in omega arith));
        }

    scope_in : u.scope < length rows
    scope_in =
        let n = row_length directory m u.begin at u.weight u.variables u.subs in
        let z = busy.head.scope_small in
        let y = r.sized.room.places in
        omega arith

    above : (i : ℕ) → 32 ≤ i → get_or placed i 0 ≡ get_or rows i 0
    above i h = get_or-set_other rows u.scope i (suc m) 0 (λ z. let y = busy.head.scope_small in omega arith)

    no_place_before : place_in rows u.scope ≡ 0
    no_place_before =
        let z = ltb-false 0 (place_in rows u.scope) (sym (before.known u.scope) ∙ busy.head.fresh) in
        omega arith

    place_at : (i : ℕ) → place_in placed i ≡ cond (eqb u.scope i) (suc m) (place_in rows i)
    place_at i = place_set rows u.scope (suc m) scope_in busy.head.scope_small i

    -- no block before is of the scope
    other_scope : (p : ℕ) → p < m → u.scope ≡ (block_at code p).scope → ⊥
    other_scope p h e =
        let f = before.found p h in
        let n = no_place_before in
        let y : place_in rows u.scope ≡ place_in rows (block_at code p).scope = ap (place_in rows) e in
        omega arith

    found_here : place_in placed b.scope ≡ suc m
    found_here = rw (← busy.head.scope) (place_here rows u.scope (suc m) scope_in busy.head.scope_small)

    found_before : (p : ℕ) → p < m → place_in placed (block_at code p).scope ≡ suc p
    found_before p h =
        place_other rows u.scope (suc m) scope_in busy.head.scope_small (block_at code p).scope (other_scope p h)
        ∙ before.found p h

    present_here : (i : ℕ) → 0 < place_in placed i → (place_in placed i ≤ suc m) × ((block_at code (place_in placed i - 1)).scope ≡ i)
    present_here i h =
        ⊎_elim
        (λ (q : eqb u.scope i ≡ true).
        let x : place_in placed i ≡ suc m = place_at i ∙ rw q in
        let z : suc m - 1 ≡ m = omega arith in
        rw x (omega arith, ap (λ (p : ℕ). (block_at code p).scope) z ∙ sym busy.head.scope ∙ eqb-true u.scope i q))
        (λ (q : eqb u.scope i ≡ false).
        let x : place_in placed i ≡ place_in rows i = place_at i ∙ rw q in
        let o = before.present i (rw x at h) in
        rw x (let z = o.0 in omega arith, o.1))
        (decide (eqb u.scope i))

    known_here : (i : ℕ) → has_block (b ∷ e) i ≡ ltb 0 (place_in placed i)
    unfolding has_block any
    known_here i =
        rw (place_at i, ← busy.head.scope)
        (⊎_elim
        (λ (q : eqb u.scope i ≡ true). rw q (sym (lt-ltb 0 (suc m) (omega arith))))
        (λ (q : eqb u.scope i ≡ false). rw q (before.known i))
        (decide (eqb u.scope i)))

    weight_here : block_weight rows m ≡ u.weight
    weight_here = row_weight directory m u.begin at u.weight u.variables u.subs room

    weight_placed : (p : ℕ) → p < suc m → block_weight placed p ≡ block_weight rows p
    weight_placed p h = weight_same code rows placed p (small p h) (λ i x y. above i (omega arith))

    weighed_before : (p : ℕ) → p < m → weight_in (b ∷ e) (block_at code p).scope ≡ block_weight rows p
    unfolding weight_in
    weighed_before p h =
        rw (ne_eqb b.scope (block_at code p).scope (λ z. other_scope p h (busy.head.scope ∙ z))) (before.weighed p h)

    declared_here : variables_of (b ∷ e) b.scope ≡ b.variables
    unfolding variables_of
    declared_here = rw (eq-eqb b.scope b.scope refl)

    declared_before : (p : ℕ) → p < m → variables_of (b ∷ e) (block_at code p).scope ≡ (block_at code p).variables
    unfolding variables_of
    declared_before p h =
        rw (ne_eqb b.scope (block_at code p).scope (λ z. other_scope p h (busy.head.scope ∙ z))) (before.declared p h)

    closed_more : AreClosed code (suc m) placed
    closed_more =
        let s = earlier_suc code m busy.head.present in
        record {
          within = let z = busy.head.present in omega arith;
          well_formed = all_fit_lem code m busy.head.present (well_formed_lem e b is_formed) r.closed.well_formed;
          entered =
              λ p h.
              entered_same code rows placed p (small p h) (λ i x y. above i (omega arith)) (by_block (Entered code rows) entered_here before.entered p h);
          found = by_block (λ p. place_in placed (block_at code p).scope ≡ suc p) found_here found_before;
          present = present_here;
          used =
              filled_set rows placed u.scope no_place_before (rw (place_here rows u.scope (suc m) scope_in busy.head.scope_small) (omega arith))
              (place_other rows u.scope (suc m) scope_in busy.head.scope_small) 32 busy.head.scope_small ∙ ap suc before.used;
          small = small;
          known = λ i. ap (λ (x : List Block). has_block x i) s ∙ known_here i;
          weighed =
              λ p h.
              ap (λ (x : List Block). weight_in x (block_at code p).scope) s
              ∙ by_block (λ q. weight_in (b ∷ e) (block_at code q).scope ≡ block_weight rows q) (weight_is ∙ sym weight_here) weighed_before p h
              ∙ sym (weight_placed p h);
          light =
              λ p h. rw (weight_placed p h) (by_block (λ q. block_weight rows q ≤ 4096) (rw weight_here light) before.light p h);
          declared =
              λ p h.
              ap (λ (x : List Block). variables_of x (block_at code p).scope) s
              ∙ by_block (λ q. variables_of (b ∷ e) (block_at code q).scope ≡ (block_at code q).variables) declared_here declared_before p h;
        }

    pub leave_closed : AllClosed code at (u.blocks + 1)
        (set (row_set directory u.blocks u.begin at u.weight u.variables u.subs) u.scope (u.blocks + 1)) (set ring (at % 65536) 0)
    leave_closed =
        rw (add-one u.blocks)
        (record {
          sized =
              sized_same code directory placed ring (set ring (at % 65536) 0)
              (length-set rows u.scope (suc m) ∙ row_length directory m u.begin at u.weight u.variables u.subs)
              (length-set ring (at % 65536) 0) r.sized;
          closed = closed_more;
          idle = record { later = busy.head.later; quiet = end_quiet e b at u.reach ring marks still (r.sized.ring_room at r.inside) };
        })

pub leave_idle : (code : List ℕ) (at : ℕ) (u : Progress) (directory ring : List ℕ)
    → Leaving code at u directory ring → u.stage ≡ 0 → AllClosed code at u.blocks directory ring
leave_idle code at u directory ring l z =
    record { sized = l.reading.sized; closed = l.reading.closed; idle = l.reading.idle z }

-- the room for the block's row
pub record LeaveRoom (at : ℕ) (u : Progress) (directory ring : List ℕ) : Type 0 where
  pub blocks : u.blocks < 32
  pub scope : u.scope < 32
  pub row : u.blocks * 45 + 77 ≤ length directory
  pub ring_room : at % 65536 < length ring

pub leave_bounds : (code : List ℕ) (at : ℕ) (u : Progress) (directory ring : List ℕ)
    → Leaving code at u directory ring → (u.stage ≡ 0 → ⊥) → LeaveRoom at u directory ring
leave_bounds code at u directory ring l n =
    let r = l.reading in
    let h = (r.busy (omega arith)).head in
    record { blocks = h.room; scope = h.scope_small; row = row_room code at u directory ring r.sized r.closed h; ring_room = r.sized.ring_room at r.inside }
