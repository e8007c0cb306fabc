-- The marks of the landings that lie ahead.
--     passed_none, passed-hit, passed-more,
--     passed_first                            the search for a mark
--     lands_short                             no landing lies past the bytes
--     back_fits, back_inside                  what a block that fits says of its next instruction
--     moved_on, marks-next                    the landings after an instruction
--     quiet_next, marks-quiet                 a ring without marks
--     end_refused, end_fits, end_quiet        the end of a block
-- Assumes nothing.
use Prim.Native.Nat.{ℕ, zero, suc, ◌+◌, ◌-◌, ◌%◌, ◌<◌, ◌≤◌}
use mathlib.Core.Path.{◌≡◌, refl, sym, ap, ◌∙◌}
use mathlib.Core.Bool.{true, false, ◌&&◌, true≢false, false≢true}
use mathlib.Core.List.{List, [], ◌∷◌, ◌++◌}
use mathlib.Core.Logic.{◌⊎◌, inl, inr, ⊎_elim}
use native.Mathlib.Omega.{arith}
use native.Mathlib.Nat.{eq-or-lt_of_le}
use lib.ListN.{length, get_or, set, length-set}
use lib.Seq.{get_or-set_same, get_or-set_other, drop_at}
use lib.Dec.{eqb, ltb}
use borrow.Author.Tests.{eqb-true, eqb-false, ltb-true, ltb-false}
use Rattle.laws.proofs.Booleans.{decide, both}
use Rattle.machine.specs.Blocks.{Block, body_length}
use Rattle.machine.specs.Instructions.{instruction_of}
use Rattle.machine.specs.Acceptance.{lands, fits, all_fit}
use Rattle.verifier.specs.Instructions.{farthest, reach_after, ring_after}
use Rattle.machine.proofs.Landing.{lands_here}
use Rattle.verifier.specs.Pass.{mark, Marked, Quiet, Passed, AllLand, Marks}

-- the search for a mark
module _ (ring : List ℕ) (from : ℕ) where
  pub passed_none : (end at : ℕ) → end ≤ at → ((d : ℕ) → from ≤ d → d < at → mark ring d ≡ 0) → Passed ring from end true
  passed_none end at h clear = record { clear = λ _ d a b. clear d a (omega arith); hit = λ e. absurd (true≢false e) }

  pub passed_hit : (end at : ℕ) → from ≤ at → at < end → (get_or ring (at % 65536) 0 ≡ 0 → ⊥) → Passed ring from end false
  unfolding mark
  passed_hit end at h l ne = record { clear = λ e. absurd (false≢true e); hit = λ _. (at, h, l, omega arith) }

  -- none before the first byte
  pub passed_first : (d : ℕ) → from ≤ d → d < from → mark ring d ≡ 0
  passed_first d a b = absurd (omega arith)

  pub passed_more : (at on : ℕ) → on ≡ at + 1 → ((d : ℕ) → from ≤ d → d < at → mark ring d ≡ 0) → get_or ring (at % 65536) 0 ≡ 0
      → (d : ℕ) → from ≤ d → d < on → mark ring d ≡ 0
  unfolding mark
  passed_more at on next clear e d a b = ⊎_elim (λ (q : d ≡ at). rw q e) (λ (q : d < at). clear d a q) (eq-or-lt_of_le {n = d} {m = at} (omega arith))

-- Passing an instruction's bytes

lands_pass : (bs left : List ℕ) (n d e : ℕ) → length bs ≡ n → d ≡ n + e → lands (bs ++ left) n d ≡ lands left 0 e
unfolding lands
lands_pass [] left zero d e l q = let z : d ≡ e = omega arith in ap (lands left 0) z
lands_pass [] left (suc n) d e l q = absurd (omega arith)
lands_pass (x ∷ bs) left zero d e l q = absurd (omega arith)
lands_pass (x ∷ bs) left (suc n) zero e l q = absurd (omega arith)
lands_pass (x ∷ bs) left (suc n) (suc d) e l q = lands_pass bs left n d e (omega arith) (omega arith)

lands_inside : (bs left : List ℕ) (n d : ℕ) → length bs ≡ n → d < n → lands (bs ++ left) n d ≡ false
unfolding lands
lands_inside [] left zero d l q = absurd (omega arith)
lands_inside [] left (suc n) d l q = absurd (omega arith)
lands_inside (x ∷ bs) left zero d l q = absurd (omega arith)
lands_inside (x ∷ bs) left (suc n) zero l q = refl
lands_inside (x ∷ bs) left (suc n) (suc d) l q = lands_inside bs left n d (omega arith) (omega arith)

-- no distance lands past the bytes
pub lands_short : (xs : List ℕ) (n d : ℕ) → lands xs n d ≡ true → d ≤ length xs
unfolding lands
lands_short [] n zero e = omega arith
lands_short [] n (suc d) e = absurd (false≢true e)
lands_short (x ∷ xs) zero zero e = omega arith
lands_short (x ∷ xs) zero (suc d) e = let h = lands_short xs (body_length x) d e in omega arith
lands_short (x ∷ xs) (suc n) zero e = absurd (false≢true e)
lands_short (x ∷ xs) (suc n) (suc d) e = let h = lands_short xs n d e in omega arith

pub lands_past : (d : ℕ) → 0 < d → lands [] 0 d ≡ false
unfolding lands
lands_past zero h = absurd (omega arith)
lands_past (suc d) h = refl

-- an instruction k with the body bs, in front of others
module _ (k : ℕ) (bs left : List ℕ) (whole : length bs ≡ body_length k) where
  lands_over : (d e : ℕ) → d ≡ suc (length bs + e) → lands (k ∷ bs ++ left) 0 d ≡ lands left 0 e
  unfolding lands
  lands_over zero e q = absurd (omega arith)
  lands_over (suc d) e q = lands_pass bs left (body_length k) d e whole (omega arith)

  lands_in : (d : ℕ) → 0 < d → d ≤ length bs → lands (k ∷ bs ++ left) 0 d ≡ false
  unfolding lands
  lands_in zero h q = absurd (omega arith)
  lands_in (suc d) h q = lands_inside bs left (body_length k) d whole (omega arith)

  module _ (earlier : List Block) (b : Block) where
    fit_skip : (xs : List ℕ) (n : ℕ) → length xs ≡ n → all_fit earlier b (xs ++ left) n ≡ all_fit earlier b left 0
    unfolding all_fit
    fit_skip [] zero l = refl
    fit_skip [] (suc n) l = absurd (omega arith)
    fit_skip (x ∷ xs) zero l = absurd (omega arith)
    fit_skip (x ∷ xs) (suc n) l = fit_skip xs n (omega arith)

    fit_over : all_fit earlier b (k ∷ bs ++ left) 0 ≡ (fits earlier b (instruction_of k (bs ++ left)) left && all_fit earlier b left 0)
    unfolding all_fit
    fit_over = rw (drop_at bs left (body_length k) whole, fit_skip bs (body_length k) whole)

    module _ (at reach : ℕ) (ring : List ℕ) (m : Marks earlier b (k ∷ bs ++ left) at reach ring) where
      -- of a block that fits, the instruction fits
      pub back_fits : all_fit earlier b b.body 0 ≡ true → fits earlier b (instruction_of k (bs ++ left)) left ≡ true
      back_fits e = (both (fits earlier b (instruction_of k (bs ++ left)) left) (all_fit earlier b left 0) (sym fit_over ∙ (m.back e).1)).0

      -- and no landing lies in its body
      pub back_inside : (d : ℕ) → at + 1 ≤ d → d < at + 1 + length bs → length bs < 65536 → 0 < mark ring d → all_fit earlier b b.body 0 ≡ true → ⊥
      back_inside d h l w s e =
          false≢true
          (sym (lands_in (d - at) (omega arith) (omega arith))
          ∙ (m.back e).0 d (record { from = omega arith; window = omega arith; set = s }))

-- The ring after an instruction: its own mark is cleared, and its landing is marked if it has a distance

-- the marks from the next record on are those of the old ring, and that of a landing d ahead
pub record Moved (ring after : List ℕ) (at next d : ℕ) : Type 0 where
  pub kept : (p : ℕ) → next ≤ p → Marked ring at p → Marked after next p
  pub came : (p : ℕ) → Marked after next p → (p ≡ next + d) ⊎ Marked ring at p
  pub landed : 0 < d → Marked after next (next + d)

module _ (ring : List ℕ) (at next : ℕ) (size : at % 65536 < length ring) (low : at < next) (high : next ≤ at + 65536)
    (clear : (p : ℕ) → at + 1 ≤ p → p < next → mark ring p ≡ 0) where
  abbrev cleared : List ℕ
  cleared = set ring (at % 65536) 0

  other : (p : ℕ) → (p % 65536 ≡ at % 65536 → ⊥) → mark cleared p ≡ mark ring p
  unfolding mark
  other p ne = get_or-set_other ring (at % 65536) (p % 65536) 0 0 ne

  own : (p : ℕ) → p % 65536 ≡ at % 65536 → mark cleared p ≡ 0
  unfolding mark
  own p e = rw e (get_or-set_same ring (at % 65536) 0 0 size)

  -- a position past the old window has the place of one that was passed
  shifted : (p : ℕ) → at + 65536 ≤ p → mark ring (p - 65536) ≡ mark ring p
  unfolding mark
  shifted p h = let e : (p - 65536) % 65536 ≡ p % 65536 = omega arith in rw e

  next_of : (a b : ℕ) → a ≤ b → (b ≡ a → ⊥) → a + 1 ≤ b
  next_of a b h ne = omega arith

  past : (p : ℕ) → next ≤ p → p < next + 65536 → (p % 65536 ≡ at % 65536 → ⊥) → 0 < mark ring p → at + 65536 ≤ p → ⊥
  past p a b ne s h =
      ⊎_elim
      (λ (q : eqb (p - 65536) at ≡ true). ne (let r = eqb-true (p - 65536) at q in omega arith))
      (λ (q : eqb (p - 65536) at ≡ false).
      let l : at + 1 ≤ p - 65536 = next_of at (p - 65536) (omega arith) (eqb-false (p - 65536) at q) in
      let z = clear (p - 65536) l (omega arith) in
      let y = shifted p h in
      omega arith)
      (decide (eqb (p - 65536) at))

  within : (p : ℕ) → next ≤ p → p < next + 65536 → (p % 65536 ≡ at % 65536 → ⊥) → 0 < mark ring p → p < at + 65536
  within p a b ne s =
      ⊎_elim
      (λ (q : ltb p (at + 65536) ≡ true). ltb-true p (at + 65536) q)
      (λ (q : ltb p (at + 65536) ≡ false). absurd (past p a b ne s (ltb-false p (at + 65536) q)))
      (decide (ltb p (at + 65536)))

  apart : (p : ℕ) → p < at + 65536 → next ≤ p → p % 65536 ≡ at % 65536 → ⊥
  apart p a b e = omega arith

  kept_on : (p : ℕ) → next ≤ p → Marked ring at p → Marked cleared next p
  kept_on p a m =
      let w = m.window in
      let h = other p (apart p w a) in
      let s = m.set in
      record { from = a; window = omega arith; set = omega arith }

  came_on : (p : ℕ) → Marked cleared next p → Marked ring at p
  came_on p m =
      let s = m.set in
      let f = m.from in
      let ne : p % 65536 ≡ at % 65536 → ⊥ = λ e. (let z = own p e in omega arith) in
      let h = other p ne in
      let t : 0 < mark ring p = omega arith in
      record { from = omega arith; window = within p f m.window ne t; set = t }

-- and then marked
module _ (ring mid : List ℕ) (at next d : ℕ) (size : (next + d) % 65536 < length mid) (small : d < 65536)
    (old_kept : (p : ℕ) → next ≤ p → Marked ring at p → Marked mid next p) (old_came : (p : ℕ) → Marked mid next p → Marked ring at p) where
  abbrev marked : List ℕ
  marked = set mid ((next + d) % 65536) 1

  same_landing : (p : ℕ) → next ≤ p → p < next + 65536 → p % 65536 ≡ (next + d) % 65536 → p ≡ next + d
  same_landing p a b e = omega arith

  hit_landing : mark marked (next + d) ≡ 1
  unfolding mark
  hit_landing = get_or-set_same mid ((next + d) % 65536) 1 0 size

  else_same : (p : ℕ) → (p % 65536 ≡ (next + d) % 65536 → ⊥) → mark marked p ≡ mark mid p
  unfolding mark
  else_same p ne = get_or-set_other mid ((next + d) % 65536) (p % 65536) 1 0 ne

  here : Marked marked next (next + d)
  here = let h = hit_landing in record { from = omega arith; window = omega arith; set = omega arith }

  keeps : (p : ℕ) → Marked mid next p → Marked marked next p
  keeps p m =
      ⊎_elim
      (λ (q : eqb (p % 65536) ((next + d) % 65536) ≡ true).
      rw (same_landing p m.from m.window (eqb-true (p % 65536) ((next + d) % 65536) q)) here)
      (λ (q : eqb (p % 65536) ((next + d) % 65536) ≡ false).
      let h = else_same p (eqb-false (p % 65536) ((next + d) % 65536) q) in
      let s = m.set in
      record { from = m.from; window = m.window; set = omega arith })
      (decide (eqb (p % 65536) ((next + d) % 65536)))

  comes : (p : ℕ) → Marked marked next p → (p ≡ next + d) ⊎ Marked ring at p
  comes p m =
      ⊎_elim
      (λ (q : eqb (p % 65536) ((next + d) % 65536) ≡ true).
      inl (same_landing p m.from m.window (eqb-true (p % 65536) ((next + d) % 65536) q)))
      (λ (q : eqb (p % 65536) ((next + d) % 65536) ≡ false).
      let h = else_same p (eqb-false (p % 65536) ((next + d) % 65536) q) in
      let s = m.set in
      let old : Marked mid next p = record { from = m.from; window = m.window; set = omega arith } in
      inr (old_came p old))
      (decide (eqb (p % 65536) ((next + d) % 65536)))

  mark_moved : Moved ring marked at next d
  mark_moved = record { kept = λ p a m. keeps p (old_kept p a m); came = comes; landed = λ _. here }

module _ (ring : List ℕ) (at next d : ℕ) (size : (at % 65536 < length ring) × ((next + d) % 65536 < length ring)) (low : at < next)
    (high : next ≤ at + 65536) (small : d < 65536) (clear : (p : ℕ) → at + 1 ≤ p → p < next → mark ring p ≡ 0) where
  pub moved_on : Moved ring (ring_after ring at next d) at next d
  unfolding ring_after
  moved_on =
      ⊎_elim
      (λ (q : eqb d 0 ≡ true).
      rw q
      (record {
        kept = kept_on ring at next size.0 low high clear;
        came = λ p m. inr (came_on ring at next size.0 low high clear p m);
        landed = λ h. absurd (let z = eqb-true d 0 q in omega arith);
      }))
      (λ (q : eqb d 0 ≡ false).
      rw q
      (mark_moved ring (set ring (at % 65536) 0) at next d (rw length-set size.1) small (kept_on ring at next size.0 low high clear)
      (came_on ring at next size.0 low high clear)))
      (decide (eqb d 0))

-- the landings after an instruction whose numbers name something
module _ (k : ℕ) (bs left : List ℕ) (whole : length bs ≡ body_length k) (earlier : List Block) (b : Block) (at next reach d : ℕ) (ring after : List ℕ)
    (moved : Moved ring after at next d) (passed : next ≡ at + 1 + length bs)
    (m : Marks earlier b (k ∷ bs ++ left) at reach ring)
    (clear : (p : ℕ) → at + 1 ≤ p → p < next → mark ring p ≡ 0)
    (fit : fits earlier b (instruction_of k (bs ++ left)) left ≡ lands left 0 d) where
  -- an old landing lies at the instruction, or ahead of it
  old_lands : AllLand after next left → AllLand ring at (k ∷ bs ++ left)
  old_lands all p o =
      ⊎_elim
      (λ (q : ltb p next ≡ true).
      let l = ltb-true p next q in
      ⊎_elim
      (λ (r : eqb p at ≡ true).
      let e : p - at ≡ 0 = let z = eqb-true p at r in omega arith in
      rw e (lands_here (k ∷ bs ++ left)))
      (λ (r : eqb p at ≡ false).
      let z = clear p (after_at p at o.from (eqb-false p at r)) l in
      let s = o.set in
      absurd (omega arith))
      (decide (eqb p at)))
      (λ (q : ltb p next ≡ false).
      let l = ltb-false p next q in
      lands_over k bs left whole (p - at) (p - next) (omega arith)
      ∙ all p (moved.kept p l o))
      (decide (ltb p next))
    where
      after_at : (p at : ℕ) → at ≤ p → (p ≡ at → ⊥) → at + 1 ≤ p
      after_at p at h ne = omega arith

  new_lands : AllLand ring at (k ∷ bs ++ left) → lands left 0 d ≡ true → AllLand after next left
  new_lands all here p n =
      ⊎_elim
      (λ (e : p ≡ next + d). let z : p - next ≡ d = omega arith in rw z here)
      (λ (o : Marked ring at p).
      let f = n.from in
      sym (lands_over k bs left whole (p - at) (p - next) (omega arith)) ∙ all p o)
      (moved.came p n)

  -- its own landing is met
  own_lands : AllLand after next left → lands left 0 d ≡ true
  own_lands all =
      ⊎_elim
      (λ (q : eqb d 0 ≡ true). rw (eqb-true d 0 q) (lands_here left))
      (λ (q : eqb d 0 ≡ false).
      let z : next + d - next ≡ d = omega arith in
      sym (ap (lands left 0) z) ∙ all (next + d) (moved.landed (let n = eqb-false d 0 q in omega arith)))
      (decide (eqb d 0))

  -- the farthest landing
  bound_on : (p : ℕ) → Marked after next p → p ≤ next + (reach_after reach next d - next)
  unfolding reach_after farthest
  bound_on p n =
      let f = n.from in
      ⊎_elim
      (λ (e : p ≡ next + d).
      ⊎_elim
      (λ (q : eqb d 0 ≡ true). let z = eqb-true d 0 q in omega arith)
      (λ (q : eqb d 0 ≡ false).
      ⊎_elim
      (λ (r : ltb reach (next + d) ≡ true). rw (q, r) (omega arith))
      (λ (r : ltb reach (next + d) ≡ false). let z = ltb-false reach (next + d) r in rw (q, r) (omega arith))
      (decide (ltb reach (next + d))))
      (decide (eqb d 0)))
      (λ (o : Marked ring at p).
      let y = m.bound p o in
      ⊎_elim
      (λ (q : eqb d 0 ≡ true). rw q (omega arith))
      (λ (q : eqb d 0 ≡ false).
      ⊎_elim
      (λ (r : ltb reach (next + d) ≡ true). let z = ltb-true reach (next + d) r in rw (q, r) (omega arith))
      (λ (r : ltb reach (next + d) ≡ false). rw (q, r) (omega arith))
      (decide (ltb reach (next + d))))
      (decide (eqb d 0)))
      (moved.came p n)

  old_reached : next < reach → Marked after next reach
  old_reached h = moved.kept reach (omega arith) (m.reached (omega arith))

  reached_on : next < reach_after reach next d → Marked after next (reach_after reach next d)
  unfolding reach_after farthest
  reached_on =
      ⊎_elim
      (λ (q : eqb d 0 ≡ true). rw q (λ h. old_reached h))
      (λ (q : eqb d 0 ≡ false).
      ⊎_elim
      (λ (r : ltb reach (next + d) ≡ true). rw (q, r) (λ h. moved.landed (omega arith)))
      (λ (r : ltb reach (next + d) ≡ false). rw (q, r) (λ h. old_reached h))
      (decide (ltb reach (next + d))))
      (decide (eqb d 0))

  pub marks_next : Marks earlier b left next (reach_after reach next d) after
  marks_next =
      record {
        onward = λ all e. m.onward (old_lands all) (fit_over k bs left whole earlier b ∙ rw (fit, own_lands all) e);
        back =
            λ e.
            let q = both (fits earlier b (instruction_of k (bs ++ left)) left) (all_fit earlier b left 0)
            (sym (fit_over k bs left whole earlier b) ∙ (m.back e).1) in
            (new_lands (m.back e).0 (sym fit ∙ q.0), q.1);
        bound = bound_on;
        reached = reached_on;
      }

-- A ring without marks

pub quiet_next : (ring : List ℕ) (at next : ℕ) → at ≤ next → next ≤ at + 65536 → Quiet ring at → Quiet ring next
unfolding mark
quiet_next ring at next low high quiet p m =
    ⊎_elim
    (λ (q : ltb p (at + 65536) ≡ true). let l = ltb-true p (at + 65536) q in let f = m.from in quiet p
    (record { from = omega arith; window = l; set = m.set }))
    (λ (q : ltb p (at + 65536) ≡ false).
    let l = ltb-false p (at + 65536) q in
    let w = m.window in
    let e : (p - 65536) % 65536 ≡ p % 65536 = omega arith in
    quiet (p - 65536) (record { from = omega arith; window = omega arith; set = rw e m.set }))
    (decide (ltb p (at + 65536)))

pub marks_quiet : (earlier : List Block) (b : Block) (left : List ℕ) (at reach : ℕ) (ring : List ℕ) → Quiet ring at → reach ≡ 0 → left ≡ b.body
    → Marks earlier b left at reach ring
marks_quiet earlier b left at reach ring quiet r e =
    record {
      onward = λ all f. ap (λ (l : List ℕ). all_fit earlier b l 0) (sym e) ∙ f;
      back = λ f. (λ p m. absurd (quiet p m), ap (λ (l : List ℕ). all_fit earlier b l 0) e ∙ f);
      bound = λ p m. absurd (quiet p m);
      reached = λ h. absurd (omega arith);
    }

-- the end of a block
module _ (earlier : List Block) (b : Block) (at reach : ℕ) (ring : List ℕ) (m : Marks earlier b [] at reach ring) where
  pub end_refused : at < reach → all_fit earlier b b.body 0 ≡ true → ⊥
  end_refused h e = false≢true (sym (lands_past (reach - at) (omega arith)) ∙ (m.back e).0 reach (m.reached h))

  only : reach ≤ at → (p : ℕ) → Marked ring at p → p ≡ at
  only e p o = let z = m.bound p o in let f = o.from in omega arith

  pub end_fits : reach ≤ at → all_fit earlier b b.body 0 ≡ true
  unfolding all_fit
  end_fits e = m.onward (λ p o. let z : p - at ≡ 0 = let y = only e p o in omega arith in rw z (lands_here [])) refl

  pub end_quiet : reach ≤ at → at % 65536 < length ring → Quiet (set ring (at % 65536) 0) at
  unfolding mark
  end_quiet e size p o =
      ⊎_elim
      (λ (q : eqb (p % 65536) (at % 65536) ≡ true).
      let s = o.set in
      let z : get_or (set ring (at % 65536) 0) (p % 65536) 0 ≡ 0 =
      rw (eqb-true (p % 65536) (at % 65536) q) (get_or-set_same ring (at % 65536) 0 0 size) in
      omega arith)
      (λ (q : eqb (p % 65536) (at % 65536) ≡ false).
      let ne = eqb-false (p % 65536) (at % 65536) q in
      let s : 0 < get_or ring (p % 65536) 0 = rw (get_or-set_other ring (at % 65536) (p % 65536) 0 0 ne) at o.set in
      ne (ap (λ (x : ℕ). x % 65536) (only e p (record { from = o.from; window = o.window; set = s }))))
      (decide (eqb (p % 65536) (at % 65536)))
