-- The record at a position, as the code takes it, against `step_at`; and what reading on does.
--     step_record       what stands at a position, as the pass takes it; whole-record, of a whole record where it ends
--     read              what a record that does not stop the pass leaves; ends_at, where it ends
--     records_at        the records from a position on
--     scan_stop, scan-next, scan-end    the pass from a position on, after each outcome
-- Assumes nothing.
use Prim.Native.Nat.{ℕ, zero, suc, ◌+◌, ◌-◌, ◌≤◌, ◌<◌}
use mathlib.Core.Path.{◌≡◌, refl, sym, ap, ◌∙◌}
use mathlib.Core.Bool.{Bool, true, false, not, cond, ◌&&◌, ◌||◌}
use mathlib.Core.List.{List, [], ◌∷◌}
use native.Mathlib.Omega.{arith}
use native.Mathlib.Numerals.{add-one}
use lib.ListN.{length, get_or, drop, length-drop, drop_of_length-le}
use lib.Seq.{drop-cons, drop-drop}
use lib.Dec.{eqb, ltb}
use borrow.Author.Tests.{eqb-false, lt-ltb, ltb-true, ltb-false}
use Rattle.std.specs.Prelude.{Option, None, Some, Result, Ok, Err}
use Rattle.record.specs.Kinds.{shape_in}
use Rattle.record.specs.declared.Medium.TheVariants.{Book}
use Rattle.record.specs.Record.{pick_record, record_at, body_at}
use Rattle.record.specs.declared.Record.{Record}
use Rattle.record.specs.declared.Record.TheVariants.{End, Unknown, Whole}
use Rattle.record.specs.declared.Record.TheVariants.{Truncated as Record-as-Truncated}
use Rattle.book.specs.declared.Tally.{Tally}
use Rattle.answers.specs.declared.Fault.{Fault}
use Rattle.answers.specs.declared.Fault.TheVariants.{Truncated, UnknownKind, OutOfOrder, LimitExceeded, InvalidByte}
use Rattle.book.specs.Records.{Met, stage_of, counted, records_from, follows, exceeds, invalid, unknown_kind, truncated, out_of_order, limit_exceeded, invalid_byte}
use Rattle.book.specs.Judge.{scan}
use Rattle.book.proofs.Shapes.{stage_below}
use Rattle.book.proofs.Sound.{Clean, in_limits}
use Rattle.scan.specs.declared.Passed.{Passed}
use Rattle.book.specs.Limits.{InLimits}
use Rattle.scan.specs.Counting.{tally_of}
use Rattle.scan.specs.Step.{passed, book_record_at, end_at, step_of, met_at, step_at, step_over}

-- what stands at a position, as the pass takes it
abbrev pub by_record : List ℕ → ℕ → ℕ → List ℕ → ℕ → ℕ → Record → Result Passed Fault
by_record index last scopes s at next End = Err Truncated
by_record index last scopes s at next Unknown = Err UnknownKind
by_record index last scopes s at next Record-as-Truncated = Err Truncated
by_record index last scopes s at next (Whole k st n) = step_over index last scopes k st next (body_at s at n)

module _ (index : List ℕ) (last scopes : ℕ) (s : List ℕ) (at next k st n : ℕ) where
  by_tests : (a b : Bool)
      → by_record index last scopes s at next (pick_record a Unknown (pick_record b Record-as-Truncated (Whole k st n)))
      ≡ cond a (Err UnknownKind)
      (cond b (Err Truncated)
      (cond (not (a || follows last st)) (Err OutOfOrder)
      (cond (exceeds (counted st (tally_of index last scopes))) (Err LimitExceeded)
      (cond (not b && invalid k (body_at s at n)) (Err InvalidByte)
      (Ok (passed st next))))))
  unfolding step_over
  by_tests true b = refl
  by_tests false true = refl
  by_tests false false = refl

pub step_record : (book : List ℕ) (at : ℕ) (index : List ℕ) (last scopes : ℕ) → at < length book
    → by_record index last scopes book at (end_at book at (shape_in Book (get_or book at 0)).length) (record_at Book book at) ≡ step_at book at (tally_of index last scopes)
unfolding step_at step_of record_at met_at tally_of body_at
step_record book at index last scopes h =
    rw (lt-ltb at (length book) h, length-drop (at + 1) book)
    (by_tests index last scopes book at (end_at book at (shape_in Book (get_or book at 0)).length) (get_or book at 0) (shape_in Book (get_or book at 0)).stage (shape_in Book (get_or book at 0)).length
    (eqb (shape_in Book (get_or book at 0)).stage 0) (ltb (length book - (at + 1)) (shape_in Book (get_or book at 0)).length))

pub as_record : (book : List ℕ) (at : ℕ) (r : Record) → r ≡ book_record_at book at → r ≡ record_at Book book at
unfolding book_record_at
as_record book at r e = e

pub by_record_lem : (book : List ℕ) (at : ℕ) (index : List ℕ) (last scopes : ℕ) → at < length book → (r : Record) → r ≡ record_at Book book at
    → by_record index last scopes book at (end_at book at (shape_in Book (get_or book at 0)).length) r ≡ step_at book at (tally_of index last scopes)
by_record_lem book at index last scopes h r e = rw e (step_record book at index last scopes h)

-- a whole record ends within the book, and has a stage
pub record Standing (book : List ℕ) (at st n : ℕ) : Type 0 where
  pub inside : at + 1 + n ≤ length book
  pub long : n ≡ (shape_in Book (get_or book at 0)).length
  pub known : 1 ≤ st
  pub below : st ≤ 5

pub whole_record : (book : List ℕ) (at k st n : ℕ) → Whole k st n ≡ record_at Book book at → Standing book at st n
unfolding record_at
whole_record book at k st n e = go (ltb at (length book)) (eqb (shape_in Book (get_or book at 0)).stage 0) (ltb (length book - (at + 1)) (shape_in Book (get_or book at 0)).length) refl refl refl e
  where
    go : (a b c : Bool) → ltb at (length book) ≡ a → eqb (shape_in Book (get_or book at 0)).stage 0 ≡ b → ltb (length book - (at + 1)) (shape_in Book (get_or book at 0)).length ≡ c
        → Whole k st n ≡ pick_record a (pick_record b Unknown (pick_record c Record-as-Truncated (Whole (get_or book at 0) (shape_in Book (get_or book at 0)).stage (shape_in Book (get_or book at 0)).length))) End
        → Standing book at st n
    go false b c p q r h = let z : ◌≡◌ {A = ℕ} 0 1 = cc in absurd (omega arith)
    go true true c p q r h = let z : ◌≡◌ {A = ℕ} 0 1 = cc in absurd (omega arith)
    go true false true p q r h = let z : ◌≡◌ {A = ℕ} 0 1 = cc in absurd (omega arith)
    go true false false p q r h =
        let es : st ≡ (shape_in Book (get_or book at 0)).stage = cc h in
        let en : n ≡ (shape_in Book (get_or book at 0)).length = cc h in
        let i = ltb-true at (length book) p in
        let k = eqb-false (shape_in Book (get_or book at 0)).stage 0 q in
        let w = ltb-false (length book - (at + 1)) (shape_in Book (get_or book at 0)).length r in
        let b = stage_below (get_or book at 0) in
        record { inside = omega arith; long = en; known = omega arith; below = omega arith }

pub whole_step : (book : List ℕ) (at : ℕ) (index : List ℕ) (last scopes : ℕ) → at < length book → (k st n : ℕ) → Whole k st n ≡ record_at Book book at
    → (body : List ℕ) → body ≡ body_at book at n → (next : ℕ) → next ≡ end_at book at n
    → step_over index last scopes k st next body ≡ step_at book at (tally_of index last scopes)
whole_step book at index last scopes h k st n r body eb next en =
    let en' : next ≡ end_at book at (shape_in Book (get_or book at 0)).length = en ∙ ap (end_at book at) (whole_record book at k st n r).long in
    rw (eb, en') (by_record_lem book at index last scopes h (Whole k st n) r)

-- what a step answers where the rest answers r
abbrev pub answer : Result Passed Fault → Option Fault → Option Fault
answer (Err f) r = Some f
answer (Ok p) r = r

push : (b : Bool) (f : Fault) (y : Result Passed Fault) (r : Option Fault) → answer (cond b (Err f) y) r ≡ cond b (Some f) (answer y r)
push true f y r = refl
push false f y r = refl

pub scan_answer : (m : Met) (next : ℕ) (ms : List Met) → scan (m ∷ ms) ≡ answer (step_of m next) (scan ms)
unfolding scan step_of
scan_answer m next ms = sym (simp push)

past : (s n : ℕ) (b : Bool) (f : Fault) (y : Result Passed Fault) → Ok (passed s n) ≡ cond b (Err f) y → (b ≡ false) × (Ok (passed s n) ≡ y)
past s n true f y e = let z : ◌≡◌ {A = ℕ} 0 1 = cc in absurd (omega arith)
past s n false f y e = (refl, e)

-- what a record without a fault has
abbrev stage_in : Result Passed Fault → ℕ
stage_in (Ok p) = p.stage
stage_in (Err f) = 0

abbrev next_in : Result Passed Fault → ℕ
next_in (Ok p) = p.next
next_in (Err f) = 0

pub record Read (m : Met) (s n : ℕ) : Type 0 where
  pub clean : Clean m
  pub stage : s ≡ stage_of m
  pub body : n ≡ (shape_in Book m.kind).length

pub read : (m : Met) (end s next : ℕ) → Ok (passed s next) ≡ step_of m end → Read m s (shape_in Book m.kind).length × (next ≡ end)
unfolding step_of
read m end s next e =
    let five = cond (invalid_byte m) (Err InvalidByte) (Ok (passed (stage_of m) end)) in
    let four = cond (limit_exceeded m) (Err LimitExceeded) five in
    let three = cond (out_of_order m) (Err OutOfOrder) four in
    let one = cond (truncated m) (Err Truncated) three in
    let a = past s next (unknown_kind m) UnknownKind one e in
    let b = past s next (truncated m) Truncated three a.1 in
    let d = past s next (out_of_order m) OutOfOrder four b.1 in
    let f = past s next (limit_exceeded m) LimitExceeded five d.1 in
    let g = past s next (invalid_byte m) InvalidByte (Ok (passed (stage_of m) end)) f.1 in (
      record {
        clean = record { known = a.0; whole = b.0; ordered = d.0; few = f.0; valid = g.0 };
        stage = ap stage_in g.1;
        body = refl;
      },
      ap next_in g.1,
    )

-- Reading on

skip : (n : ℕ) (l : List ℕ) (t : Tally) → n ≤ length l → records_from l n t ≡ records_from (drop n l) 0 t
unfolding records_from
skip zero l t h = refl
skip (suc n) [] t h = absurd (omega arith)
skip (suc n) (x ∷ l) t h = skip n l t (omega arith)

pub records_head : (book : List ℕ) (at : ℕ) (t : Tally) → at < length book
    → records_from (drop at book) 0 t
    ≡ met_at book at t
    ∷ cond (unknown_kind (met_at book at t)) [] (records_from (drop (at + 1) book) (shape_in Book (get_or book at 0)).length (counted (shape_in Book (get_or book at 0)).stage t))
unfolding records_from met_at
records_head book at t h = rw (drop-cons book at 0 h, add-one at)

module _ (book : List ℕ) (at : ℕ) (t : Tally) (s n : ℕ) (inside : at < length book) (r : Read (met_at book at t) s n) where
  -- the body is whole
  pub room : at + 1 + n ≤ length book
  unfolding met_at
  room =
      let fits : (shape_in Book (get_or book at 0)).length ≤ length book - (at + 1) = rw length-drop at (ltb-false (length (drop (at + 1) book)) (shape_in Book (get_or book at 0)).length r.clean.whole) in
      let e = r.body in
      omega arith

  counts_next : counted s t ≡ counted (stage_of (met_at book at t)) (met_at book at t).before
  unfolding met_at
  counts_next = ap (λ (x : ℕ). counted x t) r.stage

  pub within : InLimits (counted s t)
  within = in_limits (counted s t) (ap exceeds counts_next ∙ r.clean.few)

  -- the records from a position on
  pub records_at : records_from (drop at book) 0 t ≡ met_at book at t ∷ records_from (drop (at + 1 + n) book) 0 (counted s t)
  unfolding met_at
  records_at =
      records_head book at t inside
      ∙ rw (r.clean.known, ← r.body, ← counts_next)
      (ap (λ (l : List Met). met_at book at t ∷ l)
      (skip n (drop (at + 1) book) (counted s t) (rw length-drop (omega (arith, room))) ∙ ap (λ (l : List ℕ). records_from l 0 (counted s t)) (drop-drop n (at + 1) book)))

  -- where it ends
  pub ends_at : end_at book at n ≡ at + 1 + n
  unfolding end_at met_at
  ends_at =
      let w : ltb (length book - (at + 1)) n ≡ false = rw r.body (rw length-drop at r.clean.whole) in
      rw (lt-ltb at (length book) inside, w)

  pub scan_next : (next : ℕ) → Ok (passed s next) ≡ step_at book at t → scan (records_from (drop (at + 1 + n) book) 0 (counted s t)) ≡ scan (records_from (drop at book) 0 t)
  unfolding step_at
  scan_next next e =
      sym
      (ap scan records_at
      ∙ scan_answer (met_at book at t) (end_at book at (shape_in Book (get_or book at 0)).length) (records_from (drop (at + 1 + n) book) 0 (counted s t))
      ∙ rw (← e))

pub scan_stop : (book : List ℕ) (at : ℕ) (t : Tally) (f : Fault) → at < length book → Err f ≡ step_at book at t
    → Some f ≡ scan (records_from (drop at book) 0 t)
unfolding step_at
scan_stop book at t f h e =
    sym
    (ap scan (records_head book at t h)
    ∙ scan_answer (met_at book at t) (end_at book at (shape_in Book (get_or book at 0)).length) _
    ∙ rw (← e))

pub scan_end : (book : List ℕ) (at : ℕ) (t : Tally) → length book ≤ at → None ≡ scan (records_from (drop at book) 0 t)
unfolding scan records_from
scan_end book at t h = rw (drop_of_length-le book h)
