-- The records of a book one by one.
--     Clear, none_head, none_tail    where no record is faulty, neither the first is nor any after it
--     none_or_first                  no record is faulty, or there is a first faulty one
--     scan_sound                     the scan is sound if and only if no record is faulty
--     scan_faulty                    it gives a fault if and only if that is the first faulty record's first
--     faulty_number                  that fault's number is 5 at most
--     faulty_in_book                 that fault is in the book
--     sound_free                     where the book is short and no record faulty, it is free of the faults 1 to 5
-- Assumes nothing.
use Prim.Native.Nat.{ℕ, ◌≤◌}
use mathlib.Core.Path.{◌≡◌, refl, sym, ap, subst, ◌∙◌}
use mathlib.Core.Bool.{Bool, true, false, cond, ◌||◌, false≢true, or-true}
use mathlib.Core.List.{List, [], ◌∷◌, ◌++◌}
use mathlib.Core.Logic.{◌⊎◌, inl, inr, ⊎_elim, ◌↔◌}
use native.Mathlib.Omega.{arith}
use Rattle.std.specs.Prelude.{Option, None, Some}
use Rattle.laws.proofs.Booleans.{decide, neither}
use Rattle.book.specs.Lists.{any}
use Rattle.book.specs.Records.{Met, records, unknown_kind, truncated, out_of_order, limit_exceeded, invalid_byte, too_long}
use Rattle.book.specs.Judge.{InBook, scan}
use Rattle.answers.specs.Numbers.{fault_number}
use Rattle.answers.specs.declared.Fault.{Fault}
use Rattle.answers.specs.declared.Fault.TheVariants.{Truncated, UnknownKind, OutOfOrder, LimitExceeded, InvalidByte, DanglingReference, SharedNode, TypeMismatch, MixedClauses, ScopeCycle, WeightExceeded, DependencyCycle}
use Rattle.acceptance.specs.Verdicts.{NoneFaulty, FirstOf, FirstFaulty, FreeBelow}
use Rattle.book.proofs.Searches.{any_append}

abbrev is_sound : Option Fault → Bool
is_sound None = true
is_sound (Some f) = false

abbrev fault_in : Option Fault → Fault
fault_in None = Truncated
fault_in (Some f) = f

skip : {b : Bool} (x y : Option Fault) → b ≡ false → cond b x y ≡ y
skip x y e = rw e

meet : {b : Bool} (x y : Option Fault) → b ≡ true → cond b x y ≡ x
meet x y e = rw e

or_false : (a b : Bool) → a ≡ false → b ≡ false → (a || b) ≡ false
or_false a b p q = rw (p, q)

none_nil : NoneFaulty []
unfolding any
none_nil = record { known = refl; complete = refl; in_order = refl; within = refl; valid = refl }

-- one record has none of the five faults
pub record Clear (m : Met) : Type 0 where
  pub known : unknown_kind m ≡ false
  pub complete : truncated m ≡ false
  pub in_order : out_of_order m ≡ false
  pub within : limit_exceeded m ≡ false
  pub valid : invalid_byte m ≡ false

module _ (m : Met) (ms : List Met) where
  none_cons : Clear m → NoneFaulty ms → NoneFaulty (m ∷ ms)
  unfolding any
  none_cons c n =
      record {
        known = or_false (unknown_kind m) (any unknown_kind ms) c.known n.known;
        complete = or_false (truncated m) (any truncated ms) c.complete n.complete;
        in_order = or_false (out_of_order m) (any out_of_order ms) c.in_order n.in_order;
        within = or_false (limit_exceeded m) (any limit_exceeded ms) c.within n.within;
        valid = or_false (invalid_byte m) (any invalid_byte ms) c.valid n.valid;
      }

  pub none_head : NoneFaulty (m ∷ ms) → Clear m
  unfolding any
  none_head n =
      record {
        known = (neither (unknown_kind m) (any unknown_kind ms) n.known).0;
        complete = (neither (truncated m) (any truncated ms) n.complete).0;
        in_order = (neither (out_of_order m) (any out_of_order ms) n.in_order).0;
        within = (neither (limit_exceeded m) (any limit_exceeded ms) n.within).0;
        valid = (neither (invalid_byte m) (any invalid_byte ms) n.valid).0;
      }

  pub none_tail : NoneFaulty (m ∷ ms) → NoneFaulty ms
  unfolding any
  none_tail n =
      record {
        known = (neither (unknown_kind m) (any unknown_kind ms) n.known).1;
        complete = (neither (truncated m) (any truncated ms) n.complete).1;
        in_order = (neither (out_of_order m) (any out_of_order ms) n.in_order).1;
        within = (neither (limit_exceeded m) (any limit_exceeded ms) n.within).1;
        valid = (neither (invalid_byte m) (any invalid_byte ms) n.valid).1;
      }

  scan_clear : Clear m → scan (m ∷ ms) ≡ scan ms
  unfolding scan
  scan_clear c = skip _ _ c.known ∙ skip _ _ c.complete ∙ skip _ _ c.in_order ∙ skip _ _ c.within ∙ skip _ _ c.valid

  scan_first : (f : Fault) → FirstOf m f → scan (m ∷ ms) ≡ Some f
  unfolding scan
  scan_first UnknownKind (FirstOf.second a) = meet _ _ a
  scan_first Truncated (FirstOf.first a b) = skip _ _ a ∙ meet _ _ b
  scan_first OutOfOrder (FirstOf.third a b c) = skip _ _ a ∙ skip _ _ b ∙ meet _ _ c
  scan_first LimitExceeded (FirstOf.fourth a b c d) = skip _ _ a ∙ skip _ _ b ∙ skip _ _ c ∙ meet _ _ d
  scan_first InvalidByte (FirstOf.fifth a b c d e) = skip _ _ a ∙ skip _ _ b ∙ skip _ _ c ∙ skip _ _ d ∙ meet _ _ e
  scan_first DanglingReference x = elim x [ ]
  scan_first SharedNode x = elim x [ ]
  scan_first TypeMismatch x = elim x [ ]
  scan_first MixedClauses x = elim x [ ]
  scan_first ScopeCycle x = elim x [ ]
  scan_first WeightExceeded x = elim x [ ]
  scan_first DependencyCycle x = elim x [ ]

-- a record has none of the five faults, or a first one
clear_or_first : (m : Met) → Clear m ⊎ ((f : Fault) × FirstOf m f)
clear_or_first m =
    ⊎_elim (λ a. inr (UnknownKind, FirstOf.second a)) (λ a.
    ⊎_elim (λ b. inr (Truncated, FirstOf.first a b)) (λ b.
    ⊎_elim (λ c. inr (OutOfOrder, FirstOf.third a b c)) (λ c.
    ⊎_elim (λ d. inr (LimitExceeded, FirstOf.fourth a b c d)) (λ d.
    ⊎_elim (λ e. inr (InvalidByte, FirstOf.fifth a b c d e)) (λ e.
    inl (record { known = a; complete = b; in_order = c; within = d; valid = e }))
    (decide (invalid_byte m)))
    (decide (limit_exceeded m)))
    (decide (out_of_order m)))
    (decide (truncated m)))
    (decide (unknown_kind m))

pub none_or_first : (ms : List Met) → NoneFaulty ms ⊎ ((f : Fault) × FirstFaulty ms f)
none_or_first [] = inl none_nil
none_or_first (m ∷ ms) =
    ⊎_elim
    (λ (c : Clear m).
    ⊎_elim
    (λ n. inl (none_cons m ms c n))
    (λ (r : (f : Fault) × FirstFaulty ms f). inr (
      r.0,
      record {
        earlier = m ∷ r.1.earlier;
        faulty = r.1.faulty;
        later = r.1.later;
        split = ap {B = List Met} (λ (xs : List Met). m ∷ xs) r.1.split;
        sound = none_cons m r.1.earlier c r.1.sound;
        fault = r.1.fault;
      },
    ))
    (none_or_first ms))
    (λ (r : (f : Fault) × FirstOf m f). inr (
      r.0,
      record { earlier = []; faulty = m; later = ms; split = refl; sound = none_nil; fault = r.1 },
    ))
    (clear_or_first m)

none_sound : (ms : List Met) → NoneFaulty ms → scan ms ≡ None
unfolding scan
none_sound [] n = refl
none_sound (m ∷ ms) n = scan_clear m ms (none_head m ms n) ∙ none_sound ms (none_tail m ms n)

first_faulty : (earlier : List Met) (m : Met) (later : List Met) (f : Fault) → NoneFaulty earlier → FirstOf m f
    → scan (earlier ++ m ∷ later) ≡ Some f
first_faulty [] m later f n h = scan_first m later f h
first_faulty (e ∷ earlier) m later f n h =
    scan_clear e (earlier ++ m ∷ later) (none_head e earlier n) ∙ first_faulty earlier m later f (none_tail e earlier n) h

first_scanned : (ms : List Met) (f : Fault) → FirstFaulty ms f → scan ms ≡ Some f
first_scanned ms f r = ap scan r.split ∙ first_faulty r.earlier r.faulty r.later f r.sound r.fault

pub scan_sound : (ms : List Met) → (scan ms ≡ None) ↔ NoneFaulty ms
scan_sound ms = (
  λ e.
      ⊎_elim
      (λ n. n)
      (λ (r : (f : Fault) × FirstFaulty ms f). absurd (false≢true (ap is_sound (sym (first_scanned ms r.0 r.1) ∙ e))))
      (none_or_first ms),
  none_sound ms,
)

pub scan_faulty : (ms : List Met) (f : Fault) → (scan ms ≡ Some f) ↔ FirstFaulty ms f
scan_faulty ms f = (
  λ e.
      ⊎_elim
      (λ n. absurd (false≢true (ap is_sound (sym e ∙ none_sound ms n))))
      (λ (r : (f : Fault) × FirstFaulty ms f).
      subst (λ (g : Fault). FirstFaulty ms g) (ap fault_in (sym (first_scanned ms r.0 r.1) ∙ e)) r.1)
      (none_or_first ms),
  first_scanned ms f,
)

of_number : {m : Met} {f : Fault} → FirstOf m f → fault_number f ≤ 5
of_number (FirstOf.second a) = omega arith
of_number (FirstOf.first a b) = omega arith
of_number (FirstOf.third a b c) = omega arith
of_number (FirstOf.fourth a b c d) = omega arith
of_number (FirstOf.fifth a b c d e) = omega arith

pub faulty_number : (ms : List Met) (f : Fault) → FirstFaulty ms f → fault_number f ≤ 5
faulty_number ms f r = of_number r.fault

-- a search through records finds the faulty one
among_records : (p : Met → Bool) (ms earlier : List Met) (m : Met) (later : List Met) → ms ≡ earlier ++ m ∷ later → p m ≡ true → any p ms ≡ true
unfolding any
among_records p ms earlier m later s h =
    ap (any p) s ∙ any_append p earlier (m ∷ later) ∙ ap (λ (b : Bool). any p earlier || (b || any p later)) h ∙ or-true (any p earlier)

pub faulty_in_book : (bytes : List ℕ) (f : Fault) → FirstFaulty (records bytes) f → InBook f bytes
faulty_in_book bytes f r = go f r.fault
  where
    at : (p : Met → Bool) → p r.faulty ≡ true → any p (records bytes) ≡ true
    at p = among_records p (records bytes) r.earlier r.faulty r.later r.split

    go : (f : Fault) → FirstOf r.faulty f → InBook f bytes
    go UnknownKind (FirstOf.second a) = at unknown_kind a
    go Truncated (FirstOf.first a b) = at truncated b
    go OutOfOrder (FirstOf.third a b c) = at out_of_order c
    go LimitExceeded (FirstOf.fourth a b c d) = rw (at limit_exceeded d) (or-true (too_long bytes))
    go InvalidByte (FirstOf.fifth a b c d e) = at invalid_byte e
    go DanglingReference x = elim x [ ]
    go SharedNode x = elim x [ ]
    go TypeMismatch x = elim x [ ]
    go MixedClauses x = elim x [ ]
    go ScopeCycle x = elim x [ ]
    go WeightExceeded x = elim x [ ]
    go DependencyCycle x = elim x [ ]

pub sound_free : (bytes : List ℕ) → too_long bytes ≡ false → NoneFaulty (records bytes) → FreeBelow 6 bytes
sound_free bytes s n Truncated l h = false≢true (sym n.complete ∙ h)
sound_free bytes s n UnknownKind l h = false≢true (sym n.known ∙ h)
sound_free bytes s n OutOfOrder l h = false≢true (sym n.in_order ∙ h)
sound_free bytes s n LimitExceeded l h =
    false≢true (sym (or_false (too_long bytes) (any limit_exceeded (records bytes)) s n.within) ∙ h)
sound_free bytes s n InvalidByte l h = false≢true (sym n.valid ∙ h)
sound_free bytes s n DanglingReference l h = omega arith
sound_free bytes s n SharedNode l h = omega arith
sound_free bytes s n TypeMismatch l h = omega arith
sound_free bytes s n MixedClauses l h = omega arith
sound_free bytes s n ScopeCycle l h = omega arith
sound_free bytes s n WeightExceeded l h = omega arith
sound_free bytes s n DependencyCycle l h = omega arith
