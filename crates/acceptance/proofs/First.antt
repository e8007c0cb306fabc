-- A refused book is refused for the first fault in the order written.
--     refused              a book is refused for a fault if and only if that is the first
--     refused_in_book      a fault that a book is refused for is in it
--     refused_first        refused for one of 6 to 12: no fault of lower number is in the book, and none of 1 to 5
--     refused_too_long     a book that is too long is refused for its length
--     refused_record       else, where a record is faulty, for the first faulty record's first fault
--     refused_whole        else for the fault of lowest number
-- Assumes nothing.
use Prim.Native.Nat.{ℕ, suc, ◌<◌, ◌≤◌}
use mathlib.Core.Path.{◌≡◌, refl, sym, ap, subst, ◌∙◌}
use mathlib.Core.Bool.{Bool, true, false, cond, ◌||◌, false≢true}
use mathlib.Core.List.{List}
use mathlib.Core.Logic.{⊎_elim, ◌↔◌}
use native.Mathlib.Omega.{arith}
use native.Mathlib.Nat.{eq-or-lt_of_le}
use lib.Dec.{leb}
use borrow.Author.Tests.{leb-true, leb-false}
use Rattle.std.specs.Prelude.{Option, None, Some, Result, ℕ, Ok, Err}
use Rattle.laws.proofs.Booleans.{decide}
use Rattle.book.specs.Records.{records, too_long, limit_exceeded}
use Rattle.book.specs.Lists.{any}
use Rattle.book.specs.Decode.{scopes_of}
use Rattle.book.specs.References.{dangles}
use Rattle.book.specs.Sharing.{shares}
use Rattle.book.specs.Typing.{mismatches}
use Rattle.book.specs.Mixing.{mixes}
use Rattle.book.specs.Scopes.{scope_cycle, weight_exceeded}
use Rattle.book.specs.Steps.{dependency_cycle}
use Rattle.book.specs.Judge.{InBook, scan, whole_book, after_records, judge}
use Rattle.answers.specs.Numbers.{fault_number}
use Rattle.answers.specs.declared.Fault.{Fault}
use Rattle.answers.specs.declared.Fault.TheVariants.{LimitExceeded, DanglingReference, SharedNode, TypeMismatch, MixedClauses, ScopeCycle, WeightExceeded, DependencyCycle}
use Rattle.acceptance.specs.Verdicts.{FirstFaulty, FreeBelow, Refusal}
use Rattle.acceptance.proofs.Cycles.{scope_cycle_lem, no_scope_cycle, dependency_cycle_lem, no_dependency_cycle}
use Rattle.acceptance.proofs.Numbers.{number_injective, free_more}
use Rattle.acceptance.proofs.Scanning.{scan_sound, scan_faulty, faulty_number, faulty_in_book, sound_free}
use Rattle.acceptance.proofs.Acceptance.{accepted_faultless, faultless_free}

abbrev is_refused : Result ℕ Fault → Bool
is_refused (Ok n) = false
is_refused (Err f) = true

abbrev fault_in : Result ℕ Fault → Fault
fault_in (Ok n) = LimitExceeded
fault_in (Err f) = f

module _ (bytes : List ℕ) where
  -- one of the tests over the whole book, after those that found nothing: it decides, or the rest does
  module _ (f : Fault) where
    stage : (b : Bool) (g : Fault) (rest : Result ℕ Fault) → 6 ≤ fault_number g
        → (b ≡ true → InBook g bytes) → (b ≡ false → InBook g bytes → ⊥) → FreeBelow (fault_number g) bytes
        → cond b (Err g) rest ≡ Err f → (FreeBelow (suc (fault_number g)) bytes → rest ≡ Err f → Refusal bytes f)
        → Refusal bytes f
    stage true g rest six holds lacks free e more =
        subst (λ (k : Fault). Refusal bytes k) (ap fault_in e) (Refusal.whole_book_case six (holds refl) free)
    stage false g rest six holds lacks free e more = more (free_more bytes g free (lacks refl)) e

    -- a test that fails does not hold
    test : (b : Bool) → b ≡ false → b ≡ true → ⊥
    test b f t = false≢true (sym f ∙ t)

    whole : FreeBelow 6 bytes → whole_book (scopes_of bytes) ≡ Err f → Refusal bytes f
    unfolding whole_book
    whole free e =
        let book = scopes_of bytes in
        stage (dangles book) DanglingReference _ (omega arith) (λ t. t) (test (dangles book)) free e (λ free e.
        stage (shares book) SharedNode _ (omega arith) (λ t. t) (test (shares book)) free e (λ free e.
        stage (mismatches book) TypeMismatch _ (omega arith) (λ t. t) (test (mismatches book)) free e (λ free e.
        stage (mixes book) MixedClauses _ (omega arith) (λ t. t) (test (mixes book)) free e (λ free e.
        stage (scope_cycle book) ScopeCycle _ (omega arith) (scope_cycle_lem book).0 (no_scope_cycle book).0 free e (λ free e.
        stage (weight_exceeded book) WeightExceeded _ (omega arith) (λ t. t) (test (weight_exceeded book)) free e (λ free e.
        stage (dependency_cycle book) DependencyCycle _ (omega arith) (dependency_cycle_lem book).0 (no_dependency_cycle book).0 free e (λ free e.
        absurd (false≢true (ap is_refused e)))))))))

    scanned : too_long bytes ≡ false → (r : Option Fault) → scan (records bytes) ≡ r
        → after_records r (whole_book (scopes_of bytes)) ≡ Err f → Refusal bytes f
    scanned short None s e = whole (sound_free bytes short ((scan_sound (records bytes)).0 s)) e
    scanned short (Some g) s e = Refusal.faulty_record short ((scan_faulty (records bytes) f).0 (s ∙ ap Some (ap fault_in e)))

    why : judge bytes ≡ Err f → Refusal bytes f
    unfolding judge
    why e =
        ⊎_elim
        (λ (long : too_long bytes ≡ true).
        let e' : Err LimitExceeded ≡ Err f = rw long at e in
        subst (λ (k : Fault). Refusal bytes k) (ap fault_in e') (Refusal.too_long_case long))
        (λ (short : too_long bytes ≡ false).
        let e' : after_records (scan (records bytes)) (whole_book (scopes_of bytes)) ≡ Err f = rw short at e in
        scanned short (scan (records bytes)) refl e')
        (decide (too_long bytes))

  pub refused_too_long : too_long bytes ≡ true → judge bytes ≡ Err LimitExceeded
  unfolding judge
  refused_too_long long = rw long

  pub refused_record : (f : Fault) → too_long bytes ≡ false → FirstFaulty (records bytes) f → judge bytes ≡ Err f
  unfolding judge
  refused_record f short r = rw (short, (scan_faulty (records bytes) f).1 r)

  long_in_book : too_long bytes ≡ true → InBook LimitExceeded bytes
  long_in_book long = ap (λ (b : Bool). b || any limit_exceeded (records bytes)) long

  -- of two refusals, one for a fault of the whole book, the faults are one
  one_fault : (f : Fault) → 6 ≤ fault_number f → InBook f bytes → FreeBelow (fault_number f) bytes → (g : Fault) → Refusal bytes g → g ≡ f
  one_fault f six h free LimitExceeded (Refusal.too_long_case long) = absurd (free LimitExceeded (omega arith) (long_in_book long))
  one_fault f six h free g (Refusal.faulty_record short r) =
      absurd (free g (omega (arith, faulty_number (records bytes) g r)) (faulty_in_book bytes g r))
  one_fault f six h free g (Refusal.whole_book_case six' h' free') =
      number_injective g f
      (⊎_elim
      (λ q.
      ⊎_elim
      (λ (e : fault_number g ≡ fault_number f). e)
      (λ (lt : fault_number g < fault_number f). absurd (free g lt h'))
      (eq-or-lt_of_le (leb-true (fault_number g) (fault_number f) q)))
      (λ q. absurd (free' f (leb-false (fault_number g) (fault_number f) q) h))
      (decide (leb (fault_number g) (fault_number f))))

  pub refused_whole : (f : Fault) → 6 ≤ fault_number f → InBook f bytes → FreeBelow (fault_number f) bytes → judge bytes ≡ Err f
  refused_whole f six h free = go (judge bytes) refl
    where
      go : (r : Result ℕ Fault) → judge bytes ≡ r → judge bytes ≡ Err f
      go (Ok n) e = absurd (faultless_free bytes (accepted_faultless bytes n e) f h)
      go (Err g) e = e ∙ ap Err (one_fault f six h free g (why g e))

  back : (f : Fault) → Refusal bytes f → judge bytes ≡ Err f
  back LimitExceeded (Refusal.too_long_case long) = refused_too_long long
  back f (Refusal.faulty_record short r) = refused_record f short r
  back f (Refusal.whole_book_case six h free) = refused_whole f six h free

  pub refused : (f : Fault) → (judge bytes ≡ Err f) ↔ Refusal bytes f
  refused f = (why f, back f)

  in_book : (f : Fault) → Refusal bytes f → InBook f bytes
  in_book LimitExceeded (Refusal.too_long_case long) = long_in_book long
  in_book f (Refusal.faulty_record short r) = faulty_in_book bytes f r
  in_book f (Refusal.whole_book_case six h free) = h

  pub refused_in_book : (f : Fault) → judge bytes ≡ Err f → InBook f bytes
  refused_in_book f e = in_book f (why f e)

  lowest : (f : Fault) → 6 ≤ fault_number f → Refusal bytes f → FreeBelow (fault_number f) bytes
  lowest LimitExceeded six (Refusal.too_long_case long) = absurd (omega arith)
  lowest f six (Refusal.faulty_record short r) = absurd (omega (arith, faulty_number (records bytes) f r))
  lowest f six (Refusal.whole_book_case six' h free) = free

  pub refused_first : (f : Fault) → judge bytes ≡ Err f → 6 ≤ fault_number f → (g : Fault) → fault_number g < fault_number f → InBook g bytes → ⊥
  refused_first f e six = lowest f six (why f e)
