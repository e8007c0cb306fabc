-- The answers of judging, by what the passes found.
-- Assumes nothing.
use Prim.Native.Nat.{ℕ, ◌<◌, ◌≤◌}
use mathlib.Core.Path.{◌≡◌, sym, ap, ◌∙◌}
use mathlib.Core.Bool.{Bool, true, false}
use mathlib.Core.List.{List}
use native.Mathlib.Omega.{arith}
use lib.ListN.{length, take, drop}
use lib.Seq.{take_at}
use borrow.Author.Tests.{eq-eqb, ne_eqb, lt-ltb, le-ltb}
use Rattle.std.specs.Prelude.{Option, None, Some, Result, Ok, Err}
use Rattle.std.specs.Result.{result_ok}
use Rattle.book.specs.Syntax.{Scope}
use Rattle.book.specs.Records.{records, too_long}
use Rattle.book.specs.Decode.{scopes_of}
use Rattle.book.specs.References.{dangles}
use Rattle.book.specs.Sharing.{shares}
use Rattle.book.specs.Typing.{mismatches}
use Rattle.book.specs.Mixing.{mixes}
use Rattle.book.specs.Scopes.{blocks, scope_cycle, weight_exceeded}
use Rattle.book.specs.Steps.{dependency_cycle}
use Rattle.book.specs.Judge.{judge, scan, whole_book}
use Rattle.answers.specs.declared.Fault.{Fault}
use Rattle.answers.specs.declared.Fault.TheVariants.{LimitExceeded, DanglingReference, SharedNode, TypeMismatch, MixedClauses, ScopeCycle, WeightExceeded, DependencyCycle}
use Rattle.steps.specs.Answers.{Written}
use Rattle.scan.specs.Filling.{scanned_by, Recorded}
use Rattle.checks.specs.declared.Findings.{Findings}
use Rattle.checks.specs.Findings.{says_dangling, OfBook}
use Rattle.judge.specs.Verdict.{Loads, order_faults}

never : (f : Fault) (n : ℕ) → Err f ≡ Ok n → ⊥
never f n q = let z : ◌≡◌ {A = ℕ} 0 1 = cc in omega arith

-- a refused book has no tables
pub refused : {bytes index blocks weights orders : List ℕ} {expected : Result ℕ Fault} {f : Fault} → Err f ≡ expected
    → Loads bytes index blocks weights orders expected (Err f)
refused {f = f} e = record { answer = e; tables = λ n q. absurd (never f n q) }

-- what reading the records told
pub read_sound : {bytes index : List ℕ} {r : Result ℕ Fault} {n : ℕ} → Recorded bytes index r → r ≡ Ok n → scan (records bytes) ≡ None
read_sound x e = sym x.answer ∙ ap (λ (y : Result ℕ Fault). scanned_by y) e

pub read_fault : {bytes index : List ℕ} {r : Result ℕ Fault} {f : Fault} → Recorded bytes index r → r ≡ Err f → scan (records bytes) ≡ Some f
read_fault x e = sym x.answer ∙ ap (λ (y : Result ℕ Fault). scanned_by y) e

-- what the pass of faults 6 to 8 found, where its answer became a result
module _ {book : List Scope} {o : Option Findings} {r : Result Findings Fault} (told : OfBook book o) (part : o ≡ result_ok r) where
  pub found_dangling : {f : Fault} → r ≡ Err f → dangles book ≡ true
  found_dangling e = sym told.dangling ∙ ap says_dangling part ∙ ap (λ (y : Result Findings Fault). says_dangling (result_ok y)) e

  module _ {f : Findings} (e : r ≡ Ok f) where
    some : o ≡ Some f
    some = part ∙ ap (λ (y : Result Findings Fault). result_ok y) e

    pub found_sound : dangles book ≡ false
    found_sound = sym told.dangling ∙ ap says_dangling some

    pub found_shares : {b : Bool} → f.shares ≡ b → shares book ≡ b
    found_shares q = sym (told.shared f some) ∙ q

    pub found_mismatches : {b : Bool} → f.mismatches ≡ b → mismatches book ≡ b
    found_mismatches q = sym (told.mismatched f some) ∙ q

-- the order that was written, where it is whole
pub whole_order : {xs from to : List ℕ} {k n : ℕ} → Written xs from k to → k ≡ n → take n to ≡ xs
whole_order {xs} {from} {to} {k} {n} w e =
    ap (take n) w.bytes ∙ take_at xs (drop (length xs) from) n (sym w.count ∙ e)

module _ (book : List Scope) where
  pub cycle : {k n : ℕ} → k ≡ length (blocks book) → n ≡ length book → (k ≡ n → ⊥) → scope_cycle book ≡ true
  unfolding scope_cycle
  cycle p q d = rw (ne_eqb (length (blocks book)) (length book) (λ e. d (p ∙ e ∙ sym q)))

  pub no_cycle : {k n : ℕ} → k ≡ length (blocks book) → n ≡ length book → k ≡ n → scope_cycle book ≡ false
  unfolding scope_cycle
  no_cycle p q e = rw (eq-eqb (length (blocks book)) (length book) (sym p ∙ e ∙ q))

  pub cycle_first : scope_cycle book ≡ true → Err ScopeCycle ≡ order_faults book
  unfolding order_faults
  cycle_first a = rw a

  pub weight_next : scope_cycle book ≡ false → weight_exceeded book ≡ true → Err WeightExceeded ≡ order_faults book
  unfolding order_faults
  weight_next a b = rw (a, b)

  pub steps_last : scope_cycle book ≡ false → weight_exceeded book ≡ false → dependency_cycle book ≡ true → Err DependencyCycle ≡ order_faults book
  unfolding order_faults
  steps_last a b c = rw (a, b, c)

  pub none_left : {n : ℕ} → scope_cycle book ≡ false → weight_exceeded book ≡ false → dependency_cycle book ≡ false → n ≡ length book → Ok n ≡ order_faults book
  unfolding order_faults
  none_left a b c e = rw (a, b, c, e)

  pub dangling : dangles book ≡ true → Err DanglingReference ≡ whole_book book
  unfolding whole_book
  dangling a = rw a

  pub shared : dangles book ≡ false → shares book ≡ true → Err SharedNode ≡ whole_book book
  unfolding whole_book
  shared a b = rw (a, b)

  pub mismatched : dangles book ≡ false → shares book ≡ false → mismatches book ≡ true → Err TypeMismatch ≡ whole_book book
  unfolding whole_book
  mismatched a b c = rw (a, b, c)

  pub mixed : dangles book ≡ false → shares book ≡ false → mismatches book ≡ false → mixes book ≡ true → Err MixedClauses ≡ whole_book book
  unfolding whole_book
  mixed a b c d = rw (a, b, c, d)

  pub orders_left : dangles book ≡ false → shares book ≡ false → mismatches book ≡ false → mixes book ≡ false → order_faults book ≡ whole_book book
  unfolding whole_book order_faults
  orders_left a b c d = rw (a, b, c, d)

module _ (bytes : List ℕ) where
  pub long : 32768 < length bytes → Err LimitExceeded ≡ judge bytes
  unfolding judge too_long
  long h = rw (lt-ltb 32768 (length bytes) h)

  pub faulty : {f : Fault} → length bytes ≤ 32768 → scan (records bytes) ≡ Some f → Err f ≡ judge bytes
  unfolding judge too_long
  faulty h e = rw (le-ltb 32768 (length bytes) h, e)

  pub sound : length bytes ≤ 32768 → scan (records bytes) ≡ None → whole_book (scopes_of bytes) ≡ judge bytes
  unfolding judge too_long
  sound h e = rw (le-ltb 32768 (length bytes) h, e)
