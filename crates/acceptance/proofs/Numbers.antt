-- The numbers of faults.
--     number_injective    faults of one number are one fault
--     number_bound        the numbers are 12 at most
--     free_more           free below a number, and of the fault of that number: free below the next
-- Assumes nothing.
use Prim.Native.Nat.{ℕ, suc, ◌<◌}
use mathlib.Core.Path.{◌≡◌, refl, sym, ap, subst, ◌∙◌}
use mathlib.Core.List.{List, [], ◌∷◌}
use mathlib.Core.Logic.{⊎_elim}
use native.Mathlib.Omega.{arith}
use native.Mathlib.Nat.{eq-or-lt_of_le}
use lib.ListN.{get_or}
use Rattle.book.specs.Judge.{InBook}
use Rattle.answers.specs.Numbers.{fault_number}
use Rattle.answers.specs.declared.Fault.{Fault}
use Rattle.answers.specs.declared.Fault.TheVariants.{Truncated, UnknownKind, OutOfOrder, LimitExceeded, InvalidByte, DanglingReference, SharedNode, TypeMismatch, MixedClauses, ScopeCycle, WeightExceeded, DependencyCycle}
use Rattle.acceptance.specs.Verdicts.{FreeBelow}

-- the fault of a number; no fault has 0
abbrev fault_of : ℕ → Fault
fault_of k =
    get_or (
    Truncated ∷ Truncated ∷ UnknownKind ∷ OutOfOrder ∷ LimitExceeded ∷ InvalidByte ∷ DanglingReference ∷ SharedNode ∷ TypeMismatch
    ∷ MixedClauses ∷ ScopeCycle ∷ WeightExceeded ∷ DependencyCycle ∷ []
    ) k Truncated

fault_of_number : (f : Fault) → fault_of (fault_number f) ≡ f
fault_of_number Truncated = refl
fault_of_number UnknownKind = refl
fault_of_number OutOfOrder = refl
fault_of_number LimitExceeded = refl
fault_of_number InvalidByte = refl
fault_of_number DanglingReference = refl
fault_of_number SharedNode = refl
fault_of_number TypeMismatch = refl
fault_of_number MixedClauses = refl
fault_of_number ScopeCycle = refl
fault_of_number WeightExceeded = refl
fault_of_number DependencyCycle = refl

pub number_injective : (f g : Fault) → fault_number f ≡ fault_number g → f ≡ g
number_injective f g e = sym (fault_of_number f) ∙ ap fault_of e ∙ fault_of_number g

pub number_bound : (f : Fault) → fault_number f < 13
number_bound Truncated = omega arith
number_bound UnknownKind = omega arith
number_bound OutOfOrder = omega arith
number_bound LimitExceeded = omega arith
number_bound InvalidByte = omega arith
number_bound DanglingReference = omega arith
number_bound SharedNode = omega arith
number_bound TypeMismatch = omega arith
number_bound MixedClauses = omega arith
number_bound ScopeCycle = omega arith
number_bound WeightExceeded = omega arith
number_bound DependencyCycle = omega arith

pub free_more : (bytes : List ℕ) (f : Fault) → FreeBelow (fault_number f) bytes → (InBook f bytes → ⊥)
    → FreeBelow (suc (fault_number f)) bytes
free_more bytes f free lacks g l h =
    ⊎_elim
    (λ (e : fault_number g ≡ fault_number f). lacks (subst (λ (k : Fault). InBook k bytes) (number_injective g f e) h))
    (λ (b : fault_number g < fault_number f). free g b h)
    (eq-or-lt_of_le {n = fault_number g} {m = fault_number f} (omega arith))
