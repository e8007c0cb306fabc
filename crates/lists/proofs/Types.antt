-- Variables by their type bytes.
--     typed_count, typed_at    as many as bytes, each of its byte's type
--     type_of_byte             the type of a type's byte
--     start, turn, stop        filling in the bytes: at first, one variable more, behind the last
--     whole, few               what is filled in is so many bytes, 32 at most
-- Assumes nothing.
use Prim.Native.Nat.{ℕ, zero, suc, ◌+◌, ◌≤◌, ◌<◌}
use mathlib.Core.Path.{◌≡◌, refl, sym, ap, ◌∙◌}
use mathlib.Core.List.{List, [], ◌∷◌}
use native.Mathlib.Omega.{arith}
use lib.ListN.{length, get_or, set, take, length-map, length-set}
use lib.Seq.{get_or-set_same, get_or-set_other}
use lib.Dec.{eqb}
use borrow.Author.Tests.{eqb-true, eqb-false}
use mathlib.Core.Logic.{⊎_elim}
use Rattle.laws.proofs.Booleans.{decide}
use Rattle.book.specs.Syntax.{type_of, type_byte}
use Rattle.book.specs.declared.ValueType.{ValueType}
use Rattle.book.specs.declared.ValueType.TheVariants.{YesNo, Numeric}
use Rattle.book.specs.declared.Variable.{Variable}
use Rattle.lists.specs.Reading.{typed, Filled}

pub typed_count : (types : List ℕ) → length (typed types) ≡ length types
unfolding typed
typed_count types = length-map types (λ b. record { holds = type_of b })

pub typed_at : (types : List ℕ) (v : ℕ) → v < length types → (get_or (typed types) v (record { holds = YesNo })).holds ≡ type_of (get_or types v 0)
unfolding typed
typed_at [] v h = absurd (omega arith)
typed_at (x ∷ xs) zero h = refl
typed_at (x ∷ xs) (suc v) h = typed_at xs v (omega arith)

pub type_of_byte : (t : ValueType) → type_of (type_byte t) ≡ t
type_of_byte YesNo = refl
type_of_byte Numeric = refl

-- The bytes filled in

-- the bytes below v are the variables' type bytes
pub record Filling (vs : List Variable) (types : List ℕ) (v : ℕ) : Type 0 where
  pub size : length types ≡ 32
  pub bytes : (w : ℕ) → w < v → type_of (get_or types w 0) ≡ (get_or vs w (record { holds = YesNo })).holds

all_typed : (vs : List Variable) (types : List ℕ) → length vs ≤ length types
    → ((w : ℕ) → w < length vs → type_of (get_or types w 0) ≡ (get_or vs w (record { holds = YesNo })).holds) → typed (take (length vs) types) ≡ vs
unfolding typed
all_typed [] types h f = refl
all_typed (v ∷ vs) [] h f = absurd (omega arith)
all_typed (v ∷ vs) (t ∷ ts) h f =
    let e : type_of t ≡ v.holds = f 0 (omega arith) in
    rw e (ap (λ (l : List Variable). v ∷ l) (all_typed vs ts (omega arith) (λ w k. f (suc w) (omega arith))))

pub start : {vs : List Variable} {types : List ℕ} → length types ≡ 32 → Filling vs types 0
start h = record { size = h; bytes = λ w k. absurd (omega arith) }

module _ {vs : List Variable} {types : List ℕ} {v : ℕ} (f : Filling vs types v) where
  pub turn : (b : ℕ) → v < 32 → type_of b ≡ (get_or vs v (record { holds = YesNo })).holds → Filling vs (set types v b) (v + 1)
  turn b h e =
      let s = f.size in
      let here : v < length types = omega arith in
      record {
        size = length-set types v b ∙ f.size;
        bytes = λ w k.
            ⊎_elim
            (λ q. let same : w ≡ v = eqb-true w v q in rw (same, get_or-set_same types v b 0 here) e)
            (λ q.
            let other : w ≡ v → ⊥ = eqb-false w v q in
            let below : w < v = omega arith in
            rw (get_or-set_other types v w b 0 other) (f.bytes w below))
            (decide (eqb w v));
      }

  pub stop : {n : ℕ} → n ≡ length vs → length vs ≤ 32 → n ≤ v → Filled vs n types
  stop e h l =
      let s = f.size in
      record { number = e; bytes = rw e (all_typed vs types (omega arith) (λ w k. f.bytes w (omega arith))) }

module _ {vs : List Variable} {n : ℕ} {types : List ℕ} (f : Filled vs n types) where
  pub whole : n ≡ length (take n types)
  whole = f.number ∙ sym (ap length f.bytes) ∙ typed_count (take n types)

  pub few : length vs ≤ 32 → length (take n types) ≤ 32
  few h = let w = whole in let m = f.number in omega arith
