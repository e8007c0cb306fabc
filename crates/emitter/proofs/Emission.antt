-- Laws of bytes written from the end to the beginning.
--     put_byte, put_pair, put_distance, put_none     one byte, two, three, and none where there is no room
--     _then_                 two runs, one in front of the other
--     alike                   the same bytes, said otherwise
-- Assumes nothing.
use Prim.Native.Nat.{ℕ, zero, suc, ◌+◌, ◌-◌, ◌/◌, ◌%◌, ◌<◌, ◌≤◌}
use mathlib.Core.Path.{◌≡◌, refl, sym, ap, subst, ◌∙◌}
use mathlib.Core.List.{List, ◌∷◌}
use native.Mathlib.Omega.{arith}
use lib.ListN.{length, set, take, drop, length-set}
use lib.Seq.{set_split, length-take-le, drop_at}
use Rattle.slices.specs.Bytes.{bytes_of}
use Rattle.emitter.specs.Emission.{back, Emits, Room, one, two, jump, each, total}

put_at : (s : List ℕ) (at a p : ℕ) → p + suc at ≡ length s → Emits s at (one a) 1 (at + 1) (set s p a)
unfolding back
put_at s at a p h =
    let l = length-set s p a in
    let e : length s - (at + 1) ≡ p = omega arith in
    let f : suc p ≡ length s - at = omega arith in
    record {
      next = refl;
      same = l;
      memory = λ m.
          rw (l, e, set_split s p a (omega arith), ← f)
          (drop_at (take p s) (a ∷ drop (suc p) s) p (length-take-le p s (omega arith)));
    }

pub put_byte : (s : List ℕ) (at a : ℕ) → at < length s → Emits s at (one a) 1 (at + 1) (set s (length s - 1 - at) a)
put_byte s at a h = put_at s at a (length s - 1 - at) (omega arith)

pub put_none : (s : List ℕ) (at : ℕ) (f : List ℕ → List ℕ) (n : ℕ) → length s < at + n → Emits s at f n (at + n) s
put_none s at f n h = record { next = refl; same = refl; memory = λ m. absurd (omega arith) }

pub then : {s t u : List ℕ} {at p q n m : ℕ} {f g : List ℕ → List ℕ} → Emits s at f n p t → Emits t p g m q u → Emits s at (λ k. g (f k)) (n + m) q u
then {s} {t} {u} {at} {p} {q} {n} {m} {f} {g} a b =
    let l = a.same in
    let e = a.next in
    let h = b.next in
    record {
      next = omega arith;
      same = b.same ∙ a.same;
      memory = λ r. b.memory (omega arith) ∙ ap g (a.memory (omega arith));
    }

pub alike : {s t : List ℕ} {at p n m : ℕ} {f g : List ℕ → List ℕ} → Emits s at f n p t → ((k : List ℕ) → f k ≡ g k) → n ≡ m → Emits s at g m p t
alike {s} {t} {at} {p} {n} {m} {f} {g} a h e =
    let x = a.next in
    record { next = omega arith; same = a.same; memory = λ r. a.memory r ∙ h _ }

-- nothing
pub nothing : {s : List ℕ} {at : ℕ} → Emits s at (λ k. k) 0 at s
nothing {s} {at} = record { next = omega arith; same = refl; memory = λ r. refl }

-- one more byte in front
front : {s t : List ℕ} {at p n : ℕ} {f : List ℕ → List ℕ} → Emits s at f n p t → (a place q : ℕ) → place + q ≡ length s → q ≡ p + 1
    → Emits s at (λ k. a ∷ f k) (n + 1) q (set t place a)
front {s} {t} {at} {p} {n} {f} e a place q h z =
    let l = e.same in
    subst (λ (x : ℕ). Emits s at (λ k. a ∷ f k) (n + 1) x (set t place a)) (sym z) (then e (put_at t p a place (omega arith)))

module _ (s : List ℕ) (at : ℕ) where
  pub put_pair : (a b : ℕ) → at + 2 ≤ length s → Emits s at (two a b) 2 (at + 2) (set (set s (length s - (at + 2) + 1) b) (length s - (at + 2)) a)
  put_pair a b h =
      alike
      (front (front nothing b (length s - (at + 2) + 1) (at + 1) (omega arith) refl) a (length s - (at + 2)) (at + 2) (omega arith) (omega arith))
      (λ k. refl) refl

  pub put_distance : (kind d : ℕ) → at + 3 ≤ length s
      → Emits s at (jump kind d) 3 (at + 3)
      (set (set (set s (length s - (at + 3) + 2) (d % 256)) (length s - (at + 3) + 1) (d / 256 % 256)) (length s - (at + 3)) kind)
  unfolding bytes_of jump
  put_distance kind d h =
      alike
      (front
      (front (front nothing (d % 256) (length s - (at + 3) + 2) (at + 1) (omega arith) refl)
      (d / 256 % 256) (length s - (at + 3) + 1) (at + 2) (omega arith) (omega arith))
      kind (length s - (at + 3)) (at + 3) (omega arith) (omega arith))
      (λ k. refl) refl

-- Pieces written from the last to the first

total_le : (n : ℕ → ℕ) (count v : ℕ) → v ≤ count → total n v (count - v) ≤ total n 0 count
unfolding total
total_le n count zero h = let e : count - 0 ≡ count = omega arith in rw e (omega arith)
total_le n count (suc v) h =
    let e : count - v ≡ suc (count - suc v) = omega arith in
    let l = total_le n count v (omega arith) in
    omega (arith, rw e at l)

-- the pieces from number v on are written
pub record Downward (s : List ℕ) (at : ℕ) (piece : ℕ → List ℕ → List ℕ) (sizes : ℕ → ℕ) (count v p : ℕ) (m : List ℕ) : Type 0 where
  pub below : v ≤ count
  pub sofar : Emits s at (each piece v (count - v)) (total sizes v (count - v)) p m

pub start : {s : List ℕ} {at : ℕ} (piece : ℕ → List ℕ → List ℕ) (sizes : ℕ → ℕ) (count v : ℕ) → v ≡ count → Downward s at piece sizes count v at s
unfolding each total
start piece sizes count v e =
    let z : count - v ≡ 0 = omega arith in
    record { below = omega arith; sofar = rw z (alike nothing (λ k. refl) refl) }

module _ {s m : List ℕ} {at p count v : ℕ} {piece : ℕ → List ℕ → List ℕ} {sizes : ℕ → ℕ} (d : Downward s at piece sizes count v p m) where
  module _ (w : ℕ) (e : w ≡ v - 1) (h : 0 < v) where
    next_total : total sizes w (count - w) ≡ sizes w + total sizes v (count - v)
    unfolding total
    next_total =
        let b = d.below in
        let z : count - w ≡ suc (count - v) = omega arith in
        let y : suc w ≡ v = omega arith in
        rw (z, y)

    next_each : (k : List ℕ) → each piece w (count - w) k ≡ piece w (each piece v (count - v) k)
    unfolding each
    next_each k =
        let b = d.below in
        let z : count - w ≡ suc (count - v) = omega arith in
        let y : suc w ≡ v = omega arith in
        rw (z, y)

    pub room : Room at (total sizes 0 count) → Room p (sizes w)
    room r =
        let b = d.below in
        omega (arith, d.sofar.next, next_total, total_le sizes count w (omega arith))

    pub turn : {q : ℕ} {o : List ℕ} → Emits m p (piece w) (sizes w) q o → Downward s at piece sizes count w q o
    turn a =
        let b = d.below in
        record {
          below = omega arith;
          sofar = alike (then d.sofar a) (λ k. sym (next_each k)) (omega (arith, next_total));
        }

  pub stop : v ≡ 0 → Emits s at (each piece 0 count) (total sizes 0 count) p m
  stop e =
      let z : count - 0 ≡ count = omega arith in
      rw (e, z) at d.sofar
