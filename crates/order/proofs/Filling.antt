-- The loop of `write_order`: what holds after k turns, and that a turn keeps it.
--     Filling    k vertices are written and marked done; start, turn and the two ways out, ended and full
-- Assumes nothing.
use Prim.Native.Nat.{ℕ, suc, ◌<◌, ◌≤◌, ◌+◌, ◌-◌}
use mathlib.Core.Path.{◌≡◌, refl, sym, ap, subst, ◌∙◌}
use mathlib.Core.Bool.{Bool, ◌||◌}
use mathlib.Core.List.{List, [], ◌∷◌, ◌++◌}
use native.Mathlib.Omega.{arith}
use native.Mathlib.Numerals.{add-one}
use lib.ListN.{length, get_or, drop, set, replicate, length-append, length-set}
use lib.Seq.{drop-cons, set_at, append_snoc}
use lib.Dec.{eqb}
use Rattle.std.specs.Prelude.{Some}
use Rattle.order.specs.Order.{among, next, taken, order}
use Rattle.order.specs.Matrix.{marked, edge_of}
use Rattle.order.specs.Answer.{Filled}
use Rattle.order.proofs.Matrix.{zero_marks, marked_set}
use Rattle.order.proofs.Ready.{next_congruent, next_bound}
use Rattle.order.proofs.Among.{among_snoc}
use Rattle.order.proofs.Order.{taken_more, taken_rest}
use Rattle.order.proofs.Answer.{fits_fit, filled_taken}

pub record Filling (deps : List ℕ) (n : ℕ) (from out done : List ℕ) (k : ℕ) : Type 0 where
  pub turns : k ≤ n
  pub room : length out ≡ length from
  pub marks : length done ≡ 40
  pub count : length (taken (edge_of deps) n k) ≡ k
  pub bytes : out ≡ taken (edge_of deps) n k ++ drop k from
  pub dones : (w : ℕ) → w < n → marked done w ≡ among (taken (edge_of deps) n k) w

pub start : (deps : List ℕ) (n : ℕ) (out : List ℕ) → n ≤ 40 → Filling deps n out out (replicate 40 0) 0
unfolding taken among
start deps n out small =
    record {
      turns = omega arith;
      room = refl;
      marks = refl;
      count = refl;
      bytes = refl;
      dones = λ w h. zero_marks 40 w;
    }

module _ (deps : List ℕ) (n : ℕ) (from out done : List ℕ) (k : ℕ) (g : Filling deps n from out done k)
    (small : n ≤ 40) (rows : 1640 ≤ length deps) (room : n ≤ length from) where
  finish : taken (edge_of deps) n k ≡ order (edge_of deps) n → Filled deps n from (Some k) out
  finish e =
      filled_taken deps n from (fits_fit deps n from small rows room) k out (rw e at g.count) (rw e at g.bytes)

  pub full : n ≤ k → Filled deps n from (Some n) out
  unfolding order
  full h =
      let t = g.turns in
      let e : k ≡ n = omega arith in
      subst (λ (j : ℕ). Filled deps n from (Some j) out) e (finish (ap (taken (edge_of deps) n) e))

  module _ (v : ℕ) (found : v ≡ next (edge_of deps) n (marked done)) where
    found_next : v ≡ next (edge_of deps) n (among (taken (edge_of deps) n k))
    found_next =
        found
        ∙ next_congruent (edge_of deps) (edge_of deps) n (marked done) (among (taken (edge_of deps) n k)) (λ u w a b. refl) g.dones

    pub ended : v ≡ n → Filled deps n from (Some k) out
    unfolding order
    ended h =
        let t = g.turns in
        let e : k + (n - k) ≡ n = omega arith in
        let last = taken_rest (edge_of deps) n k (n - k) (omega (arith, found_next)) in
        finish (sym last ∙ ap (taken (edge_of deps) n) e)

    pub turn : k < n → (v ≡ n → ⊥) → Filling deps n from (set out k v) (set done v 1) (k + 1)
    turn l h =
        let b = next_bound (edge_of deps) n (marked done) v found in
        let r = g.room in
        let m = g.marks in
        let xs = taken (edge_of deps) n k in
        let more : taken (edge_of deps) n (k + 1) ≡ xs ++ (v ∷ []) =
        rw (add-one k, found_next) (taken_more (edge_of deps) n k (omega (arith, found_next))) in
        record {
          turns = omega arith;
          room = length-set out k v ∙ r;
          marks = length-set done v 1 ∙ m;
          count = ap length more ∙ length-append xs (v ∷ []) ∙ ap (λ (j : ℕ). j + 1) g.count;
          bytes =
              ap (λ (o : List ℕ). set o k v) (g.bytes ∙ ap (λ (o : List ℕ). xs ++ o) (drop-cons from k 0 (omega arith)))
              ∙ set_at xs (get_or from k 0) (drop (suc k) from) v k g.count
              ∙ sym (append_snoc xs v (drop (suc k) from))
              ∙ rw (more, add-one k) refl;
          dones =
              λ w a.
              marked_set done v w (omega arith)
              ∙ ap (λ (o : Bool). o || eqb w v) (g.dones w a)
              ∙ sym (among_snoc xs v w)
              ∙ rw more refl;
        }
