-- The links of all scopes, written one after the other into rows of 834 bytes.
--     row_part    the part of the links that is a scope's row
--     blanks      32 rows in which no link is set
--     Filling     what holds when the rows of the scopes below i are linked; fill
-- Assumes nothing.
use Prim.Native.Nat.{ℕ, ◌<◌, ◌≤◌, ◌+◌, ◌-◌, ◌*◌}
use mathlib.Core.Path.{◌≡◌, sym, ap, ◌∙◌}
use mathlib.Core.List.{List, ◌++◌, append_assoc}
use mathlib.Core.Logic.{⊎_elim}
use native.Mathlib.Omega.{arith}
use native.Mathlib.Nat.{eq-or-lt_of_le}
use lib.ListN.{length, take, drop, replicate, length-append, length-replicate, get_or-replicate}
use lib.Seq.{take_at, drop_at, length-take-le, drop-drop}
use Rattle.slices.proofs.Parts.{before_kept, lent_length}
use Rattle.links.specs.Links.{Linked, Sound, Blanks, row}

pub record Filling (bytes : List ℕ) (scopes : ℕ) (from links : List ℕ) (i : ℕ) : Type 0 where
  pub at : i ≤ scopes
  pub long : length links ≡ length from
  pub left : drop (i * 834) links ≡ drop (i * 834) from
  pub linked : (j : ℕ) → j < i → Linked bytes j (row j links)

-- a part that is lent or read, by its start and its end
pub row_part : (i : ℕ) (links : List ℕ) → take (i * 834 + 834 - i * 834) (drop (i * 834) links) ≡ row i links
row_part i links = let e : i * 834 + 834 - i * 834 ≡ 834 = omega arith in ap (λ (n : ℕ). take n (drop (i * 834) links)) e

-- 32 rows of nothing but 255
pub blanks : (bytes index : List ℕ) → Sound bytes index → (scopes : ℕ) → scopes ≤ 32
    → Blanks bytes index scopes (replicate 26688 255)
blanks bytes index s scopes l =
    record {
      sound = s;
      size = omega (arith, length-replicate {A = ℕ} 26688 255);
      blank = λ k h. get_or-replicate {A = ℕ} 26688 k 255 0 (omega arith);
    }

module _ (bytes index : List ℕ) (scopes : ℕ) (from : List ℕ) (b : Blanks bytes index scopes from) where
  module _ (links : List ℕ) (i : ℕ) (g : Filling bytes scopes from links i) where
    module _ (l : i < scopes) where
      width : i * 834 + 834 - i * 834 ≡ 834
      width = omega arith

      module _ (part : List ℕ) (w : Linked bytes i part) where
        abbrev next : List ℕ
        next = take (i * 834) links ++ (part ++ drop (i * 834 + 834 - i * 834) (drop (i * 834) links))

        front : length (take (i * 834) links) ≡ i * 834
        front = let long = g.long in let size = b.size in length-take-le (i * 834) links (omega arith)

        pub next_long : length next ≡ length from
        next_long =
            let long = g.long in
            let size = b.size in
            lent_length links part (i * 834) (i * 834 + 834 - i * 834) (w.size ∙ sym width) (omega arith) ∙ long

        this : row i next ≡ part
        this =
            let tail = drop (i * 834 + 834 - i * 834) (drop (i * 834) links) in
            ap (take 834) (drop_at (take (i * 834) links) (part ++ tail) (i * 834) front) ∙ take_at part tail 834 w.size

        others : (j : ℕ) → j < i → row j next ≡ row j links
        others j m =
            let long = g.long in
            let size = b.size in
            before_kept links (i * 834) (part ++ drop (i * 834 + 834 - i * 834) (drop (i * 834) links)) (j * 834) 834 (omega arith) (omega arith)

        after : drop ((i + 1) * 834) next ≡ drop ((i + 1) * 834) from
        after =
            let tail = drop (i * 834 + 834 - i * 834) (drop (i * 834) links) in
            let size = length-append (take (i * 834) links) part in
            let e : i * 834 + (i * 834 + 834 - i * 834) ≡ (i + 1) * 834 = omega arith in
            ap (drop ((i + 1) * 834)) (sym (append_assoc (take (i * 834) links) part tail))
            ∙ drop_at (take (i * 834) links ++ part) tail ((i + 1) * 834) (omega (arith, front, w.size))
            ∙ ap (drop (i * 834 + 834 - i * 834)) g.left
            ∙ drop-drop (i * 834 + 834 - i * 834) (i * 834) from
            ∙ ap (λ (n : ℕ). drop n from) e

        pub fill : Filling bytes scopes from next (i + 1)
        fill =
            record {
              at = omega arith;
              long = next_long;
              left = after;
              linked =
                  λ j m.
                  ⊎_elim
                  (λ (e : j ≡ i). rw (e, this) w)
                  (λ (h : j < i). rw (others j h) (g.linked j h))
                  (eq-or-lt_of_le {n = j} {m = i} (omega arith));
            }
