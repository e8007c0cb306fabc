-- The bytes of a record's body, by their positions in the book.
--     after, number-after      a byte and a number after a record's kind
--     body_byte                every node has a byte after its kind; kind-inside, default-inside, the bytes that each kind has
-- Assumes nothing.
use Prim.Native.Nat.{ℕ, ◌+◌, ◌<◌, ◌≤◌}
use mathlib.Core.Path.{◌≡◌, refl, sym, ap, ◌∙◌}
use mathlib.Core.Bool.{Bool, true, false}
use mathlib.Core.List.{List, [], ◌∷◌}
use native.Mathlib.Omega.{arith}
use lib.ListN.{length, get_or, drop}
use lib.Seq.{get_or-drop}
use lib.Dec.{T, eqb, leb, leb→le, eqb→eq}
use borrow.Author.Tests.{leb-true}
use Rattle.slices.specs.Bytes.{big_endian, number_at}
use Rattle.record.specs.Kinds.{kinds, shapes_of, shape_in}
use Rattle.record.proofs.Decision.{NoneOf, by_range, over, is_any}
use Rattle.book.specs.Positions.{node_length}

module _ (bytes : List ℕ) (at : ℕ) where
  pub after : (k : ℕ) → get_or (drop (at + 1) bytes) k 0 ≡ get_or bytes (at + (1 + k)) 0
  after k = let e : at + 1 + k ≡ at + (1 + k) = omega arith in get_or-drop (at + 1) bytes k 0 ∙ ap (λ (j : ℕ). get_or bytes j 0) e

  pub number_after : number_at (drop (at + 1) bytes) 0 ≡ number_at bytes (at + 1)
  unfolding number_at big_endian
  number_after = rw (get_or-drop (at + 1) bytes 0 0, get_or-drop (at + 1) bytes 1 0, get_or-drop (at + 1) bytes 2 0, get_or-drop (at + 1) bytes 3 0)

-- a node's body has a byte
unfoldable some : ℕ → Bool
some k = leb 1 (node_length k)

same : Bool → Bool → Bool
same true b = b
same false b = false

same_is : (a b : Bool) → T (same a b) → a ≡ b
unfolding same
same_is true true h = refl
same_is true false h = absurd h
same_is false b h = absurd h

-- the single numbers of the decision over the kinds of nodes, the last first
abbrev pub keys : List (List ℕ)
keys = (17 ∷ []) ∷ (16 ∷ []) ∷ (15 ∷ []) ∷ (14 ∷ []) ∷ (13 ∷ []) ∷ (12 ∷ []) ∷ (11 ∷ []) ∷ (10 ∷ []) ∷ (9 ∷ []) ∷ (8 ∷ []) ∷ (7 ∷ []) ∷ (6 ∷ []) ∷ (5 ∷ []) ∷ (4 ∷ []) ∷ []

long_enough : (kind : ℕ) → kind < 256 → 1 ≤ node_length kind
unfolding over is_any some node_length shape_in shapes_of kinds same
long_enough kind l =
    let h : true ≡ some kind = by_range some same same_is [] true 0 256 tt kind tt (omega arith) (omega arith) in
    leb-true 1 (node_length kind) (sym h)

default_long : (kind : ℕ) → NoneOf keys kind → kind < 256 → 5 ≡ node_length kind
unfolding over is_any node_length shape_in shapes_of kinds
default_long kind out l = by_range node_length eqb eqb→eq keys 5 0 256 tt kind out (omega arith) (omega arith)

module _ (bytes : List ℕ) (at : ℕ) (whole : at + node_length (get_or bytes at 0) < length bytes) where
  pub body_byte : get_or bytes at 0 < 256 → at + 1 < length bytes
  body_byte l = let q = long_enough (get_or bytes at 0) l in omega arith

  pub kind_inside : (k n : ℕ) → get_or bytes at 0 ≡ k → T (leb n (node_length k)) → at + n < length bytes
  kind_inside k n e t =
      let q = leb→le n (node_length k) t in
      let w : at + node_length k < length bytes = rw e at whole in
      omega arith

  pub default_inside : NoneOf keys (get_or bytes at 0) → get_or bytes at 0 < 256 → (n : ℕ) → n ≤ 5 → at + n < length bytes
  default_inside out l n h = let q = default_long (get_or bytes at 0) out l in omega arith
