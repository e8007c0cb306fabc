-- A record looks at no byte past its body, so it may be read from all bytes after its kind.
--     variable_long, sub-long, clause-long    the length of a body, for a stage whose kinds all have one
--     variable_body, sub-body, node-body, clause-body    a variable, a sub-scope, a node and a clause
-- Assumes nothing.
use Prim.Native.Nat.{ℕ, zero, suc, ◌<◌}
use mathlib.Core.Path.{◌≡◌, refl}
use mathlib.Core.Bool.{Bool, true, false, not, ◌||◌}
use mathlib.Core.List.{List}
use native.Mathlib.Omega.{arith}
use lib.ListN.{get_or, take, drop}
use lib.Seq.{get_or-take}
use lib.Dec.{T, eqb}
use borrow.Author.Tests.{eqb-true, eq-eqb}
use Rattle.slices.specs.Bytes.{big_endian, number_at}
use Rattle.record.specs.Kinds.{kinds, shapes_of, pick_shape, shape_in}
use Rattle.record.specs.declared.Medium.TheVariants.{Book}
use Rattle.record.specs.declared.Shape.{Shape}
use Rattle.book.specs.Syntax.{node_of, clause_of}
use Rattle.book.proofs.Shapes.{every, at_every}

-- a stage whose kinds all have one length
long : ℕ → ℕ → Shape → Bool
long st n s = not (eqb s.stage st) || eqb s.length n

long_here : (st n : ℕ) (s : Shape) → T (long st n s) → s.stage ≡ st → s.length ≡ n
unfolding long
long_here st n s h e = go (rw (eq-eqb s.stage st e) at h)
  where
    told : (b : Bool) → T b → b ≡ true
    told true t = refl
    told false t = absurd t

    go : T (eqb s.length n) → s.length ≡ n
    go t = eqb-true s.length n (told (eqb s.length n) t)

pub variable_long : (k : ℕ) → (shape_in Book k).stage ≡ 2 → (shape_in Book k).length ≡ 1
unfolding shape_in shapes_of kinds every long
variable_long k e = long_here 2 1 (shape_in Book k) (at_every (λ s. long 2 1 (pick_shape Book s)) kinds _ tt tt k) e

pub sub_long : (k : ℕ) → (shape_in Book k).stage ≡ 3 → (shape_in Book k).length ≡ 1
unfolding shape_in shapes_of kinds every long
sub_long k e = long_here 3 1 (shape_in Book k) (at_every (λ s. long 3 1 (pick_shape Book s)) kinds _ tt tt k) e

pub clause_long : (k : ℕ) → (shape_in Book k).stage ≡ 5 → (shape_in Book k).length ≡ 5
unfolding shape_in shapes_of kinds every long
clause_long k e = long_here 5 5 (shape_in Book k) (at_every (λ s. long 5 5 (pick_shape Book s)) kinds _ tt tt k) e

one_byte : (n : ℕ) (r : List ℕ) → n ≡ 1 → get_or (take n r) 0 0 ≡ get_or r 0 0
one_byte n r e = rw e (get_or-take 1 r 0 0 (omega arith))

pub variable_body : (k : ℕ) (r : List ℕ) → (shape_in Book k).stage ≡ 2 → get_or (take (shape_in Book k).length r) 0 0 ≡ get_or r 0 0
variable_body k r e = one_byte (shape_in Book k).length r (variable_long k e)

pub sub_body : (k : ℕ) (r : List ℕ) → (shape_in Book k).stage ≡ 3 → get_or (take (shape_in Book k).length r) 0 0 ≡ get_or r 0 0
sub_body k r e = one_byte (shape_in Book k).length r (sub_long k e)

pub clause_body : (k : ℕ) (r : List ℕ) → (shape_in Book k).stage ≡ 5 → clause_of k (take (shape_in Book k).length r) ≡ clause_of k r
unfolding clause_of
clause_body k r e =
    rw (clause_long k e, get_or-take 5 r 0 0 (omega arith), get_or-take 5 r 1 0 (omega arith), get_or-take 5 r 2 0 (omega arith), get_or-take 5 r 3 0 (omega arith), get_or-take 5 r 4 0 (omega arith))

module _ (r : List ℕ) where
  byte : (n i : ℕ) → i < n → get_or (take n r) i 0 ≡ get_or r i 0
  byte n i h = get_or-take n r i 0 h

  other : (st : ℕ) → st ≡ 4 → T (not (eqb st 4)) → ⊥
  other st e h = rw e at h

  -- no kind from 19 on is a node's
  later : (k : ℕ) → (shape_in Book (suc (suc (suc (suc (suc (suc (suc (suc (suc (suc (suc (suc (suc (suc (suc (suc (suc (suc (suc k)))))))))))))))))))).stage ≡ 4 → ⊥
  unfolding shape_in shapes_of kinds every
  later k e = other _ e (at_every (λ s. not (eqb (pick_shape Book s).stage 4)) (drop 19 kinds) (shapes_of 0) tt tt k)

  pub node_body : (k : ℕ) → (shape_in Book k).stage ≡ 4 → node_of k (take (shape_in Book k).length r) ≡ node_of k r
  unfolding node_of shape_in shapes_of kinds number_at big_endian
  node_body zero e = absurd (omega arith)
  node_body (suc zero) e = absurd (omega arith)
  node_body (suc (suc zero)) e = absurd (omega arith)
  node_body (suc (suc (suc zero))) e = absurd (omega arith)
  node_body (suc (suc (suc (suc zero)))) e = rw (byte 1 0 (omega arith))
  node_body (suc (suc (suc (suc (suc zero))))) e = rw (byte 4 0 (omega arith), byte 4 1 (omega arith), byte 4 2 (omega arith), byte 4 3 (omega arith))
  node_body (suc (suc (suc (suc (suc (suc zero)))))) e = rw (byte 1 0 (omega arith))
  node_body (suc (suc (suc (suc (suc (suc (suc zero))))))) e = rw (byte 2 0 (omega arith), byte 2 1 (omega arith))
  node_body (suc (suc (suc (suc (suc (suc (suc (suc zero)))))))) e = rw (byte 1 0 (omega arith))
  node_body (suc (suc (suc (suc (suc (suc (suc (suc (suc zero))))))))) e = rw (byte 1 0 (omega arith))
  node_body (suc (suc (suc (suc (suc (suc (suc (suc (suc (suc zero)))))))))) e = rw (byte 1 0 (omega arith))
  node_body (suc (suc (suc (suc (suc (suc (suc (suc (suc (suc (suc zero))))))))))) e = rw (byte 1 0 (omega arith))
  node_body (suc (suc (suc (suc (suc (suc (suc (suc (suc (suc (suc (suc zero)))))))))))) e = rw (byte 2 0 (omega arith), byte 2 1 (omega arith))
  node_body (suc (suc (suc (suc (suc (suc (suc (suc (suc (suc (suc (suc (suc zero))))))))))))) e = rw (byte 2 0 (omega arith), byte 2 1 (omega arith))
  node_body (suc (suc (suc (suc (suc (suc (suc (suc (suc (suc (suc (suc (suc (suc zero)))))))))))))) e = rw (byte 2 0 (omega arith), byte 2 1 (omega arith))
  node_body (suc (suc (suc (suc (suc (suc (suc (suc (suc (suc (suc (suc (suc (suc (suc zero))))))))))))))) e = rw (byte 2 0 (omega arith), byte 2 1 (omega arith))
  node_body (suc (suc (suc (suc (suc (suc (suc (suc (suc (suc (suc (suc (suc (suc (suc (suc zero)))))))))))))))) e = rw (byte 2 0 (omega arith), byte 2 1 (omega arith))
  node_body (suc (suc (suc (suc (suc (suc (suc (suc (suc (suc (suc (suc (suc (suc (suc (suc (suc zero))))))))))))))))) e = rw (byte 3 0 (omega arith), byte 3 1 (omega arith), byte 3 2 (omega arith))
  node_body (suc (suc (suc (suc (suc (suc (suc (suc (suc (suc (suc (suc (suc (suc (suc (suc (suc (suc zero)))))))))))))))))) e = rw (byte 5 0 (omega arith), byte 5 1 (omega arith), byte 5 2 (omega arith), byte 5 3 (omega arith), byte 5 4 (omega arith))
  node_body (suc (suc (suc (suc (suc (suc (suc (suc (suc (suc (suc (suc (suc (suc (suc (suc (suc (suc (suc k))))))))))))))))))) e = absurd (later k e)
