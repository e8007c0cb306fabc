-- The code of steps and of blocks, written from its parts.
-- Assumes nothing.
use Prim.Native.Nat.{ℕ, ◌+◌, ◌-◌, ◌*◌, ◌/◌, ◌%◌, ◌<◌, ◌≤◌}
use mathlib.Core.Path.{◌≡◌, refl, sym, ap, ◌∙◌}
use mathlib.Core.Bool.{true, false}
use mathlib.Core.List.{List, ◌∷◌, ◌++◌}
use native.Mathlib.Omega.{arith}
use lib.ListN.{length, get_or, drop}
use lib.Seq.{get_or-take, get_or-drop}
use lib.Dec.{ltb}
use borrow.Author.Tests.{lt-ltb, le-ltb}
use Rattle.slices.specs.Bytes.{bytes_of}
use Rattle.order.proofs.Order.{order_no_repeats}
use Rattle.book.specs.Decode.{scopes_of}
use Rattle.book.specs.References.{scope_at}
use Rattle.book.specs.Steps.{depends_on, step_count, step_order}
use Rattle.trees.specs.Chains.{clause_for}
use Rattle.translation.specs.Code.{size, code}
use Rattle.emitter.specs.Emission.{Emits, Emitted, two, jump, total}
use Rattle.emitter.specs.Pieces.{tree_at, variable_piece, variable_size, override_piece, override_size, called_count, call_piece, call_size}
use Rattle.emitter.specs.Pieces.{step_piece, step_size, ordered_piece, ordered_size, steps_piece, steps_size, head_count, head_byte, head_piece, pair}
use Rattle.emitter.specs.Pieces.{heads_piece, heads_size, block_piece, block_size, Ordered}
use Rattle.emitter.proofs.Emission.{then, alike, nothing, Downward, stop}

-- Variables

module _ (bytes : List ℕ) (i x : ℕ) where
  pub variable_size_lem : variable_size bytes i x ≡ size (tree_at bytes i 255 x) + 6
  unfolding variable_size
  variable_size_lem = refl

  pub emits_variable : {s m₁ m₂ m₃ o : List ℕ} {at p₁ p₂ p₃ q : ℕ} (d : ℕ) → Emits s at (two 41 x) 2 p₁ m₁ → Emitted m₁ p₁ (tree_at bytes i 255 x) p₂ m₂
      → d ≡ p₂ - at → Emits m₂ p₂ (two (d / 256 % 256) (d % 256)) 2 p₃ m₃ → Emits m₃ p₃ (two 44 x) 2 q o
      → Emits s at (variable_piece bytes i x) (variable_size bytes i x) q o
  unfolding variable_piece variable_size bytes_of
  emits_variable d a b e f g =
      let n = a.next in
      let l = b.next in
      let z : d ≡ size (tree_at bytes i 255 x) + 2 = omega arith in
      alike (then (then (then a b) f) g)
      (λ k. ap (λ (n : ℕ). 44 ∷ x ∷ bytes_of 2 n ++ code (tree_at bytes i 255 x) (41 ∷ x ∷ k)) z)
      (omega arith)

-- Calls

module _ (bytes : List ℕ) (i c v : ℕ) where
  pub override_none : {s : List ℕ} {at : ℕ} → clause_for bytes i c v ≡ false → Emits s at (override_piece bytes i c v) (override_size bytes i c v) at s
  unfolding override_piece override_size clause_for
  override_none h = alike nothing (λ k. rw h refl) (rw h refl)

  module _ (h : clause_for bytes i c v ≡ true) where
    pub override_size_lem : override_size bytes i c v ≡ size (tree_at bytes i c v) + 7
    unfolding override_size clause_for
    override_size_lem = rw h refl

    pub override_some : {s m₁ m₂ m₃ o : List ℕ} {at p₁ p₂ p₃ q d : ℕ} → Emits s at (two c v) 2 p₁ m₁ → Emits m₁ p₁ (two 37 42) 2 p₂ m₂
        → Emitted m₂ p₂ (tree_at bytes i c v) p₃ m₃ → d ≡ p₃ - p₂ + 4 → Emits m₃ p₃ (jump 36 d) 3 q o
        → Emits s at (override_piece bytes i c v) (override_size bytes i c v) q o
    unfolding override_piece clause_for jump
    override_some {d = d} a b e f g =
        let l = e.next in
        let z : d ≡ size (tree_at bytes i c v) + 4 = omega arith in
        alike (then (then (then a b) e) (rw z at g)) (λ k. rw h refl) (omega (arith, override_size_lem))

module _ (bytes : List ℕ) (i c : ℕ) where
  pub call_size_lem : call_size bytes i c ≡ 2 + total (override_size bytes i c) 0 (called_count bytes i c)
  unfolding call_size
  call_size_lem = refl

  pub call_stop : {s m o : List ℕ} {at p q v : ℕ} → Emits s at (two 43 c) 2 p m
      → Downward m p (override_piece bytes i c) (override_size bytes i c) (called_count bytes i c) v q o
      → v ≡ 0 → Emits s at (call_piece bytes i c) (call_size bytes i c) q o
  unfolding call_piece call_size
  call_stop a d e = alike (then a (stop d e)) (λ k. refl) refl

-- Steps

module _ (bytes : List ℕ) (i x n : ℕ) (e : n ≡ length (scope_at (scopes_of bytes) i).variables) where
  module _ (h : x < n) where
    own_step_lem : ltb x (length (scope_at (scopes_of bytes) i).variables) ≡ true
    own_step_lem = lt-ltb x (length (scope_at (scopes_of bytes) i).variables) (omega arith)

    pub own_size_lem : step_size bytes i x ≡ variable_size bytes i x
    unfolding step_size
    own_size_lem = rw own_step_lem refl

    pub emits_own_step : {s o : List ℕ} {at q : ℕ} → Emits s at (variable_piece bytes i x) (variable_size bytes i x) q o
        → Emits s at (step_piece bytes i x) (step_size bytes i x) q o
    unfolding step_piece
    emits_own_step a = alike a (λ k. rw own_step_lem refl) (sym own_size_lem)

  module _ (h : n ≤ x) where
    call_step : ltb x (length (scope_at (scopes_of bytes) i).variables) ≡ false
    call_step = le-ltb x (length (scope_at (scopes_of bytes) i).variables) (omega arith)

    pub call_step_size : step_size bytes i x ≡ call_size bytes i (x - n)
    unfolding step_size
    call_step_size = rw (call_step, e) refl

    pub emits_call_step : {s o : List ℕ} {at q : ℕ} → Emits s at (call_piece bytes i (x - n)) (call_size bytes i (x - n)) q o
        → Emits s at (step_piece bytes i x) (step_size bytes i x) q o
    unfolding step_piece
    emits_call_step a = alike a (λ k. rw (call_step, e) refl) (sym call_step_size)

pub step_total : (bytes : List ℕ) (i v k : ℕ) → v ≡ length (scope_at (scopes_of bytes) i).variables → k ≡ length (scope_at (scopes_of bytes) i).sub_scopes
    → v + k ≡ step_count (scope_at (scopes_of bytes) i)
unfolding step_count
step_total bytes i v k e f = rw (e, f)

module _ (bytes orders : List ℕ) (i : ℕ) (o : Ordered bytes orders i) where
  abbrev steps : List ℕ
  steps = step_order (scope_at (scopes_of bytes) i)

  module _ (n : ℕ) (h : n < step_count (scope_at (scopes_of bytes) i)) where
    pub step_below : get_or steps n 0 < step_count (scope_at (scopes_of bytes) i)
    unfolding step_order
    step_below = (order_no_repeats (depends_on (scope_at (scopes_of bytes) i)) (step_count (scope_at (scopes_of bytes) i)) n (omega (arith, o.count))).0

    pub step_at_lem : get_or orders (i * 40 + n) 0 ≡ get_or steps n 0
    step_at_lem =
        sym (get_or-drop (i * 40) orders n 0)
        ∙ sym (get_or-take (step_count (scope_at (scopes_of bytes) i)) (drop (i * 40) orders) n 0 h)
        ∙ ap (λ (xs : List ℕ). get_or xs n 0) o.row

  module _ (n x : ℕ) (h : n < step_count (scope_at (scopes_of bytes) i)) (e : x ≡ get_or orders (i * 40 + n) 0) where
    pub step_number : x < step_count (scope_at (scopes_of bytes) i)
    step_number = omega (arith, step_below n h, step_at_lem n h)

    pub step_size_lem : ordered_size bytes i n ≡ step_size bytes i x
    unfolding ordered_size
    step_size_lem = rw (e ∙ step_at_lem n h)

    pub emits_step : {s u : List ℕ} {at q : ℕ} → Emits s at (step_piece bytes i x) (step_size bytes i x) q u
        → Emits s at (ordered_piece bytes i n) (ordered_size bytes i n) q u
    unfolding ordered_piece
    emits_step a = alike a (λ k. rw (e ∙ step_at_lem n h) refl) (sym step_size_lem)

module _ (bytes : List ℕ) (i : ℕ) where
  pub steps_size_lem : steps_size bytes i ≡ total (ordered_size bytes i) 0 (step_count (scope_at (scopes_of bytes) i))
  unfolding steps_size
  steps_size_lem = refl

  pub steps_stop : {s m : List ℕ} {at p n : ℕ} → Downward s at (ordered_piece bytes i) (ordered_size bytes i) (step_count (scope_at (scopes_of bytes) i)) n p m
      → n ≡ 0 → Emits s at (steps_piece bytes i) (steps_size bytes i) p m
  unfolding steps_piece steps_size
  steps_stop d e = alike (stop d e) (λ k. refl) refl

  -- Blocks

  module _ (kind : ℕ) where
    pub heads_size_lem : heads_size bytes i kind ≡ total pair 0 (head_count bytes i kind)
    unfolding heads_size
    heads_size_lem = refl

    pub heads_stop : {s m : List ℕ} {at p n : ℕ} → Downward s at (head_piece bytes i kind) pair (head_count bytes i kind) n p m
        → n ≡ 0 → Emits s at (heads_piece bytes i kind) (heads_size bytes i kind) p m
    unfolding heads_piece heads_size
    heads_stop d e = alike (stop d e) (λ k. refl) refl

    pub emits_head : {s o : List ℕ} {at q : ℕ} (n b : ℕ) → b ≡ head_byte bytes i kind n → Emits s at (two kind b) 2 q o
        → Emits s at (head_piece bytes i kind n) 2 q o
    unfolding head_piece
    emits_head n b e a = alike a (λ k. ap (λ (x : ℕ). kind ∷ x ∷ k) e) refl

  pub variables_counted : head_count bytes i 2 ≡ length (scope_at (scopes_of bytes) i).variables
  unfolding head_count
  variables_counted = refl

  pub sub_scopes_counted : head_count bytes i 3 ≡ length (scope_at (scopes_of bytes) i).sub_scopes
  unfolding head_count
  sub_scopes_counted = refl

  pub block_size_lem : block_size bytes i ≡ steps_size bytes i + heads_size bytes i 3 + heads_size bytes i 2 + 2
  unfolding block_size
  block_size_lem = refl

  pub emits_block : {s m₁ m₂ m₃ o : List ℕ} {at p₁ p₂ p₃ q : ℕ} → Emits s at (steps_piece bytes i) (steps_size bytes i) p₁ m₁
      → Emits m₁ p₁ (heads_piece bytes i 3) (heads_size bytes i 3) p₂ m₂ → Emits m₂ p₂ (heads_piece bytes i 2) (heads_size bytes i 2) p₃ m₃
      → Emits m₃ p₃ (two 1 i) 2 q o → Emits s at (block_piece bytes i) (block_size bytes i) q o
  unfolding block_piece block_size
  emits_block a b e f = alike (then (then (then a b) e) f) (λ k. refl) refl
