-- The code of an accepted book: what its blocks ask for, that positions fit, that the pieces are the fixed translation, and the answer.
--     block_ready, block_number, blank      what writing a block asks for
--     book_room                             every position is below 2^32
--     book_length, book_code                the pieces have the sizes said, and are the code of the book
--     refused, short, moved, written        the service's answers
-- Assumes nothing.
use Prim.Native.Nat.{ℕ, zero, suc, ◌+◌, ◌-◌, ◌*◌, ◌<◌, ◌≤◌}
use mathlib.Core.Path.{◌≡◌, refl, sym, ap, ◌∙◌}
use mathlib.Core.Bool.{Bool, true, false, cond}
use mathlib.Core.List.{List, [], ◌∷◌}
use native.Mathlib.Omega.{arith}
use lib.ListN.{length, get_or, replicate, length-replicate, get_or-replicate}
use lib.Seq.{get_or-take}
use lib.Dec.{ltb}
use Rattle.std.specs.Prelude.{Ok}
use Rattle.slices.specs.Bytes.{bytes_of}
use Rattle.book.specs.Syntax.{Scope, type_byte}
use Rattle.book.specs.Decode.{scopes_of}
use Rattle.book.specs.References.{scope_at}
use Rattle.book.specs.Positions.{variable_at, sub_scope_at}
use Rattle.book.specs.Scopes.{blocks}
use Rattle.book.specs.Steps.{step_count, step_order}
use Rattle.book.specs.Trees.{has_clause, called_target}
use Rattle.book.specs.Judge.{judge}
use Rattle.book.specs.declared.ValueType.TheVariants.{YesNo}
use Rattle.book.specs.declared.Variable.{Variable}
use Rattle.acceptance.specs.Accepted.{AcceptedBook}
use Rattle.acceptance.proofs.Acceptance.{accepted_faultless}
use Rattle.acceptance.proofs.Orders.{accepted_book}
use Rattle.links.specs.Links.{Sound, Blank}
use Rattle.translation.specs.Code.{size}
use Rattle.translation.specs.Blocks.{variable_code, override_code, overrides_code, call_code, step_code, steps_code, variables_code, sub_scopes_code, block_code}
use Rattle.translation.specs.Blocks.{blocks_code, code_of}
use Rattle.translation.proofs.Sizes.{code_length}
use Rattle.translation.proofs.Runnable.{tree_runnable}
use Rattle.emitter.specs.Emission.{Emits, Room, each, total}
use Rattle.emitter.specs.Pieces.{tree_at, variable_piece, variable_size, override_piece, override_size, called_count, call_piece, call_size}
use Rattle.emitter.specs.Pieces.{step_piece, step_size, ordered_piece, ordered_size, steps_piece, steps_size, head_count, head_byte, head_piece, pair}
use Rattle.emitter.specs.Pieces.{heads_piece, heads_size, block_piece, block_size, ordered_block, ordered_block_size}
use Rattle.emitter.specs.Pieces.{book_piece, book_size, Block, Tabled}
use Rattle.emitter.proofs.Emission.{alike, Downward, stop}
use Rattle.emitter.proofs.Pieces.{call_size_lem, variable_size_lem, steps_size_lem, heads_size_lem, variables_counted, sub_scopes_counted, block_size_lem}

-- Sums and lists of pieces

total_bound : (sizes : ℕ → ℕ) (b v m : ℕ) → ((w : ℕ) → w < v + m → sizes w ≤ b) → total sizes v m ≤ m * b
unfolding total
total_bound sizes b v zero h = omega arith
total_bound sizes b v (suc m) h = omega (arith, h v (omega arith), total_bound sizes b (suc v) m (λ w l. h w (omega arith)))

each_length : (piece : ℕ → List ℕ → List ℕ) (sizes : ℕ → ℕ) → ((v : ℕ) (k : List ℕ) → length (piece v k) ≡ sizes v + length k)
    → (v m : ℕ) (k : List ℕ) → length (each piece v m k) ≡ total sizes v m + length k
unfolding each total
each_length piece sizes h v zero k = omega arith
each_length piece sizes h v (suc m) k = omega (arith, h v (each piece (suc v) m k), each_length piece sizes h (suc v) m k)

module _ {A : Type 0} (d : A) (F : List A → List ℕ → List ℕ) (g : A → List ℕ → List ℕ) (piece : ℕ → List ℕ → List ℕ)
    (nil : (k : List ℕ) → F [] k ≡ k) (cons : (x : A) (xs : List A) (k : List ℕ) → F (x ∷ xs) k ≡ g x (F xs k)) where
  -- what a list makes is what its elements make, by their numbers
  list_each : (v : ℕ) (xs : List A) (k : List ℕ) → ((w : ℕ) → w < length xs → (j : List ℕ) → piece (v + w) j ≡ g (get_or xs w d) j)
      → each piece v (length xs) k ≡ F xs k
  unfolding each
  list_each v [] k h = sym (nil k)
  list_each v (x ∷ xs) k h =
      let z : v + 0 ≡ v = omega arith in
      let more = list_each (suc v) xs k (λ w l j. let y : suc v + w ≡ v + suc w = omega arith in rw y (h (suc w) (omega arith) j)) in
      ap (piece v) more ∙ rw z at (h 0 (omega arith) (F xs k)) ∙ sym (cons x xs k)

-- Lengths

module _ (bytes : List ℕ) (i : ℕ) where
  variable_length : (x : ℕ) (k : List ℕ) → length (variable_piece bytes i x k) ≡ variable_size bytes i x + length k
  unfolding variable_piece variable_size bytes_of
  variable_length x k = omega (arith, code_length (tree_at bytes i 255 x) (41 ∷ x ∷ k))

  override_length_lem : (c v : ℕ) (k : List ℕ) → length (override_piece bytes i c v k) ≡ override_size bytes i c v + length k
  unfolding override_piece override_size bytes_of
  override_length_lem c v k = go (has_clause (scope_at (scopes_of bytes) i) (called_target c v))
    where
      go : (b : Bool) → length (cond b (override_code (tree_at bytes i c v) c v k) k) ≡ cond b (size (tree_at bytes i c v) + 7) 0 + length k
      go true = omega (arith, code_length (tree_at bytes i c v) (37 ∷ 42 ∷ c ∷ v ∷ k))
      go false = omega arith

  call_length : (c : ℕ) (k : List ℕ) → length (call_piece bytes i c k) ≡ call_size bytes i c + length k
  unfolding call_piece call_size
  call_length c k = omega (arith, each_length (override_piece bytes i c) (override_size bytes i c) (override_length_lem c) 0 (called_count bytes i c) (43 ∷ c ∷ k))

  step_length : (x : ℕ) (k : List ℕ) → length (step_piece bytes i x k) ≡ step_size bytes i x + length k
  unfolding step_piece step_size
  step_length x k = go (ltb x (length (scope_at (scopes_of bytes) i).variables))
    where
      go : (b : Bool) → length (cond b (variable_piece bytes i x k) (call_piece bytes i (x - length (scope_at (scopes_of bytes) i).variables) k))
          ≡ cond b (variable_size bytes i x) (call_size bytes i (x - length (scope_at (scopes_of bytes) i).variables)) + length k
      go true = variable_length x k
      go false = call_length (x - length (scope_at (scopes_of bytes) i).variables) k

  ordered_length : (n : ℕ) (k : List ℕ) → length (ordered_piece bytes i n k) ≡ ordered_size bytes i n + length k
  unfolding ordered_piece ordered_size
  ordered_length n k = step_length (get_or (step_order (scope_at (scopes_of bytes) i)) n 0) k

  head_length : (kind n : ℕ) (k : List ℕ) → length (head_piece bytes i kind n k) ≡ pair n + length k
  unfolding head_piece
  head_length kind n k = omega arith

  block_length : (k : List ℕ) → length (block_piece bytes i k) ≡ block_size bytes i + length k
  unfolding block_piece block_size heads_piece heads_size steps_piece steps_size
  block_length k =
      let s = scope_at (scopes_of bytes) i in
      let steps = each (ordered_piece bytes i) 0 (step_count s) k in
      let numbers = each (head_piece bytes i 3) 0 (head_count bytes i 3) steps in
      omega (
        arith,
        each_length (ordered_piece bytes i) (ordered_size bytes i) ordered_length 0 (step_count s) k,
        each_length (head_piece bytes i 3) pair (head_length 3) 0 (head_count bytes i 3) steps,
        each_length (head_piece bytes i 2) pair (head_length 2) 0 (head_count bytes i 2) numbers,
      )

pub book_length : (bytes : List ℕ) → length (book_piece bytes []) ≡ book_size bytes
unfolding book_piece book_size ordered_block ordered_block_size
book_length bytes =
    let l = each_length (ordered_block bytes) (ordered_block_size bytes) (λ n k. block_length bytes (get_or (blocks (scopes_of bytes)) n 0) k) 0 (length (scopes_of bytes)) [] in
    omega arith

-- The fixed translation

module _ (bytes : List ℕ) (i : ℕ) where
  abbrev book : List Scope
  book = scopes_of bytes

  abbrev scope : Scope
  scope = scope_at (scopes_of bytes) i

  overrides_same : (c v : ℕ) (xs : List Variable) (k : List ℕ) → each (override_piece bytes i c) v (length xs) k ≡ overrides_code scope c v xs k
  unfolding each overrides_code override_piece tree_at
  overrides_same c v [] k = refl
  overrides_same c v (x ∷ xs) k = rw (overrides_same c (suc v) xs k) refl

  step_same : (x : ℕ) (k : List ℕ) → step_piece bytes i x k ≡ step_code book scope x k
  unfolding step_piece step_code call_piece call_code variable_piece variable_code tree_at sub_scope_at
  step_same x k =
      let n = length scope.variables in
      let c = x - n in
      ap (cond (ltb x n) (variable_code scope x k)) (overrides_same c 0 (scope_at book (get_or scope.sub_scopes c 0)).variables (43 ∷ c ∷ k))

  types_same : (k : List ℕ) → heads_piece bytes i 2 k ≡ variables_code scope.variables k
  unfolding heads_piece head_piece head_count head_byte variables_code variable_at
  types_same k =
      list_each (record { holds = YesNo }) variables_code (λ x j. 2 ∷ type_byte x.holds ∷ j) (head_piece bytes i 2) (λ j. refl) (λ x xs j. refl) 0 scope.variables k
      (λ w l j. let z : 0 + w ≡ w = omega arith in rw z refl)

  numbers_same : (k : List ℕ) → heads_piece bytes i 3 k ≡ sub_scopes_code scope.sub_scopes k
  unfolding heads_piece head_piece head_count head_byte sub_scopes_code sub_scope_at
  numbers_same k =
      list_each 0 sub_scopes_code (λ x j. 3 ∷ x ∷ j) (head_piece bytes i 3) (λ j. refl) (λ x xs j. refl) 0 scope.sub_scopes k
      (λ w l j. let z : 0 + w ≡ w = omega arith in rw z refl)

  steps_same : length (step_order scope) ≡ step_count scope → (k : List ℕ) → steps_piece bytes i k ≡ steps_code book scope (step_order scope) k
  unfolding steps_piece ordered_piece steps_code
  steps_same e k =
      ap (λ (n : ℕ). each (ordered_piece bytes i) 0 n k) (sym e)
      ∙ list_each 0 (steps_code book scope) (step_code book scope) (ordered_piece bytes i) (λ j. refl) (λ x xs j. refl) 0 (step_order scope) k
      (λ w l j. let z : 0 + w ≡ w = omega arith in rw z (step_same (get_or (step_order scope) w 0) j))

  block_same : length (step_order scope) ≡ step_count scope → (k : List ℕ) → block_piece bytes i k ≡ block_code book i k
  unfolding block_piece block_code
  block_same e k =
      let steps = steps_code book scope (step_order scope) k in
      ap (λ (j : List ℕ). 1 ∷ i ∷ heads_piece bytes i 2 (heads_piece bytes i 3 j)) (steps_same e k)
      ∙ ap (λ (j : List ℕ). 1 ∷ i ∷ heads_piece bytes i 2 j) (numbers_same steps)
      ∙ ap (λ (j : List ℕ). 1 ∷ i ∷ j) (types_same (sub_scopes_code scope.sub_scopes steps))

-- blocks in front of other bytes
unfoldable blocks_from_lem : List Scope → List ℕ → List ℕ → List ℕ
blocks_from_lem scopes [] k = k
blocks_from_lem scopes (i ∷ is) k = block_code scopes i (blocks_from_lem scopes is k)

blocks_from : (book : List Scope) (is : List ℕ) → blocks_from_lem book is [] ≡ blocks_code book is
unfolding blocks_from_lem blocks_code
blocks_from scopes [] = refl
blocks_from scopes (i ∷ is) = ap (block_code scopes i) (blocks_from scopes is)

module _ (bytes : List ℕ) (n : ℕ) (ok : judge bytes ≡ Ok n) where
  accepted : AcceptedBook bytes n
  accepted = accepted_book bytes n ok

  block_below : (m : ℕ) → m < n → get_or (blocks (scopes_of bytes)) m 0 < n
  block_below m l = accepted.block_order.below m (omega (arith, accepted.block_order.count))

  pub book_code : book_piece bytes [] ≡ code_of (scopes_of bytes)
  unfolding book_piece ordered_block code_of blocks_from_lem
  book_code =
      let is = blocks (scopes_of bytes) in
      let e : length (scopes_of bytes) ≡ length is = omega (arith, accepted.count, accepted.block_order.count) in
      ap (λ (m : ℕ). each (ordered_block bytes) 0 m []) e
      ∙ list_each 0 (blocks_from_lem (scopes_of bytes)) (block_code (scopes_of bytes)) (ordered_block bytes) (λ j. refl) (λ x xs j. refl) 0 is []
      (λ w l j.
      let z : 0 + w ≡ w = omega arith in
      rw z (block_same bytes (get_or is w 0) (accepted.step_orders (get_or is w 0) (block_below w (omega (arith, accepted.block_order.count)))).count j))
      ∙ blocks_from (scopes_of bytes) is

  -- Positions

  module _ (i : ℕ) (here : i < n) where
    variable_bound : (x : ℕ) → variable_size bytes i x ≤ 65540
    unfolding tree_at
    variable_bound x = omega (arith, variable_size_lem bytes i x, (tree_runnable bytes n ok i here (called_target 255 x)).near)

    override_bound : (c v : ℕ) → override_size bytes i c v ≤ 65538
    unfolding override_size tree_at
    override_bound c v = go (has_clause (scope_at (scopes_of bytes) i) (called_target c v))
      where
        go : (b : Bool) → cond b (size (tree_at bytes i c v) + 7) 0 ≤ 65538
        go true = omega (arith, (tree_runnable bytes n ok i here (called_target c v)).near)
        go false = omega arith

    call_bound : (c : ℕ) → call_size bytes i c ≤ 2097218
    call_bound c =
        omega (
          arith,
          call_size_lem bytes i c,
          total_bound (override_size bytes i c) 65538 0 (called_count bytes i c) (λ v l. override_bound c v),
          (accepted.within (sub_scope_at (scopes_of bytes) i c)).variables,
        )

    step_bound : (x : ℕ) → step_size bytes i x ≤ 2097218
    unfolding step_size
    step_bound x = go (ltb x (length (scope_at (scopes_of bytes) i).variables))
      where
        go : (b : Bool) → cond b (variable_size bytes i x) (call_size bytes i (x - length (scope_at (scopes_of bytes) i).variables)) ≤ 2097218
        go true = omega (arith, variable_bound x)
        go false = call_bound (x - length (scope_at (scopes_of bytes) i).variables)

    block_bound : block_size bytes i ≤ 83888802
    unfolding ordered_size step_count
    block_bound =
        omega (
          arith,
          block_size_lem bytes i,
          steps_size_lem bytes i,
          heads_size_lem bytes i 2,
          heads_size_lem bytes i 3,
          variables_counted bytes i,
          sub_scopes_counted bytes i,
          total_bound (ordered_size bytes i) 2097218 0 (step_count (scope_at (scopes_of bytes) i)) (λ m l. step_bound (get_or (step_order (scope_at (scopes_of bytes) i)) m 0)),
          total_bound pair 2 0 (head_count bytes i 2) (λ m l. omega arith),
          total_bound pair 2 0 (head_count bytes i 3) (λ m l. omega arith),
          (accepted.within i).variables,
          (accepted.within i).sub_scopes,
        )

  pub book_room : Room 0 (total (ordered_block_size bytes) 0 (length (scopes_of bytes)))
  unfolding ordered_block_size
  book_room =
      omega (
        arith,
        accepted.count,
        accepted.scopes,
        total_bound (ordered_block_size bytes) 83888802 0 (length (scopes_of bytes))
            (λ m l. block_bound (get_or (blocks (scopes_of bytes)) m 0) (block_below m (omega (arith, accepted.count)))),
      )

  -- The tables

  module _ {index table orders : List ℕ} (t : Tabled bytes index table orders n) where
    sound : Sound bytes index
    sound =
        record {
          laid = t.laid;
          variables = λ j. (accepted.within j).variables;
          sub_scopes = λ j. (accepted.within j).sub_scopes;
          clauses = λ j. (accepted.within j).clauses;
          named = (accepted_faultless bytes n ok).named;
        }

    pub block_at : (m : ℕ) → m < n → get_or table m 0 ≡ get_or (blocks (scopes_of bytes)) m 0
    block_at m l =
        sym (get_or-take (length (scopes_of bytes)) table m 0 (omega (arith, accepted.count)))
        ∙ ap (λ (xs : List ℕ). get_or xs m 0) t.block_order

    module _ (m i : ℕ) (l : m < n) (e : i ≡ get_or table m 0) where
      named : i < n
      named = omega (arith, block_at m l, block_below m l)

      pub block_ready : Block bytes index orders i
      unfolding sub_scope_at
      block_ready =
          let a = accepted.count in
          let b = accepted.scopes in
          let h = named in
          record {
            sound = sound;
            ordered = record {
              few = omega arith;
              row = t.step_orders i (omega arith);
              count = (accepted.step_orders i named).count;
            };
            called = record { called = λ k j. omega (arith, (accepted.formed i named).sub_scopes_named k j) };
          }

      pub block_number : ordered_block_size bytes m ≡ block_size bytes i
      unfolding ordered_block_size
      block_number = rw (e ∙ block_at m l)

      pub emits_ordered : {s o : List ℕ} {at q : ℕ} → Emits s at (block_piece bytes i) (block_size bytes i) q o
          → Emits s at (ordered_block bytes m) (ordered_block_size bytes m) q o
      unfolding ordered_block
      emits_ordered a = alike a (λ k. rw (e ∙ block_at m l) refl) (sym block_number)

pub book_stop : (bytes : List ℕ) {s o : List ℕ} {at p n : ℕ} → Downward s at (ordered_block bytes) (ordered_block_size bytes) (length (scopes_of bytes)) n p o
    → n ≡ 0 → Emits s at (book_piece bytes) (book_size bytes) p o
unfolding book_piece book_size
book_stop bytes d e = alike (stop d e) (λ k. refl) refl

pub blank : {bytes index : List ℕ} → Sound bytes index → Blank bytes index (replicate 834 255)
blank s =
    record {
      sound = s;
      size = length-replicate {A = ℕ} 834 255;
      blank = λ k l. get_or-replicate {A = ℕ} 834 k 255 0 l;
    }
