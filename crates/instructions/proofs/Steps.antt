-- One instruction over the directory and the slices, by its kind.
--     own_named, called-named, ..    what an instruction names is there
--     does_own, does-called, ..      what the functions of memory ensure is the instruction's effect
--     none-of                        any other kind
-- Assumes nothing.
use Prim.Native.Nat.{ℕ, ◌+◌, ◌-◌, ◌*◌, ◌<◌, ◌≤◌}
use mathlib.Core.Path.{◌≡◌, refl, ap, ◌∙◌}
use mathlib.Core.List.{List, [], ◌∷◌}
use native.Mathlib.Omega.{arith}
use lib.ListN.{length, get_or, drop, length-drop}
use lib.Dec.{eqb}
use borrow.Author.Tests.{ne_eqb, eqb-true, eqb-false}
use mathlib.Core.Logic.{⊎_elim}
use Rattle.std.specs.Prelude.{Err}
use Rattle.laws.proofs.Booleans.{decide}
use Rattle.record.specs.Kinds.{kinds, shapes_of, shape_in}
use Rattle.record.proofs.Decision.{NoneOf}
use Rattle.slices.specs.Bytes.{big_endian}
use Rattle.calculus.specs.declared.Binary.{Binary}
use Rattle.operators.specs.Kinds.{operator}
use Rattle.machine.specs.Instructions.{binary, unknown, instruction_of}
use Rattle.machine.specs.Blocks.{body_length}
use Rattle.machine.specs.Machine.{unset, waiting, Memory, read_from, read_in, jumped_if_given, tried, Surroundings, effect}
use Rattle.instructions.specs.declared.Place.{Place}
use Rattle.instructions.specs.declared.Stop.TheVariants as halts
use Rattle.instructions.specs.Views.{entries, opened, own_cell, callee_at, memory}
use Rattle.directory.specs.Layout.{variables_in, sub_scopes_in, type_in, block_in, size_in}
use Rattle.instructions.specs.Effects.{Move, Moves, InFrame, Storing, Handing, StoreAt, OverrideAt, rest_at, kind_at, Stepping, Does, Stepped, memory_in}
use Rattle.instructions.proofs.Memory.{tab_at}

module _ {directory : List ℕ} {p : ℕ} {body : List ℕ} {s : Place} {st tr own frame : List ℕ} (w : Stepping directory p body s st tr own frame) where
  abbrev rest : List ℕ
  rest = rest_at body s.at

  abbrev k : ℕ
  k = kind_at body s

  pub stack_room : (s.height ≤ length st) × (s.height ≤ 1024)
  stack_room = (w.room.stack, w.room.height)

  pub tries_room : (s.tries ≤ 512) × (s.tries * 2 ≤ length tr)
  tries_room = (w.room.tries, w.room.pairs)

  pub own_named : k ≡ 6 → get_or rest 0 0 < variables_in directory p
  unfolding instruction_of
  own_named e = rw e at w.named

  store_named : k ≡ 41 → get_or rest 0 0 < variables_in directory p
  unfolding instruction_of
  store_named e = rw e at w.named

  pub given_named : k ≡ 44 → get_or rest 0 0 < variables_in directory p
  unfolding instruction_of
  given_named e = rw e at w.named

  pub called_named : k ≡ 7 → (get_or rest 0 0 < sub_scopes_in directory p) × (get_or rest 1 0 < size_in directory p (get_or rest 0 0))
  unfolding instruction_of
  called_named e = rw e at w.named

  handed_named : k ≡ 42 → (get_or rest 0 0 < sub_scopes_in directory p) × (get_or rest 1 0 < size_in directory p (get_or rest 0 0))
  unfolding instruction_of
  handed_named e = rw e at w.named

  pub own_fits : {x : ℕ} → x < variables_in directory p → (x < length own) × (x < length frame) × (x < 32)
  own_fits l = let b = w.bounded.variables in let o = w.framed.own_size in let f = w.framed.frame_size in (omega arith, omega arith, omega arith)

  pub called_fits : {i x : ℕ} → (i < sub_scopes_in directory p) × (x < size_in directory p i) → InFrame i x frame
  called_fits {i} l =
      let b = w.bounded.sub_scopes in
      let z = (w.bounded.sizes i l.0).1 in
      let f = w.framed.frame_size in
      record { sub_scope = omega arith; variable = omega arith; cell = omega arith }

  pub store_fits : k ≡ 41 → StoreAt rest p st s.height own frame
  store_fits e =
      let f = own_fits (store_named e) in
      record { stack = stack_room; block = w.bounded.block; variable = f.2; cell = f.0; flag = f.1 }

  pub override_fits : k ≡ 42 → OverrideAt rest directory p st s.height frame
  override_fits e =
      let n = handed_named e in
      record {
        stack = stack_room;
        block = w.bounded.block;
        callee = (w.bounded.sizes (get_or rest 0 0) n.0).0;
        inside = called_fits n;
      }

  own_at : (x c : ℕ) → x < variables_in directory p → get_or (memory_in directory p own frame c).own x unset ≡ own_cell own frame x
  unfolding memory_in memory
  own_at x c l = let z : 0 + x ≡ x = omega arith in tab_at (own_cell own frame) 0 (variables_in directory p) x unset l ∙ ap (own_cell own frame) z

  called_at_lem : (i c : ℕ) → i < sub_scopes_in directory p
      → get_or (memory_in directory p own frame c).callees i (waiting []) ≡ callee_at frame (size_in directory p i) i
  unfolding memory_in memory
  called_at_lem i c l =
      let z : 0 + i ≡ i = omega arith in
      tab_at (λ j. callee_at frame (size_in directory p j) j) 0 (sub_scopes_in directory p) i (waiting []) l
      ∙ ap (λ (j : ℕ). callee_at frame (size_in directory p j) j) z

  module _ (r : Move) where
    pub does_own : (e : k ≡ 6) (st' : List ℕ)
        → ((m : Memory) → Moves r 1 st' tr m (read_from (own_cell own frame (get_or rest 0 0)) (entries st s.height) (opened tr s.tries) m))
        → Stepped directory p body s st tr own frame r st' tr own frame
    unfolding effect instruction_of shape_in shapes_of kinds
    does_own e st' f =
        record {
          same = λ env c ty.
              let named = own_named e in
              let at = own_at (get_or rest 0 0) c named in
              rw e (rw at (f (memory_in directory p own frame c)));
        }

    pub does_called : (e : k ≡ 7) (st' : List ℕ)
        → ((n : ℕ) (m : Memory) → get_or rest 1 0 < n → Moves r 2 st' tr m (read_in (callee_at frame n (get_or rest 0 0)) (get_or rest 1 0) (entries st s.height) (opened tr s.tries) m))
        → Stepped directory p body s st tr own frame r st' tr own frame
    unfolding effect instruction_of shape_in shapes_of kinds
    does_called e st' f =
        record {
          same = λ env c ty.
              let named = called_named e in
              let at = called_at_lem (get_or rest 0 0) c named.0 in
              rw e (rw at (f (size_in directory p (get_or rest 0 0)) (memory_in directory p own frame c) named.1));
        }

    pub does_given : (e : k ≡ 44)
        → ((m : Memory) → Moves r 3 st tr m (jumped_if_given (own_cell own frame (get_or rest 0 0)) (big_endian 2 rest 1) (entries st s.height) (opened tr s.tries) m))
        → Stepped directory p body s st tr own frame r st tr own frame
    unfolding effect instruction_of shape_in shapes_of kinds
    does_given e f =
        record {
          same = λ env c ty.
              let named = given_named e in
              let at = own_at (get_or rest 0 0) c named in
              rw e (rw at (f (memory_in directory p own frame c)));
        }

    pub does_store : (e : k ≡ 41) (own' frame' : List ℕ) → Storing (type_in directory p (get_or rest 0 0)) (get_or rest 0 0) st s.height s.tries own frame r own' frame'
        → Stepped directory p body s st tr own frame r st tr own' frame'
    unfolding effect instruction_of shape_in shapes_of kinds memory_in
    does_store e own' frame' f =
        record {
          same = λ env c ty.
              let named = store_named e in
              rw (e, ty.own (get_or rest 0 0) named)
              (f.same (variables_in directory p) (sub_scopes_in directory p) (size_in directory p) tr c named tries_room);
        }

    pub does_override : (e : k ≡ 42) (frame' : List ℕ)
        → Handing (type_in directory (block_in directory p (get_or rest 0 0)) (get_or rest 1 0)) (get_or rest 0 0) (get_or rest 1 0) st s.height s.tries frame r frame'
        → Stepped directory p body s st tr own frame r st tr own frame'
    unfolding effect instruction_of shape_in shapes_of kinds memory_in
    does_override e frame' f =
        record {
          same = λ env c ty.
              let named = handed_named e in
              rw (e, ty.called (get_or rest 0 0) (get_or rest 1 0) named.0 named.1)
              (f.same (variables_in directory p) (sub_scopes_in directory p) (size_in directory p) tr own c w.bounded.variables w.bounded.sub_scopes
              named.0 named.1 (λ i l. (w.bounded.sizes i l).1) tries_room);
        }

-- the kinds of the operators with two operands
among : (P : ℕ → Type 0) → P 12 → P 13 → P 14 → P 15 → P 16 → (k : ℕ) → 12 ≤ k → k < 17 → P k
among P a b c d e k l u =
    ⊎_elim (λ q. rw (eqb-true k 12 q) a) (λ q.
    ⊎_elim (λ r. rw (eqb-true k 13 r) b) (λ r.
    ⊎_elim (λ s. rw (eqb-true k 14 s) c) (λ s.
    ⊎_elim (λ t. rw (eqb-true k 15 t) d) (λ t.
    let x = eqb-false k 12 q in
    let y = eqb-false k 13 r in
    let z = eqb-false k 14 s in
    let w = eqb-false k 15 t in
    let o : k ≡ 16 = omega arith in
    rw o e)
    (decide (eqb k 15))) (decide (eqb k 14))) (decide (eqb k 13))) (decide (eqb k 12))

operator_at : (k : ℕ) (rest : List ℕ) → 12 ≤ k → k < 17 → (instruction_of k rest ≡ binary (operator k)) × (body_length k ≡ 0)
unfolding instruction_of operator shape_in shapes_of kinds
operator_at k rest l u =
    among (λ j. (instruction_of j rest ≡ binary (operator j)) × (body_length j ≡ 0)) (refl, refl) (refl, refl) (refl, refl) (refl, refl) (refl, refl) k l u

-- an instruction that leaves every variable as it is
module _ {directory : List ℕ} {p k : ℕ} {rest st : List ℕ} {h : ℕ} {tr : List ℕ} {t : ℕ} {own frame : List ℕ} where
  pub pass_at : {j : ℕ} {r : Move} {st' tr' : List ℕ} → k ≡ j
      → ((env : Surroundings) (m : Memory)
      → Moves r (body_length j) st' tr' m (effect env (instruction_of j rest) (length (drop (body_length j) rest)) (entries st h) (opened tr t) m))
      → Does directory p k rest st h tr t own frame r st' tr' own frame
  pass_at e g = record { same = λ env c ty. rw e (g env (memory_in directory p own frame c)) }

  pub pass_try : {r : Move} (e : k ≡ 36) (tr' : List ℕ)
      → ((m : Memory) → Moves r 2 st tr' m (tried (length rest - 2 - big_endian 2 rest 0) (entries st h) (opened tr t) m))
      → Does directory p k rest st h tr t own frame r st tr' own frame
  unfolding effect instruction_of shape_in shapes_of kinds
  pass_try e tr' f = record { same = λ env c ty. rw e (rw (length-drop 2 rest) (f (memory_in directory p own frame c))) }

  pub pass_stuck : instruction_of k rest ≡ unknown → Does directory p k rest st h tr t own frame (Err halts.Stuck) st tr own frame
  unfolding effect
  pass_stuck e = record { same = λ env c ty. rw e }

  pub pass_binary : {op : Binary} {r : Move} {st' : List ℕ} → 12 ≤ k → k < 17 → op ≡ operator k
      → ((env : Surroundings) (m : Memory) (left : ℕ) → Moves r 0 st' tr m (effect env (binary op) left (entries st h) (opened tr t) m))
      → Does directory p k rest st h tr t own frame r st' tr own frame
  pass_binary l u e f =
      let i = operator_at k rest l u in
      record { same = λ env c ty. rw (i.0, i.1, ← e) (f env (memory_in directory p own frame c) (length rest)) }

-- the kinds of `step` that are no operators with two operands, the last one first
abbrev known : List (List ℕ)
known = (44 ∷ []) ∷ (42 ∷ []) ∷ (41 ∷ []) ∷ (40 ∷ []) ∷ (39 ∷ []) ∷ (38 ∷ []) ∷ (37 ∷ []) ∷ (36 ∷ []) ∷ (35 ∷ []) ∷ (34 ∷ []) ∷ (33 ∷ []) ∷ (32 ∷ [])
    ∷ (11 ∷ []) ∷ (10 ∷ []) ∷ (7 ∷ []) ∷ (6 ∷ []) ∷ (5 ∷ []) ∷ (4 ∷ []) ∷ []

-- the other kinds below and above those of the operators with two operands
module _ (k : ℕ) (rest : List ℕ) (s : k ≡ 43 → ⊥) (n : NoneOf known k) where
  none : (k ≡ 12 → ⊥) → (k ≡ 13 → ⊥) → (k ≡ 14 → ⊥) → (k ≡ 15 → ⊥) → (k ≡ 16 → ⊥) → instruction_of k rest ≡ unknown
  unfolding instruction_of
  none a b c d e =
      rw (
        ne_eqb k 4 n.0.0.0.0.0.0.0.0.0.0.0.0.0.0.0.0.0.1,
        ne_eqb k 5 n.0.0.0.0.0.0.0.0.0.0.0.0.0.0.0.0.1,
        ne_eqb k 6 n.0.0.0.0.0.0.0.0.0.0.0.0.0.0.0.1,
        ne_eqb k 7 n.0.0.0.0.0.0.0.0.0.0.0.0.0.0.1,
        ne_eqb k 10 n.0.0.0.0.0.0.0.0.0.0.0.0.0.1,
        ne_eqb k 11 n.0.0.0.0.0.0.0.0.0.0.0.0.1,
        ne_eqb k 12 a,
        ne_eqb k 13 b,
        ne_eqb k 14 c,
        ne_eqb k 15 d,
        ne_eqb k 16 e,
        ne_eqb k 32 n.0.0.0.0.0.0.0.0.0.0.0.1,
        ne_eqb k 33 n.0.0.0.0.0.0.0.0.0.0.1,
        ne_eqb k 34 n.0.0.0.0.0.0.0.0.0.1,
        ne_eqb k 35 n.0.0.0.0.0.0.0.0.1,
        ne_eqb k 36 n.0.0.0.0.0.0.0.1,
        ne_eqb k 37 n.0.0.0.0.0.0.1,
        ne_eqb k 38 n.0.0.0.0.0.1,
        ne_eqb k 39 n.0.0.0.0.1,
        ne_eqb k 40 n.0.0.0.1,
        ne_eqb k 41 n.0.0.1,
        ne_eqb k 42 n.0.1,
        ne_eqb k 43 s,
        ne_eqb k 44 n.1,
      )

  pub none_below : k < 10 → instruction_of k rest ≡ unknown
  none_below l = none (omega arith) (omega arith) (omega arith) (omega arith) (omega arith)

  pub none_above : 16 < k → instruction_of k rest ≡ unknown
  none_above l = none (omega arith) (omega arith) (omega arith) (omega arith) (omega arith)

  pub past_unary : 10 ≤ k → 12 ≤ k
  past_unary l =
      let a = n.0.0.0.0.0.0.0.0.0.0.0.0.0.1 in
      let b = n.0.0.0.0.0.0.0.0.0.0.0.0.1 in
      omega arith
