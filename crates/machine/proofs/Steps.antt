-- What the machine does at one instruction, behind skipped bytes, and where it goes on after a raise.
--     exec_past         bytes to pass are passed
--     exec_step         one instruction: its effect, then the bytes behind its body
--     step_truth ..     the same for each kind, with the effect of operators in effect-unary and effect-binary
--     stack_full, tries-full    one entry or one open try too many is stuck
--     raise_lands       the latest open try takes an empty that is raised
--     raise_past        before which byte it is raised does not matter, where all open tries land further on
--     raise_drops       nor does what stands above the heights of the open tries
-- Assumes nothing.
use Prim.Native.Nat.{ℕ, zero, suc, ◌+◌, ◌-◌, ◌≤◌, ◌<◌}
use mathlib.Core.Path.{◌≡◌, refl, sym, ap, ◌∙◌}
use mathlib.Core.Bool.{Bool, true, false, cond}
use mathlib.Core.List.{List, [], ◌∷◌, ◌++◌}
use native.Mathlib.Nat.{le_trans}
use native.Mathlib.Omega.{arith}
use lib.ListN.{length, drop}
use lib.IntN.{ℤ}
use mir.Syntax.{w32}
use mir.Val.{SFits, to_z, of_z}
use mir.Facts.{to_z-of_z, Fits-of_z}
use borrow.Author.Tests.{lt-ltb, le-ltb, le-leb}
use Rattle.slices.specs.Bytes.{big_endian, bytes_of, number_at, number_bytes}
use Rattle.record.specs.Kinds.{shape_in, shapes_of, kinds}
use Rattle.calculus.specs.Operators.{unary_of, binary_of}
use Rattle.calculus.specs.Joining as joining
use Rattle.calculus.specs.Joining.{Joins}
use Rattle.calculus.proofs.Joining.{joins_only}
use Rattle.calculus.specs.declared.Value.{Value}
use Rattle.calculus.specs.declared.Value.TheVariants.{Truth, Number}
use Rattle.answers.specs.declared.Cause.{Cause}
use Rattle.answers.specs.declared.Cause.TheVariants.{Empty, Conflict, OutOfRange}
use Rattle.calculus.specs.declared.Joined.{Joined}
use Rattle.calculus.specs.declared.Joined.TheVariants.{Nothing, One, Many}
use Rattle.calculus.specs.declared.Unary.{Unary}
use Rattle.calculus.specs.declared.Binary.{Binary}
use Rattle.calculus.specs.declared.Binary.TheVariants.{And, Add, Subtract, Equal, Less}
use Rattle.book.specs.Typing.{unary_type, operand_type}
use Rattle.book.proofs.Same.{same_self}
use Rattle.book.specs.declared.ValueType.{ValueType}
use Rattle.evaluation.specs.Run.{ended}
use Rattle.evaluation.specs.Types.{HasType}
use Rattle.machine.specs.Instructions.{instruction_of, unary, binary}
use Rattle.machine.specs.Blocks.{body_length}
use Rattle.machine.specs.Machine.{Memory, Try, Ran, ran, stuck, Next, go, stop, Surroundings, own_at, callee_at, answered, raised, raising, read_from, read_in, stored_to, overridden, entered_with, jumped_if_given, effect}
use Rattle.machine.specs.Run.{follow, exec}

-- two bytes say a distance, four a number
pub distance_back : (d : ℕ) (k : List ℕ) → d < 65536 → big_endian 2 (bytes_of 2 d ++ k) 0 ≡ d
unfolding big_endian bytes_of
distance_back d k h = omega arith

pub second_back : (x d : ℕ) (k : List ℕ) → d < 65536 → big_endian 2 (x ∷ bytes_of 2 d ++ k) 1 ≡ d
unfolding big_endian bytes_of
second_back x d k h = omega arith

bits_back : (u : ℕ) (k : List ℕ) → u < 4294967296 → big_endian 4 (bytes_of 4 u ++ k) 0 ≡ u
unfolding big_endian bytes_of
bits_back u k h = omega arith

number_back : (z : ℤ) (k : List ℕ) → SFits w32 z → number_at (number_bytes z ++ k) 0 ≡ z
unfolding number_at number_bytes
number_back z k f = ap (to_z w32) (bits_back (of_z w32 z) k (Fits-of_z f).fits) ∙ to_z-of_z f

-- Skipping

pub exec_past : (env : Surroundings) (ys : List ℕ) (n d : ℕ) (st : List Joined) (ts : List Try) (m : Memory)
    → exec env ys (n + d) st ts m ≡ exec env (drop n ys) d st ts m
unfolding exec
exec_past env [] zero d st ts m = refl
exec_past env [] (suc n) d st ts m = refl
exec_past env (b ∷ ys) zero d st ts m = let e : 0 + d ≡ d = omega arith in rw e
exec_past env (b ∷ ys) (suc n) d st ts m = let e : suc n + d ≡ suc (n + d) = omega arith in rw e (exec_past env ys n d st ts m)

pub exec_drop : (env : Surroundings) (ys : List ℕ) (n : ℕ) (st : List Joined) (ts : List Try) (m : Memory)
    → exec env ys n st ts m ≡ exec env (drop n ys) 0 st ts m
exec_drop env ys n st ts m = let e : n ≡ n + 0 = omega arith in ap (λ (i : ℕ). exec env ys i st ts m) e ∙ exec_past env ys n 0 st ts m

-- Instructions

module _ (env : Surroundings) (st : List Joined) (ts : List Try) (m : Memory) where
  pub exec_step : (k : ℕ) (rest : List ℕ)
      → exec env (k ∷ rest) 0 st ts m
      ≡ follow (effect env (instruction_of k rest) (length (drop (body_length k) rest)) st ts m) (exec env (drop (body_length k) rest))
  unfolding exec
  exec_step k rest = onward (effect env (instruction_of k rest) (length (drop (body_length k) rest)) st ts m)
    where
      onward : (x : Next)
          → follow x (λ d st₁ ts₁ m₁. exec env rest (body_length k + d) st₁ ts₁ m₁) ≡ follow x (exec env (drop (body_length k) rest))
      onward (go d st₁ ts₁ m₁) = exec_past env rest (body_length k) d st₁ ts₁ m₁
      onward (stop r) = refl

module _ (env : Surroundings) (st : List Joined) (ts : List Try) (m : Memory) where
  pub step_truth : (b : Bool) (k : List ℕ) → length st < 1024 → exec env (4 ∷ cond b 1 0 ∷ k) 0 st ts m ≡ exec env k 0 (One (Truth b) ∷ st) ts m
  unfolding effect instruction_of shape_in shapes_of kinds
  step_truth true k h = exec_step env st ts m 4 (1 ∷ k) ∙ rw (lt-ltb (length st) 1024 h)
  step_truth false k h = exec_step env st ts m 4 (0 ∷ k) ∙ rw (lt-ltb (length st) 1024 h)

  pub step_number : (z : ℤ) (k : List ℕ) → SFits w32 z → length st < 1024
      → exec env (5 ∷ number_bytes z ++ k) 0 st ts m ≡ exec env k 0 (One (Number z) ∷ st) ts m
  unfolding effect instruction_of shape_in shapes_of kinds number_bytes bytes_of
  step_number z k f h = exec_step env st ts m 5 (number_bytes z ++ k) ∙ rw (number_back z k f, lt-ltb (length st) 1024 h)

  pub step_own : (x : ℕ) (k : List ℕ) → exec env (6 ∷ x ∷ k) 0 st ts m ≡ follow (read_from (own_at m x) st ts m) (exec env k)
  unfolding effect instruction_of shape_in shapes_of kinds
  step_own x k = exec_step env st ts m 6 (x ∷ k)

  pub step_called : (s x : ℕ) (k : List ℕ) → exec env (7 ∷ s ∷ x ∷ k) 0 st ts m ≡ follow (read_in (callee_at m s) x st ts m) (exec env k)
  unfolding effect instruction_of shape_in shapes_of kinds
  step_called s x k = exec_step env st ts m 7 (s ∷ x ∷ k)

  pub effect_unary : (op : Unary) (v : Value) (n : ℕ) → HasType (unary_type op) v
      → effect env (unary op) n (One v ∷ st) ts m ≡ answered (unary_of op v) st ts m
  unfolding effect
  effect_unary op v n h = rw (h, same_self (unary_type op))

  -- "the right operand on top"
  pub effect_binary : (op : Binary) (u : ValueType) (v w : Value) (n : ℕ) → HasType (operand_type op u) v → HasType (operand_type op u) w
      → effect env (binary op) n (One w ∷ One v ∷ st) ts m ≡ answered (binary_of op v w) st ts m
  unfolding effect
  effect_binary And u v w n p q = rw (p, q)
  effect_binary Add u v w n p q = rw (p, q)
  effect_binary Subtract u v w n p q = rw (p, q)
  effect_binary Equal u v w n p q = rw (p, q, same_self u)
  effect_binary Less u v w n p q = rw (p, q)

  pub step_jump : (d : ℕ) (k : List ℕ) → d < 65536 → exec env (34 ∷ bytes_of 2 d ++ k) 0 st ts m ≡ exec env k d st ts m
  unfolding effect instruction_of shape_in shapes_of kinds bytes_of
  step_jump d k h = exec_step env st ts m 34 (bytes_of 2 d ++ k) ∙ rw (distance_back d k h)

  pub step_jump_if_no : (b : Bool) (d : ℕ) (k : List ℕ) → d < 65536
      → exec env (35 ∷ bytes_of 2 d ++ k) 0 (One (Truth b) ∷ st) ts m ≡ exec env k (cond b 0 d) st ts m
  unfolding effect instruction_of shape_in shapes_of kinds bytes_of
  step_jump_if_no b d k h = exec_step env (One (Truth b) ∷ st) ts m 35 (bytes_of 2 d ++ k) ∙ rw (distance_back d k h)

  pub step_try : (d : ℕ) (k : List ℕ) → d < 65536 → length ts < 512
      → exec env (36 ∷ bytes_of 2 d ++ k) 0 st ts m ≡ exec env k 0 st (record { lands = length k - d; height = length st } ∷ ts) m
  unfolding effect instruction_of shape_in shapes_of kinds bytes_of
  step_try d k h l = exec_step env st ts m 36 (bytes_of 2 d ++ k) ∙ rw (distance_back d k h, lt-ltb (length ts) 512 l)

  pub step_end_try : (t : Try) (k : List ℕ) → exec env (37 ∷ k) 0 st (t ∷ ts) m ≡ exec env k 0 st ts m
  unfolding effect instruction_of shape_in shapes_of kinds
  step_end_try t k = exec_step env st (t ∷ ts) m 37 k

  pub step_nothing : (k : List ℕ) → length st < 1024 → exec env (38 ∷ k) 0 st ts m ≡ exec env k 0 (Nothing ∷ st) ts m
  unfolding effect instruction_of shape_in shapes_of kinds
  step_nothing k h = exec_step env st ts m 38 k ∙ rw (lt-ltb (length st) 1024 h)

  -- "1,024 stack entries or 512 open tries passed"
  pub stack_full : (k : List ℕ) → 1024 ≤ length st → exec env (38 ∷ k) 0 st ts m ≡ stuck
  unfolding effect instruction_of shape_in shapes_of kinds
  stack_full k h = exec_step env st ts m 38 k ∙ rw (le-ltb (length st) 1024 h)

  pub tries_full : (d : ℕ) (k : List ℕ) → 512 ≤ length ts → exec env (36 ∷ bytes_of 2 d ++ k) 0 st ts m ≡ stuck
  unfolding effect instruction_of shape_in shapes_of kinds bytes_of
  tries_full d k h = exec_step env st ts m 36 (bytes_of 2 d ++ k) ∙ rw (le-ltb (length ts) 512 h)

  -- "the right one on top"
  pub step_join : (a b : Joined) (k : List ℕ) → exec env (39 ∷ k) 0 (b ∷ a ∷ st) ts m ≡ exec env k 0 (joining.join a b ∷ st) ts m
  unfolding effect instruction_of shape_in shapes_of kinds
  step_join a b k = exec_step env (b ∷ a ∷ st) ts m 39 k

  -- the same by the words of kind 39
  pub step_joins : {a b c : Joined} → Joins a b c → (k : List ℕ) → exec env (39 ∷ k) 0 (b ∷ a ∷ st) ts m ≡ exec env k 0 (c ∷ st) ts m
  step_joins {a} {b} j k = rw (← joins_only j) (step_join a b k)

  pub step_settle_nothing : (d : ℕ) (k : List ℕ) → exec env (40 ∷ bytes_of 2 d ++ k) 0 (Nothing ∷ st) ts m ≡ exec env k 0 st ts m
  unfolding effect instruction_of shape_in shapes_of kinds bytes_of
  step_settle_nothing d k = exec_step env (Nothing ∷ st) ts m 40 (bytes_of 2 d ++ k)

  pub step_settle_one : (v : Value) (d : ℕ) (k : List ℕ) → d < 65536
      → exec env (40 ∷ bytes_of 2 d ++ k) 0 (One v ∷ st) ts m ≡ exec env k d (One v ∷ st) ts m
  unfolding effect instruction_of shape_in shapes_of kinds bytes_of
  step_settle_one v d k h = exec_step env (One v ∷ st) ts m 40 (bytes_of 2 d ++ k) ∙ rw (distance_back d k h)

  pub step_settle_many : (d : ℕ) (k : List ℕ) → exec env (40 ∷ bytes_of 2 d ++ k) 0 (Many ∷ st) ts m ≡ ran (ended Conflict m.count)
  unfolding effect instruction_of shape_in shapes_of kinds bytes_of
  step_settle_many d k = exec_step env (Many ∷ st) ts m 40 (bytes_of 2 d ++ k)

  pub step_store : (x : ℕ) (v : Value) (k : List ℕ) → HasType (env.own_type x) v
      → exec env (41 ∷ x ∷ k) 0 (One v ∷ st) ts m ≡ follow (stored_to (own_at m x) x v st ts m) (exec env k)
  unfolding effect instruction_of shape_in shapes_of kinds
  step_store x v k h = exec_step env (One v ∷ st) ts m 41 (x ∷ k) ∙ rw (h, same_self (env.own_type x))

  pub step_override : (s x : ℕ) (v : Value) (k : List ℕ) → HasType (env.called_type s x) v
      → exec env (42 ∷ s ∷ x ∷ k) 0 (One v ∷ st) ts m ≡ follow (overridden (callee_at m s) s x v st ts m) (exec env k)
  unfolding effect instruction_of shape_in shapes_of kinds
  step_override s x v k h = exec_step env (One v ∷ st) ts m 42 (s ∷ x ∷ k) ∙ rw (h, same_self (env.called_type s x))

  pub step_enter : (s : ℕ) (k : List ℕ)
      → exec env (43 ∷ s ∷ k) 0 st ts m ≡ follow (entered_with (env.enters s) (callee_at m s) s st ts m) (exec env k)
  unfolding effect instruction_of shape_in shapes_of kinds
  step_enter s k = exec_step env st ts m 43 (s ∷ k)

  pub step_jump_if_given : (x d : ℕ) (k : List ℕ) → d < 65536
      → exec env (44 ∷ x ∷ bytes_of 2 d ++ k) 0 st ts m ≡ follow (jumped_if_given (own_at m x) d st ts m) (exec env k)
  unfolding effect instruction_of shape_in shapes_of kinds bytes_of
  step_jump_if_given x d k h = exec_step env st ts m 44 (x ∷ bytes_of 2 d ++ k) ∙ rw (second_back x d k h)

-- Raising

-- a cause is raised in front of the bytes k
abbrev pub raise_at : Surroundings → Cause → List ℕ → List Joined → List Try → Memory → Ran
raise_at env c k st ts m = follow (raising c (length k) st ts m) (exec env k)

-- every open try lands within the last n bytes, at a height of h or less
abbrev pub Open : ℕ → ℕ → List Try → Type 0
Open n h [] = Unit {0}
Open n h (t ∷ ts) = (t.lands ≤ n) × (t.height ≤ h) × Open n h ts

pub open_mono : (n n' h h' : ℕ) (ts : List Try) → n ≤ n' → h ≤ h' → Open n h ts → Open n' h' ts
open_mono n n' h h' [] p q o = tt
open_mono n n' h h' (t ∷ ts) p q o = (le_trans o.0 p, le_trans o.1 q, open_mono n n' h h' ts p q o.2)

module _ (env : Surroundings) (m : Memory) where
  pub step_raise_empty : (k : List ℕ) (st : List Joined) (ts : List Try) → exec env (32 ∷ k) 0 st ts m ≡ raise_at env Empty k st ts m
  unfolding effect instruction_of shape_in shapes_of kinds
  step_raise_empty k st ts = exec_step env st ts m 32 k

  pub step_raise_conflict : (k : List ℕ) (st : List Joined) (ts : List Try) → exec env (33 ∷ k) 0 st ts m ≡ raise_at env Conflict k st ts m
  unfolding effect instruction_of shape_in shapes_of kinds
  step_raise_conflict k st ts = exec_step env st ts m 33 k

  -- the latest open try takes an empty, with the stack cut to its height
  pub raise_lands : (k : List ℕ) (st : List Joined) (t : Try) (ts : List Try) → t.lands ≤ length k → t.height ≤ length st
      → raise_at env Empty k st (t ∷ ts) m ≡ exec env k (length k - t.lands) (drop (length st - t.height) st) ts m
  unfolding raised
  raise_lands k st t ts p q = rw (le-leb t.lands (length k) p, le-leb t.height (length st) q)

  pub raise_past : (c : Cause) (n : ℕ) (ys k : List ℕ) (st : List Joined) (ts : List Try) → drop n ys ≡ k → length ys ≡ n + length k
      → Open (length k) (length st) ts → raise_at env c ys st ts m ≡ raise_at env c k st ts m
  unfolding raised
  raise_past Empty n ys k st [] p l o = refl
  raise_past Empty n ys k st (t ∷ ts) p l o =
      let cut = drop (length st - t.height) st in
      let h = o.0 in
      let e : length ys - t.lands ≡ n + (length k - t.lands) = omega arith in
      raise_lands ys st t ts (omega arith) o.1
      ∙ ap (λ (i : ℕ). exec env ys i cut ts m) e
      ∙ exec_past env ys n (length k - t.lands) cut ts m
      ∙ ap (λ (xs : List ℕ). exec env xs (length k - t.lands) cut ts m) p
      ∙ sym (raise_lands k st t ts o.0 o.1)
  raise_past Conflict n ys k st ts p l o = refl
  raise_past (OutOfRange s) n ys k st ts p l o = refl

  pub raise_drops : (c : Cause) (k : List ℕ) (e : Joined) (st : List Joined) (ts : List Try) → Open (length k) (length st) ts
      → raise_at env c k (e ∷ st) ts m ≡ raise_at env c k st ts m
  unfolding raised
  raise_drops Empty k e st [] o = refl
  raise_drops Empty k e st (t ∷ ts) o =
      let h = o.1 in
      let l : suc (length st) - t.height ≡ suc (length st - t.height) = omega arith in
      raise_lands k (e ∷ st) t ts o.0 (omega arith)
      ∙ ap (λ (i : ℕ). exec env k (length k - t.lands) (drop i (e ∷ st)) ts m) l
      ∙ sym (raise_lands k st t ts o.0 o.1)
  raise_drops Conflict k e st ts o = refl
  raise_drops (OutOfRange s) k e st ts o = refl
