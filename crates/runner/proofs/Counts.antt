-- The least that a run counts, of any blocks: where it ends in values, all that its block weighs; where it ends otherwise, its own entry.
-- What was counted and the weights of the sub-scopes that wait come to the block's weight at least, and at a block's end none waits.
--     run_at_least     of a run
-- Assumes nothing.
use Prim.Native.Nat.{ℕ, zero, suc, ◌+◌, ◌≤◌}
use mathlib.Core.Path.{◌≡◌, refl}
use mathlib.Core.Bool.{Bool, true, false, cond, false≢true}
use mathlib.Core.List.{List, [], ◌∷◌, map}
use mathlib.Core.Logic.{⊎_elim}
use native.Mathlib.Omega.{arith}
use lib.ListN.{length, get_or, set, drop}
use lib.Dec.{eqb, leb, ltb}
use Rattle.std.specs.Prelude.{Result, Ok, Err, Option, None, Some}
use Rattle.laws.proofs.Booleans.{decide}
use Rattle.calculus.specs.Values.{truth_of}
use Rattle.calculus.specs.Operators.{unary_of, binary_of}
use Rattle.calculus.specs.declared.Value.{Value}
use Rattle.answers.specs.declared.Cause.{Cause}
use Rattle.answers.specs.declared.Cause.TheVariants.{Empty, Conflict, OutOfRange}
use Rattle.calculus.specs.declared.Joined.{Joined}
use Rattle.calculus.specs.declared.Joined.TheVariants.{Nothing, One, Many}
use Rattle.book.specs.Syntax.{same_type}
use Rattle.book.specs.Scopes.{sum}
use Rattle.book.specs.Typing.{unary_type, operand_type}
use Rattle.book.specs.declared.ValueType.{ValueType}
use Rattle.book.specs.declared.ValueType.TheVariants.{YesNo}
use Rattle.lists.specs.Writing.{value_type}
use Rattle.evaluation.specs.Run.{values, ended}
use Rattle.machine.specs.Instructions.{Instruction, push, read_own, read_called, unary, binary, raise, jump, jump_if_no, begin_try, end_try, push_nothing, join, settle, store, override, enter, jump_if_given, unknown, instruction_of}
use Rattle.machine.specs.Blocks.{Block, body_length, variables_of}
use Rattle.machine.specs.Acceptance.{weight_in}
use Rattle.machine.specs.Machine.{Cell, unset, given, stored, Callee, waiting, entered, Memory, Try, Ran, ran, stuck, Next, go, stop, pushed, taking, wanting, answered, raised, raising, tried, closed, joined, settled, read_from, value_at, read_in, stored_to, handed_to, overridden, returned, entered_with, jumped_if_given, own_at, callee_at, Surroundings, effect}
use Rattle.machine.specs.Run.{Finals, missing, finals, finals_of, all_entered, whole, at_end, follow, exec, begin, surroundings, run_in}
use Rattle.blocks.specs.Running.{pending}
use Rattle.blocks.proofs.Invariant.{pending_all, run_cons, weight_cons}

-- with values x is counted at least, with an end one
abbrev pub AtLeast : Ran → ℕ → Type 0
AtLeast (ran (values vs n)) x = x ≤ n
AtLeast (ran (ended c n)) x = 1 ≤ n
AtLeast stuck x = Unit {0}

-- Sub-scopes that wait

module _ (w : ℕ → ℕ) where
  still_waits : (is : List ℕ) (cs : List Callee) (k : ℕ) (hs : List (Option Value)) → pending w is cs ≤ pending w is (set cs k (waiting hs))
  still_waits [] cs k hs = omega arith
  still_waits (i ∷ is) [] k hs = omega arith
  still_waits (i ∷ is) (waiting gs ∷ cs) zero hs = omega arith
  still_waits (i ∷ is) (entered vs ∷ cs) zero hs = omega arith
  still_waits (i ∷ is) (waiting gs ∷ cs) (suc k) hs = let r = still_waits is cs k hs in omega arith
  still_waits (i ∷ is) (entered vs ∷ cs) (suc k) hs = still_waits is cs k hs

  one_enters : (is : List ℕ) (cs : List Callee) (k : ℕ) (vs : List Value) → pending w is cs ≤ w (get_or is k 0) + pending w is (set cs k (entered vs))
  one_enters [] cs k vs = omega arith
  one_enters (i ∷ is) [] k vs = omega arith
  one_enters (i ∷ is) (waiting gs ∷ cs) zero vs = omega arith
  one_enters (i ∷ is) (entered us ∷ cs) zero vs = omega arith
  one_enters (i ∷ is) (waiting gs ∷ cs) (suc k) vs = let r = one_enters is cs k vs in omega arith
  one_enters (i ∷ is) (entered us ∷ cs) (suc k) vs = one_enters is cs k vs

  none_waits : (is : List ℕ) (cs : List Callee) → all_entered cs ≡ true → pending w is cs ≡ 0
  none_waits [] cs e = refl
  none_waits (i ∷ is) [] e = refl
  none_waits (i ∷ is) (waiting gs ∷ cs) e = absurd (false≢true e)
  none_waits (i ∷ is) (entered vs ∷ cs) e = none_waits is cs e

-- Along the run of a block

module _ (env : Surroundings) (is : List ℕ) (w : ℕ → ℕ) (W : ℕ) where
  record Owes (m : Memory) : Type 0 where
    some : 1 ≤ m.count
    owed : W ≤ m.count + pending w is m.callees

  abbrev After : Next → Type 0
  After (go d st ts m) = Owes m
  After (stop r) = AtLeast r W

  after_taking : (st : List Joined) (f : Value → List Joined → Next) → ((v : Value) (st₁ : List Joined) → After (f v st₁)) → After (taking st f)
  after_taking [] f k = tt
  after_taking (Nothing ∷ st) f k = tt
  after_taking (One v ∷ st) f k = k v st
  after_taking (Many ∷ st) f k = tt

  after_wanting : (t : ValueType) (v : Value) (x : Next) → After x → After (wanting t v x)
  after_wanting t v x k = ⊎_elim (λ q. rw q k) (λ q. rw q tt) (decide (same_type t (value_type v)))

  module _ (ts : List Try) (m : Memory) (g : Owes m) where
    after_push : (e : Joined) (st : List Joined) → After (pushed e st ts m)
    after_push e st = ⊎_elim (λ q. rw q g) (λ q. rw q tt) (decide (ltb (length st) 1024))

    after_answer : (o : Result Value Cause) (st : List Joined) → After (answered o st ts m)
    after_answer (Ok v) st = g
    after_answer (Err c) st = g.some

    after_read : (c : Cell) (st : List Joined) → After (read_from c st ts m)
    after_read unset st = tt
    after_read (given v) st = after_push (One v) st
    after_read (stored v) st = after_push (One v) st

    after_read_in : (c : Callee) (x : ℕ) (st : List Joined) → After (read_in c x st ts m)
    after_read_in (waiting gs) x st = tt
    after_read_in (entered vs) x st = after_read (value_at vs x) st

    after_join : (st : List Joined) → After (joined st ts m)
    after_join [] = tt
    after_join (y ∷ []) = tt
    after_join (y ∷ x ∷ st) = g

    after_settle : (d : ℕ) (st : List Joined) → After (settled d st ts m)
    after_settle d [] = tt
    after_settle d (Nothing ∷ st) = g
    after_settle d (One v ∷ st) = g
    after_settle d (Many ∷ st) = g.some

    after_store : (c : Cell) (x : ℕ) (v : Value) (st : List Joined) → After (stored_to c x v st ts m)
    after_store unset x v st = record { some = g.some; owed = g.owed }
    after_store (given u) x v st = tt
    after_store (stored u) x v st = tt

    after_hand : (h : Option Value) (gs : List (Option Value)) (k x : ℕ) (v : Value) (st : List Joined) → After (handed_to h gs k x v st ts m)
    after_hand None gs k x v st =
        record { some = omega (arith, g.some); owed = omega (arith, g.owed, still_waits w is m.callees k (set gs x (Some v))) }
    after_hand (Some u) gs k x v st = tt

    after_override_lem : (c : Callee) (k x : ℕ) (v : Value) (st : List Joined) → After (overridden c k x v st ts m)
    after_override_lem (waiting gs) k x v st = after_hand (get_or gs x None) gs k x v st
    after_override_lem (entered vs) k x v st = tt

    after_jump_if_given : (c : Cell) (d : ℕ) (st : List Joined) → After (jumped_if_given c d st ts m)
    after_jump_if_given unset d st = g
    after_jump_if_given (given v) d st = g
    after_jump_if_given (stored v) d st = g

    after_return : (r : Ran) (k : ℕ) (st : List Joined) → AtLeast r (w (get_or is k 0)) → After (returned r k st ts m)
    after_return (ran (values vs n)) k st f =
        record { some = omega (arith, g.some); owed = omega (arith, f, g.owed, one_enters w is m.callees k vs) }
    after_return (ran (ended c n)) k st f = omega (arith, g.some)
    after_return stuck k st f = tt

    after_enter : (run : List (Option Value) → Ran) (c : Callee) (k : ℕ) (st : List Joined) → ((gs : List (Option Value)) → AtLeast (run gs) (w (get_or is k 0)))
        → After (entered_with run c k st ts m)
    after_enter run (waiting gs) k st f = after_return (run gs) k st (f gs)
    after_enter run (entered vs) k st f = tt

    after_try : (x : ℕ) (st : List Joined) → After (tried x st ts m)
    after_try x st = ⊎_elim (λ q. rw q g) (λ q. rw q tt) (decide (ltb (length ts) 512))

  after_close : (st : List Joined) (ts : List Try) (m : Memory) → Owes m → After (closed st ts m)
  after_close st [] m g = tt
  after_close st (y ∷ ts) m g = g

  after_empty : (left : ℕ) (st : List Joined) (ts : List Try) (m : Memory) → Owes m → After (raised left st ts m)
  unfolding raised
  after_empty left st [] m g = g.some
  after_empty left st (y ∷ ts) m g =
      ⊎_elim
      (λ q. rw q (⊎_elim (λ r. rw r g) (λ r. rw r tt) (decide (leb y.height (length st)))))
      (λ q. rw q (after_empty left st ts m g))
      (decide (leb y.lands left))

  after_raise : (c : Cause) (left : ℕ) (st : List Joined) (ts : List Try) (m : Memory) → Owes m → After (raising c left st ts m)
  after_raise Empty left st ts m g = after_empty left st ts m g
  after_raise Conflict left st ts m g = g.some
  after_raise (OutOfRange s) left st ts m g = g.some

  at_end_lem : (m : Memory) → Owes m → AtLeast (at_end m) W
  at_end_lem m g = on_whole (finals_of m.own) (all_entered m.callees) refl
    where
      on_whole : (f : Finals) (c : Bool) → all_entered m.callees ≡ c → AtLeast (whole f c m.count) W
      on_whole missing c e = tt
      on_whole (finals vs) false e = tt
      on_whole (finals vs) true e = omega (arith, g.owed, none_waits w is m.callees e)

  after_follow : (n : Next) (F : ℕ → List Joined → List Try → Memory → Ran) → After n
      → ((d : ℕ) (st : List Joined) (ts : List Try) (m : Memory) → Owes m → AtLeast (F d st ts m) W) → AtLeast (follow n F) W
  after_follow (go d st ts m) F k more = more d st ts m k
  after_follow (stop r) F k more = k

  module _ (below : (k : ℕ) (gs : List (Option Value)) → AtLeast (env.enters k gs) (w (get_or is k 0))) where
    after_effect : (i : Instruction) (left : ℕ) (st : List Joined) (ts : List Try) (m : Memory) → Owes m → After (effect env i left st ts m)
    unfolding effect
    after_effect (push v) left st ts m g = after_push ts m g (One v) st
    after_effect (read_own x) left st ts m g = after_read ts m g (own_at m x) st
    after_effect (read_called k x) left st ts m g = after_read_in ts m g (callee_at m k) x st
    after_effect (unary op) left st ts m g =
        after_taking st _ (λ v st₁. after_wanting (unary_type op) v (answered (unary_of op v) st₁ ts m) (after_answer ts m g (unary_of op v) st₁))
    after_effect (binary op) left st ts m g =
        after_taking st _ (λ v st₁. after_taking st₁ _ (λ u st₂.
        after_wanting (operand_type op (value_type u)) u (wanting (operand_type op (value_type u)) v (answered (binary_of op u v) st₂ ts m))
        (after_wanting (operand_type op (value_type u)) v (answered (binary_of op u v) st₂ ts m) (after_answer ts m g (binary_of op u v) st₂))))
    after_effect (raise c) left st ts m g = after_raise c left st ts m g
    after_effect (jump d) left st ts m g = g
    after_effect (jump_if_no d) left st ts m g = after_taking st _ (λ v st₁. after_wanting YesNo v (go (cond (truth_of v) 0 d) st₁ ts m) g)
    after_effect (begin_try d) left st ts m g = after_try ts m g _ st
    after_effect end_try left st ts m g = after_close st ts m g
    after_effect push_nothing left st ts m g = after_push ts m g Nothing st
    after_effect join left st ts m g = after_join ts m g st
    after_effect (settle d) left st ts m g = after_settle ts m g d st
    after_effect (store x) left st ts m g =
        after_taking st _ (λ v st₁. after_wanting (env.own_type x) v (stored_to (own_at m x) x v st₁ ts m) (after_store ts m g (own_at m x) x v st₁))
    after_effect (override k x) left st ts m g =
        after_taking st _ (λ v st₁. after_wanting (env.called_type k x) v (overridden (callee_at m k) k x v st₁ ts m) (after_override_lem ts m g (callee_at m k) k x v st₁))
    after_effect (enter k) left st ts m g = after_enter ts m g (env.enters k) (callee_at m k) k st (below k)
    after_effect (jump_if_given x d) left st ts m g = after_jump_if_given ts m g (own_at m x) d st
    after_effect unknown left st ts m g = tt

    after_exec : (ys : List ℕ) (n : ℕ) (st : List Joined) (ts : List Try) (m : Memory) → Owes m → AtLeast (exec env ys n st ts m) W
    unfolding exec
    after_exec [] n st ts m g = at_end_lem m g
    after_exec (y ∷ ys) (suc n) st ts m g = after_exec ys n st ts m g
    after_exec (y ∷ ys) zero st ts m g =
        after_follow (effect env (instruction_of y ys) (length (drop (body_length y) ys)) st ts m) (λ d st₁ ts₁ m₁. exec env ys (body_length y + d) st₁ ts₁ m₁)
        (after_effect (instruction_of y ys) (length (drop (body_length y) ys)) st ts m g)
        (λ d st₁ ts₁ m₁ g₁. after_exec ys (body_length y + d) st₁ ts₁ m₁ g₁)

-- Runs

pub run_at_least : (blocks : List Block) (i : ℕ) (gs : List (Option Value)) → AtLeast (run_in blocks i gs) (weight_in blocks i)
unfolding run_in
run_at_least [] i gs = tt
run_at_least (b ∷ earlier) i gs =
    let env = surroundings earlier b (λ j handed. run_in earlier j handed) in
    let weight = suc (sum (weight_in earlier) b.sub_scopes) in
    let all = pending_all (weight_in earlier) (λ j. map (λ x. None) (variables_of earlier j)) b.sub_scopes in
    let below = run_at_least earlier in
    rw (run_cons b earlier i gs, weight_cons b earlier i)
    (⊎_elim
    (λ q. rw q (after_exec env b.sub_scopes (weight_in earlier) weight (λ k hs. below (get_or b.sub_scopes k 0) hs) b.body 0 [] [] (begin earlier b gs)
    (record { some = omega arith; owed = omega (arith, all) })))
    (λ q. rw q (below i gs))
    (decide (eqb b.scope i)))
