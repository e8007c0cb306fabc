-- What holds all along the run of a block: it stands at an instruction, so do the landings of its open tries, no more was counted than the
-- block weighs, and own variables hold values of their types.
--     step_good     after every instruction
--     exec_good     of what the run comes to
-- Assumes nothing.
use Prim.Native.Nat.{ℕ, zero, suc, ◌+◌, ◌-◌, ◌<◌, ◌≤◌}
use mathlib.Core.Path.{◌≡◌, refl, ap, ◌∙◌}
use mathlib.Core.Bool.{Bool, true, false, not, cond, true≢false}
use mathlib.Core.List.{List, [], ◌∷◌, map}
use mathlib.Core.Logic.{⊎_elim}
use native.Mathlib.Omega.{arith}
use lib.ListN.{length, get_or, set, drop, length-drop, length-set, length-map}
use lib.Dec.{eqb, leb, ltb}
use borrow.Author.Tests.{ltb-true, ltb-false, leb-true}
use Rattle.std.specs.Prelude.{Result, Ok, Err, Option, None, Some}
use Rattle.laws.proofs.Booleans.{both, decide}
use Rattle.calculus.specs.Values.{truth_of}
use Rattle.calculus.specs.Operators.{unary_of, binary_of}
use Rattle.calculus.specs.declared.Value.{Value}
use Rattle.answers.specs.declared.Cause.{Cause}
use Rattle.answers.specs.declared.Cause.TheVariants.{Empty, Conflict, OutOfRange}
use Rattle.calculus.specs.declared.Joined.{Joined}
use Rattle.calculus.specs.declared.Joined.TheVariants.{Nothing, One, Many}
use Rattle.book.specs.Syntax.{same_type}
use Rattle.book.specs.Scopes.{sum}
use Rattle.book.specs.Typing.{unary_type, operand_type}
use Rattle.book.specs.declared.ValueType.{ValueType}
use Rattle.book.specs.declared.ValueType.TheVariants.{YesNo}
use Rattle.book.specs.declared.Variable.{Variable}
use Rattle.lists.specs.Writing.{value_type}
use Rattle.evaluation.specs.Run.{values, ended}
use Rattle.machine.specs.Instructions.{Instruction, push, read_own, read_called, unary, binary, raise, jump, jump_if_no, begin_try, end_try, push_nothing, join, settle, store, override, enter, jump_if_given, unknown, instruction_of}
use Rattle.book.specs.Lists.{any}
use Rattle.machine.specs.Blocks.{Block, body_length, has_block, variables_of}
use Rattle.machine.specs.Acceptance.{lands, fits, all_fit, weight_in, well_formed, all_well_formed}
use Rattle.machine.specs.Machine.{Cell, unset, given, stored, Callee, waiting, entered, Memory, Try, Ran, ran, stuck, Next, go, stop, pushed, taking, wanting, answered, raised, raising, tried, closed, joined, settled, read_from, value_at, read_in, stored_to, handed_to, overridden, returned, entered_with, jumped_if_given, own_at, callee_at, Surroundings, effect}
use Rattle.machine.specs.Run.{Finals, missing, finals, in_front, finals_of, all_entered, whole, at_end, follow, exec, type_in, cell_of, begins, begin, surroundings, run_in}
use Rattle.machine.proofs.Landing.{lands_here}
use Rattle.book.proofs.Same.{same_type_lem}
use Rattle.blocks.specs.Running.{Aligned, pending}
use Rattle.blocks.specs.Running as running
use Rattle.blocks.proofs.Positions.{exec_past, exec_at, exec_to, lands_within, lands_on, fits_at}

-- Own variables

abbrev pub CellFits : ValueType → Cell → Type 0
CellFits t unset = Unit {0}
CellFits t (given v) = same_type t (value_type v) ≡ true
CellFits t (stored v) = same_type t (value_type v) ≡ true

abbrev pub CellsFit : List Variable → List Cell → Type 0
CellsFit [] [] = Unit {0}
CellsFit [] (c ∷ cs) = ⊥
CellsFit (x ∷ xs) [] = ⊥
CellsFit (x ∷ xs) (c ∷ cs) = CellFits x.holds c × CellsFit xs cs

fit_set : (xs : List Variable) (cs : List Cell) (x : ℕ) (v : Value) → CellsFit xs cs → same_type (type_in xs x) (value_type v) ≡ true → CellsFit xs (set cs x (stored v))
fit_set [] [] x v f e = f
fit_set [] (c ∷ cs) x v f e = absurd f
fit_set (y ∷ xs) [] x v f e = f
fit_set (y ∷ xs) (c ∷ cs) zero v f e = (e, f.1)
fit_set (y ∷ xs) (c ∷ cs) (suc x) v f e = (f.0, fit_set xs cs x v f.1 e)

abbrev FinalTyped : List Variable → Finals → Type 0
FinalTyped xs missing = Unit {0}
FinalTyped xs (finals vs) = map value_type vs ≡ map (λ x. x.holds) xs

final_front : (x : Variable) (xs : List Variable) (v : Value) (f : Finals) → same_type x.holds (value_type v) ≡ true → FinalTyped xs f → FinalTyped (x ∷ xs) (in_front v f)
final_front x xs v missing e k = tt
final_front x xs v (finals vs) e k = rw (← same_type_lem x.holds (value_type v) e, k)

finals_typed : (xs : List Variable) (cs : List Cell) → CellsFit xs cs → FinalTyped xs (finals_of cs)
finals_typed [] [] f = refl
finals_typed [] (c ∷ cs) f = absurd f
finals_typed (x ∷ xs) [] f = absurd f
finals_typed (x ∷ xs) (unset ∷ cs) f = tt
finals_typed (x ∷ xs) (given v ∷ cs) f = final_front x xs v (finals_of cs) f.0 (finals_typed xs cs f.1)
finals_typed (x ∷ xs) (stored v ∷ cs) f = final_front x xs v (finals_of cs) f.0 (finals_typed xs cs f.1)

-- Counting

abbrev is_entered : Callee → Bool
is_entered (waiting gs) = false
is_entered (entered vs) = true

apart : {vs : List Value} {gs : List (Option Value)} → entered vs ≡ waiting gs → ⊥
apart q = true≢false (ap is_entered q)

pending_waits : (w : ℕ → ℕ) (is : List ℕ) (cs : List Callee) (k : ℕ) {gs : List (Option Value)} (hs : List (Option Value)) → get_or cs k (waiting []) ≡ waiting gs
    → pending w is (set cs k (waiting hs)) ≡ pending w is cs
pending_waits w [] cs k hs e = refl
pending_waits w (i ∷ is) [] k hs e = refl
pending_waits w (i ∷ is) (waiting gs ∷ cs) zero hs e = refl
pending_waits w (i ∷ is) (entered vs ∷ cs) zero hs e = absurd (apart e)
pending_waits w (i ∷ is) (waiting gs ∷ cs) (suc k) hs e = rw (pending_waits w is cs k hs e)
pending_waits w (i ∷ is) (entered vs ∷ cs) (suc k) hs e = pending_waits w is cs k hs e

pending_enters : (w : ℕ → ℕ) (is : List ℕ) (cs : List Callee) (k : ℕ) {gs : List (Option Value)} (vs : List Value) → get_or cs k (waiting []) ≡ waiting gs
    → k < length is → length cs ≡ length is → w (get_or is k 0) + pending w is (set cs k (entered vs)) ≡ pending w is cs
pending_enters w [] cs k vs e l s = absurd (omega arith)
pending_enters w (i ∷ is) [] k vs e l s = absurd (omega arith)
pending_enters w (i ∷ is) (waiting gs ∷ cs) zero vs e l s = refl
pending_enters w (i ∷ is) (entered us ∷ cs) zero vs e l s = absurd (apart e)
pending_enters w (i ∷ is) (waiting gs ∷ cs) (suc k) vs e l s = let r = pending_enters w is cs k vs e (omega arith) (omega arith) in omega arith
pending_enters w (i ∷ is) (entered us ∷ cs) (suc k) vs e l s = pending_enters w is cs k vs e (omega arith) (omega arith)

pub pending_all : (w : ℕ → ℕ) (f : ℕ → List (Option Value)) (is : List ℕ) → pending w is (map (λ i. waiting (f i)) is) ≡ sum w is
unfolding sum
pending_all w f [] = refl
pending_all w f (i ∷ is) = rw (pending_all w f is)

-- what a run comes to counts no more than x
abbrev pub Within : Ran → ℕ → Type 0
Within (ran (values vs n)) x = n ≤ x
Within (ran (ended c n)) x = n ≤ x
Within stuck x = Unit {0}

module _ (earlier : List Block) (b : Block) (env : Surroundings) (A : Type 0) (w : ℕ → ℕ) (W : ℕ) where
  abbrev pub RanGood : Ran → Type 0
  RanGood (ran (values vs n)) = (n ≤ W) × (A → map value_type vs ≡ map (λ x. x.holds) b.variables)
  RanGood (ran (ended c n)) = n ≤ W
  RanGood stuck = Unit {0}

  pub record MemGood (m : Memory) : Type 0 where
    pub typed : A → CellsFit b.variables m.own
    pub many : length m.callees ≡ length b.sub_scopes
    pub counted : m.count + pending w b.sub_scopes m.callees ≤ W

  abbrev pub TriesGood : List Try → Type 0
  TriesGood ts = running.TriesGood b.body ts

  module _ (J : ℕ → Type 0) where
    abbrev pub NextGood : Next → Type 0
    NextGood (go d st ts m) = J d × TriesGood ts × MemGood m
    NextGood (stop r) = RanGood r

    taking_good : (st : List Joined) (f : Value → List Joined → Next) → ((v : Value) (st₁ : List Joined) → NextGood (f v st₁)) → NextGood (taking st f)
    taking_good [] f k = tt
    taking_good (Nothing ∷ st) f k = tt
    taking_good (One v ∷ st) f k = k v st
    taking_good (Many ∷ st) f k = tt

    wanting_good : (t : ValueType) (v : Value) (x : Next) → (same_type t (value_type v) ≡ true → NextGood x) → NextGood (wanting t v x)
    wanting_good t v x k = ⊎_elim (λ q. rw q (k q)) (λ q. rw q tt) (decide (same_type t (value_type v)))

    module _ (stay : J 0) (ts : List Try) (m : Memory) (t : TriesGood ts) (g : MemGood m) where
      few : m.count ≤ W
      few = let c = g.counted in omega arith

      pushed_good : (e : Joined) (st : List Joined) → NextGood (pushed e st ts m)
      pushed_good e st = ⊎_elim (λ q. rw q (stay, t, g)) (λ q. rw q tt) (decide (ltb (length st) 1024))

      answered_good : (o : Result Value Cause) (st : List Joined) → NextGood (answered o st ts m)
      answered_good (Ok v) st = (stay, t, g)
      answered_good (Err c) st = few

      read_good : (c : Cell) (st : List Joined) → NextGood (read_from c st ts m)
      read_good unset st = tt
      read_good (given v) st = pushed_good (One v) st
      read_good (stored v) st = pushed_good (One v) st

      read_in_good : (c : Callee) (x : ℕ) (st : List Joined) → NextGood (read_in c x st ts m)
      read_in_good (waiting gs) x st = tt
      read_in_good (entered vs) x st = read_good (value_at vs x) st

      joined_good : (st : List Joined) → NextGood (joined st ts m)
      joined_good [] = tt
      joined_good (y ∷ []) = tt
      joined_good (y ∷ x ∷ st) = (stay, t, g)

      settled_good : (d : ℕ) (st : List Joined) → J d → NextGood (settled d st ts m)
      settled_good d [] j = tt
      settled_good d (Nothing ∷ st) j = (stay, t, g)
      settled_good d (One v ∷ st) j = (j, t, g)
      settled_good d (Many ∷ st) j = few

      stored_good : (c : Cell) (x : ℕ) (v : Value) (st : List Joined) → same_type (type_in b.variables x) (value_type v) ≡ true
          → NextGood (stored_to c x v st ts m)
      stored_good unset x v st e =
          (stay, t, record { typed = λ a. fit_set b.variables m.own x v (g.typed a) e; many = g.many; counted = g.counted })
      stored_good (given u) x v st e = tt
      stored_good (stored u) x v st e = tt

      handed_good : (h : Option Value) (gs hs : List (Option Value)) (k x : ℕ) (v : Value) (st : List Joined) → callee_at m k ≡ waiting hs → NextGood (handed_to h gs k x v st ts m)
      handed_good None gs hs k x v st e =
          let p = pending_waits w b.sub_scopes m.callees k (set gs x (Some v)) e in
          let c = g.counted in
          (stay, t, record { typed = g.typed; many = length-set m.callees k (waiting (set gs x (Some v))) ∙ g.many; counted = omega arith })
      handed_good (Some u) gs hs k x v st e = tt

      overridden_good : (c : Callee) (k x : ℕ) (v : Value) (st : List Joined) → callee_at m k ≡ c → NextGood (overridden c k x v st ts m)
      overridden_good (waiting gs) k x v st e = handed_good (get_or gs x None) gs gs k x v st e
      overridden_good (entered vs) k x v st e = tt

      given_good : (c : Cell) (d : ℕ) (st : List Joined) → J d → NextGood (jumped_if_given c d st ts m)
      given_good unset d st j = (stay, t, g)
      given_good (given v) d st j = (j, t, g)
      given_good (stored v) d st j = (stay, t, g)

      returned_good : (r : Ran) (k : ℕ) (gs : List (Option Value)) (st : List Joined) → callee_at m k ≡ waiting gs → k < length b.sub_scopes
          → Within r (w (get_or b.sub_scopes k 0)) → NextGood (returned r k st ts m)
      returned_good (ran (values vs n)) k gs st e l f =
          let p = pending_enters w b.sub_scopes m.callees k vs e l g.many in
          let c = g.counted in
          (stay, t, record { typed = g.typed; many = length-set m.callees k (entered vs) ∙ g.many; counted = omega arith })
      returned_good (ran (ended c n)) k gs st e l f =
          let p = pending_enters w b.sub_scopes m.callees k [] e l g.many in
          let z = g.counted in
          omega arith
      returned_good stuck k gs st e l f = tt

      entered_good : (run : List (Option Value) → Ran) (c : Callee) (k : ℕ) (st : List Joined) → callee_at m k ≡ c → k < length b.sub_scopes
          → ((gs : List (Option Value)) → Within (run gs) (w (get_or b.sub_scopes k 0))) → NextGood (entered_with run c k st ts m)
      entered_good run (waiting gs) k st e l f = returned_good (run gs) k gs st e l (f gs)
      entered_good run (entered vs) k st e l f = tt

      tried_good : (x : ℕ) (st : List Joined) → Aligned b.body (length b.body - x) → NextGood (tried x st ts m)
      tried_good x st a = ⊎_elim (λ q. rw q (stay, (a, t), g)) (λ q. rw q tt) (decide (ltb (length ts) 512))

    branch_good : (d : ℕ) (v : Value) (st : List Joined) (ts : List Try) (m : Memory) → J 0 → J d → TriesGood ts → MemGood m
        → NextGood (wanting YesNo v (go (cond (truth_of v) 0 d) st ts m))
    branch_good d v st ts m stay j t g =
        wanting_good YesNo v (go (cond (truth_of v) 0 d) st ts m) (λ e. (⊎_elim (λ q. rw q stay) (λ q. rw q j) (decide (truth_of v)), t, g))

    closed_good : (stay : J 0) (ts : List Try) (m : Memory) (st : List Joined) → TriesGood ts → MemGood m → NextGood (closed st ts m)
    closed_good stay [] m st t g = tt
    closed_good stay (y ∷ ts) m st t g = (stay, t.1, g)

    raised_good : (left : ℕ) (st : List Joined) (ts : List Try) (m : Memory) → TriesGood ts → MemGood m
        → ((t : Try) → Aligned b.body (length b.body - t.lands) → t.lands ≤ left → J (left - t.lands)) → NextGood (raised left st ts m)
    unfolding raised
    raised_good left st [] m t g k = let c = g.counted in omega arith
    raised_good left st (y ∷ ts) m t g k =
        ⊎_elim
        (λ q. rw q (⊎_elim (λ r. rw r (k y t.0 (leb-true y.lands left q), t.1, g)) (λ r. rw r tt) (decide (leb y.height (length st)))))
        (λ q. rw q (raised_good left st ts m t.1 g k))
        (decide (leb y.lands left))

    module _ (types : (x : ℕ) → env.own_type x ≡ type_in b.variables x)
        (bound : (k : ℕ) → k < length b.sub_scopes → (gs : List (Option Value)) → Within (env.enters k gs) (w (get_or b.sub_scopes k 0)))
        (after : List ℕ)
        (land : (d : ℕ) → lands after 0 d ≡ true → J d)
        (tries : (d : ℕ) → lands after 0 d ≡ true → Aligned b.body (length b.body - (length after - d)))
        (back : (t : Try) → Aligned b.body (length b.body - t.lands) → t.lands ≤ length after → J (length after - t.lands)) where
      raising_good : (c : Cause) (st : List Joined) (ts : List Try) (m : Memory) → TriesGood ts → MemGood m → NextGood (raising c (length after) st ts m)
      raising_good Empty st ts m t g = raised_good (length after) st ts m t g back
      raising_good Conflict st ts m t g = let c = g.counted in omega arith
      raising_good (OutOfRange s) st ts m t g = let c = g.counted in omega arith

      pub effect_good : (i : Instruction) (st : List Joined) (ts : List Try) (m : Memory) → fits earlier b i after ≡ true → TriesGood ts → MemGood m
          → NextGood (effect env i (length after) st ts m)
      unfolding effect fits
      effect_good (push v) st ts m f t g = pushed_good (land 0 (lands_here after)) ts m t g (One v) st
      effect_good (read_own x) st ts m f t g = read_good (land 0 (lands_here after)) ts m t g (own_at m x) st
      effect_good (read_called k x) st ts m f t g = read_in_good (land 0 (lands_here after)) ts m t g (callee_at m k) x st
      effect_good (unary op) st ts m f t g =
          taking_good st _ (λ v st₁. wanting_good (unary_type op) v (answered (unary_of op v) st₁ ts m) (λ e. answered_good (land 0 (lands_here after)) ts m t g (unary_of op v) st₁))
      effect_good (binary op) st ts m f t g =
          taking_good st _ (λ v st₁. taking_good st₁ _ (λ u st₂.
          wanting_good (operand_type op (value_type u)) u (wanting (operand_type op (value_type u)) v (answered (binary_of op u v) st₂ ts m)) (λ e.
          wanting_good (operand_type op (value_type u)) v (answered (binary_of op u v) st₂ ts m) (λ e₂.
          answered_good (land 0 (lands_here after)) ts m t g (binary_of op u v) st₂))))
      effect_good (raise c) st ts m f t g = raising_good c st ts m t g
      effect_good (jump d) st ts m f t g = (land d f, t, g)
      effect_good (jump_if_no d) st ts m f t g =
          taking_good st _ (λ v st₁. branch_good d v st₁ ts m (land 0 (lands_here after)) (land d f) t g)
      effect_good (begin_try d) st ts m f t g = tried_good (land 0 (lands_here after)) ts m t g (length after - d) st (tries d f)
      effect_good end_try st ts m f t g = closed_good (land 0 (lands_here after)) ts m st t g
      effect_good push_nothing st ts m f t g = pushed_good (land 0 (lands_here after)) ts m t g Nothing st
      effect_good join st ts m f t g = joined_good (land 0 (lands_here after)) ts m t g st
      effect_good (settle d) st ts m f t g = settled_good (land 0 (lands_here after)) ts m t g d st (land d f)
      effect_good (store x) st ts m f t g =
          taking_good st _ (λ v st₁. wanting_good (env.own_type x) v (stored_to (own_at m x) x v st₁ ts m) (λ e. stored_good (land 0 (lands_here after)) ts m t g (own_at m x) x v st₁ (rw (← types x) e)))
      effect_good (override k x) st ts m f t g =
          taking_good st _ (λ v st₁. wanting_good (env.called_type k x) v (overridden (callee_at m k) k x v st₁ ts m) (λ e. overridden_good (land 0 (lands_here after)) ts m t g (callee_at m k) k x v st₁ refl))
      effect_good (enter k) st ts m f t g =
          let l = ltb-true k (length b.sub_scopes) f in
          entered_good (land 0 (lands_here after)) ts m t g (env.enters k) (callee_at m k) k st refl l (bound k l)
      effect_good (jump_if_given x d) st ts m f t g =
          given_good (land 0 (lands_here after)) ts m t g (own_at m x) d st (land d (both (ltb x (length b.variables)) (lands after 0 d) f).1)
      effect_good unknown st ts m f t g = tt

  -- At a position

  module _ (types : (x : ℕ) → env.own_type x ≡ type_in b.variables x)
      (bound : (k : ℕ) → k < length b.sub_scopes → (gs : List (Option Value)) → Within (env.enters k gs) (w (get_or b.sub_scopes k 0)))
      (fit : all_fit earlier b b.body 0 ≡ true) where
    -- behind the instruction at a position, and d bytes on
    abbrev pub Behind : ℕ → ℕ → Type 0
    Behind at d = Aligned b.body (suc at + (body_length (get_or b.body at 0) + d))

    module _ (at : ℕ) (p : at < length b.body) (e : lands b.body 0 at ≡ true) where
      abbrev rest : List ℕ
      rest = drop (suc at) b.body

      abbrev l : ℕ
      l = body_length (get_or b.body at 0)

      left_of : length (drop l rest) ≡ length b.body - suc at - l
      left_of = length-drop l rest ∙ ap (λ (n : ℕ). n - l) (length-drop (suc at) b.body)

      back : (t : Try) → Aligned b.body (length b.body - t.lands) → t.lands ≤ length (drop l rest) → Behind at (length (drop l rest) - t.lands)
      back t a q u =
          let n = left_of in
          let z : suc at + (l + (length (drop l rest) - t.lands)) ≡ length b.body - t.lands = omega arith in
          rw z (a (rw (← z) u))

      tries : (d : ℕ) → lands (drop l rest) 0 d ≡ true → Aligned b.body (length b.body - (length (drop l rest) - d))
      tries d f u =
          let n = left_of in
          let i = lands_within (drop l rest) 0 d f in
          let z : length b.body - (length (drop l rest) - d) ≡ suc at + (l + d) = omega arith in
          rw z (lands_on b.body at d p e f (rw (← z) u))

      pub step_good : (st : List Joined) (ts : List Try) (m : Memory) → TriesGood ts → MemGood m
          → NextGood (Behind at) (effect env (instruction_of (get_or b.body at 0) rest) (length (drop l rest)) st ts m)
      step_good st ts m t g =
          effect_good (Behind at) types bound (drop l rest) (λ d f. lands_on b.body at d p e f) tries back
          (instruction_of (get_or b.body at 0) rest) st ts m (fits_at earlier b b.body at fit p e) t g

    whole_good : (f : Finals) (c : Bool) (n : ℕ) → n ≤ W → (A → FinalTyped b.variables f) → RanGood (whole f c n)
    whole_good missing c n p q = tt
    whole_good (finals vs) false n p q = tt
    whole_good (finals vs) true n p q = (p, q)

    end_good : (m : Memory) → MemGood m → RanGood (at_end m)
    end_good m g =
        let c = g.counted in
        whole_good (finals_of m.own) (all_entered m.callees) m.count (omega arith) (λ a. finals_typed b.variables m.own (g.typed a))

    follow_good : (J : ℕ → Type 0) (n : Next) (F : ℕ → List Joined → List Try → Memory → Ran) → NextGood J n
        → ((d : ℕ) (st : List Joined) (ts : List Try) (m : Memory) → J d → TriesGood ts → MemGood m → RanGood (F d st ts m)) → RanGood (follow n F)
    follow_good J (go d st ts m) F k more = more d st ts m k.0 k.1 k.2
    follow_good J (stop r) F k more = k

    pub exec_good : (f at : ℕ) (st : List Joined) (ts : List Try) (m : Memory) → length b.body ≤ at + f → Aligned b.body at → TriesGood ts → MemGood m
        → RanGood (exec env b.body at st ts m)
    exec_good zero at st ts m q a t g = rw (exec_past env b.body at st ts m (omega arith)) (end_good m g)
    exec_good (suc f) at st ts m q a t g =
        ⊎_elim
        (λ r.
        let p = ltb-true at (length b.body) r in
        rw (exec_at env b.body at st ts m p)
        (follow_good (Behind at)
        (effect env (instruction_of (get_or b.body at 0) (drop (suc at) b.body)) (length (drop (body_length (get_or b.body at 0)) (drop (suc at) b.body))) st ts m)
        (λ d st₁ ts₁ m₁. exec env (drop (suc at) b.body) (body_length (get_or b.body at 0) + d) st₁ ts₁ m₁)
        (step_good at p (a p) st ts m t g)
        (λ d st₁ ts₁ m₁ j t₁ g₁.
        rw (exec_to env b.body at (body_length (get_or b.body at 0) + d) st₁ ts₁ m₁)
        (exec_good f (suc at + (body_length (get_or b.body at 0) + d)) st₁ ts₁ m₁ (omega arith) j t₁ g₁))))
        (λ r. rw (exec_past env b.body at st ts m (ltb-false at (length b.body) r)) (end_good m g))
        (decide (ltb at (length b.body)))

-- Runs of blocks

abbrev pub GivensFit : List Variable → List (Option Value) → Type 0
GivensFit xs gs = CellsFit xs (map cell_of gs)

within_good : (earlier : List Block) (b : Block) (env : Surroundings) (w : ℕ → ℕ) (W : ℕ) (A : Type 0) (r : Ran) → RanGood earlier b env A w W r → Within r W
within_good earlier b env w W A (ran (values vs n)) g = g.0
within_good earlier b env w W A (ran (ended c n)) g = g
within_good earlier b env w W A stuck g = tt

module _ (earlier : List Block) (b : Block) (A : Type 0) (gs : List (Option Value)) (typed : A → GivensFit b.variables gs) where
  abbrev pub env : Surroundings
  env = surroundings earlier b (λ j handed. run_in earlier j handed)

  abbrev pub weight : ℕ
  weight = suc (sum (weight_in earlier) b.sub_scopes)

  pub begin_good : MemGood earlier b env A (weight_in earlier) weight (begin earlier b gs)
  begin_good =
      let p = pending_all (weight_in earlier) (λ i. map (λ x. None) (variables_of earlier i)) b.sub_scopes in
      record { typed = typed; many = length-map b.sub_scopes (begins earlier); counted = omega arith }

  module _ (below : (j : ℕ) (hs : List (Option Value)) → Within (run_in earlier j hs) (weight_in earlier j)) (fit : all_fit earlier b b.body 0 ≡ true) where
    pub block_good : RanGood earlier b env A (weight_in earlier) weight (exec env b.body 0 [] [] (begin earlier b gs))
    block_good =
        exec_good earlier b env A (weight_in earlier) weight (λ x. refl) (λ k l hs. below (get_or b.sub_scopes k 0) hs) fit
        (length b.body) 0 [] [] (begin earlier b gs) (omega arith) (λ p. lands_here b.body) tt begin_good

pub fit_of : (earlier : List Block) (b : Block) → well_formed earlier b ≡ true → all_fit earlier b b.body 0 ≡ true
unfolding well_formed
fit_of earlier b e =
    let a = (both (ltb b.scope 32) _ e).1 in
    let c = (both (not (has_block earlier b.scope)) _ a).1 in
    let d = (both (not (any (λ i. not (has_block earlier i)) b.sub_scopes)) _ c).1 in
    (both (all_fit earlier b b.body 0) _ d).0

pub run_cons : (b : Block) (earlier : List Block) (i : ℕ) (gs : List (Option Value))
    → run_in (b ∷ earlier) i gs
    ≡ cond (eqb b.scope i) (exec (surroundings earlier b (λ j handed. run_in earlier j handed)) b.body 0 [] [] (begin earlier b gs)) (run_in earlier i gs)
unfolding run_in
run_cons b earlier i gs = refl

pub weight_cons : (b : Block) (earlier : List Block) (i : ℕ)
    → weight_in (b ∷ earlier) i ≡ cond (eqb b.scope i) (suc (sum (weight_in earlier) b.sub_scopes)) (weight_in earlier i)
unfolding weight_in
weight_cons b earlier i = refl

run_none : (i : ℕ) (gs : List (Option Value)) → Within (run_in [] i gs) (weight_in [] i)
unfolding run_in
run_none i gs = tt

pub run_within : (blocks : List Block) → all_well_formed blocks ≡ true → (i : ℕ) (gs : List (Option Value)) → Within (run_in blocks i gs) (weight_in blocks i)
unfolding all_well_formed
run_within [] e i gs = run_none i gs
run_within (b ∷ earlier) e i gs =
    let both_of = both (well_formed earlier b) (all_well_formed earlier) e in
    let below = run_within earlier both_of.1 in
    rw (run_cons b earlier i gs, weight_cons b earlier i)
    (⊎_elim
    (λ q. rw q (within_good earlier b (env earlier b ⊥ gs (λ x. absurd x)) (weight_in earlier) (weight earlier b ⊥ gs (λ x. absurd x)) ⊥
    (exec (surroundings earlier b (λ j handed. run_in earlier j handed)) b.body 0 [] [] (begin earlier b gs))
    (block_good earlier b ⊥ gs (λ x. absurd x) below (fit_of earlier b both_of.0))))
    (λ q. rw q (below i gs))
    (decide (eqb b.scope i)))
