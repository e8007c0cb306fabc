-- The code of a term does what the term says.
--     run_code      from any stack and any open tries with room left, the machine goes on as the term's outcome says
--     run_tree      the same for a whole tree, from an empty stack and without open tries
--     run_override  and for the code of an override: its tree in a try, which lands behind the store
-- Assumes nothing.
use Prim.Native.Nat.{ℕ, suc, ◌+◌, ◌-◌, ◌≤◌, ◌<◌}
use mathlib.Core.Path.{◌≡◌, refl, ap, ◌∙◌}
use mathlib.Core.Bool.{true, false, false≢true}
use mathlib.Core.List.{List, [], ◌∷◌}
use native.Mathlib.Omega.{arith}
use lib.ListN.{length}
use lib.IntN.{ℤ}
use Rattle.std.specs.Prelude.{Result, Ok, Err, None, Some}
use Rattle.slices.specs.Bytes.{bytes_of}
use Rattle.calculus.specs.Values.{ranged}
use Rattle.calculus.specs.Outcomes.{unary_on, binary_on, choose}
use Rattle.calculus.specs.Joining.{join}
use Rattle.calculus.specs.Defaults.{gather, settle}
use Rattle.calculus.specs.Terms.{Term, Terms, literal, own, called, error, unary, binary, choice, default, none, also}
use Rattle.calculus.specs.Evaluation.{Env, eval, exceptions}
use Rattle.calculus.specs.declared.Value.{Value}
use Rattle.calculus.specs.declared.Value.TheVariants.{Truth, Number}
use Rattle.answers.specs.declared.Cause.{Cause}
use Rattle.answers.specs.declared.Cause.TheVariants.{Empty, Conflict, OutOfRange}
use Rattle.calculus.specs.declared.Joined.{Joined}
use Rattle.calculus.specs.declared.Joined.TheVariants.{Nothing, One, Many}
use Rattle.calculus.specs.declared.Unary.{Unary}
use Rattle.calculus.specs.declared.Binary.{Binary}
use Rattle.calculus.proofs.Exceptions.{exceptions_ended}
use Rattle.calculus.proofs.Sides.{Operated, ranged_result, unary_result, binary_result}
use Rattle.book.specs.Syntax.{same_type}
use Rattle.book.specs.Typing.{unary_type, operand_type}
use Rattle.book.specs.declared.ValueType.{ValueType}
use Rattle.book.specs.declared.ValueType.TheVariants.{YesNo, Numeric}
use Rattle.evaluation.specs.Handing.{Handed, hands, stops, falls_back}
use Rattle.evaluation.specs.Run.{ended}
use Rattle.evaluation.specs.Types.{HasType, OutcomeFits, Typed, AllTyped}
use Rattle.evaluation.proofs.Soundness.{typed_map, eval_typed}
use Rattle.translation.specs.Code.{unary_kind, binary_kind, far, if_any, size, sizes, code, codes}
use Rattle.translation.specs.Blocks.{override_code}
use Rattle.translation.specs.Measures.{leaves, all_leaves, defaults, all_defaults, Sayable, AllSayable, Runnable}
use Rattle.translation.proofs.Sizes.{Behind, behind_both, behind_one, behind_far, landing, closing, behind_closing, tail, tail_size, code_behind, tail_behind, code_length, codes_length}
use Rattle.machine.specs.Machine.{Memory, Try, Ran, ran, Surroundings, answered, raised}
use Rattle.machine.specs.Run.{follow, exec}
use Rattle.machine.proofs.Steps.{exec_drop, step_jump, step_jump_if_no, step_try, step_end_try, step_nothing, step_join, step_settle_nothing, step_settle_one, step_settle_many, raise_at, Open, open_mono, raise_lands, raise_past, raise_drops}
use Rattle.agreement.specs.Meets.{OwnMeets, CalledMeets}
use Rattle.agreement.proofs.Instructions.{literal_runs, own_runs, called_runs, error_runs, unary_runs, binary_runs}

-- distances of two bytes, and room for n more entries and d more tries
pub record Room (s n d : ℕ) (st : List Joined) (ts : List Try) : Type 0 where
  pub near : s < 65536
  pub stack : length st + n ≤ 1024
  pub tries : length ts + d ≤ 512

leaf : (t : Term) → 1 ≤ leaves t
unfolding leaves
leaf (literal v) = omega arith
leaf (own x) = omega arith
leaf (called s x) = omega arith
leaf (error c) = omega arith
leaf (unary op a) = leaf a
leaf (binary op a b) = omega (arith, leaf a)
leaf (choice c a b) = omega (arith, leaf c)
leaf (default es j c) = omega (arith, leaf j)

sizes_within : (es : Terms) → sizes es ≤ if_any es (1 + sizes es + 3) 0
unfolding size
sizes_within none = omega arith
sizes_within (also e es) = omega arith

not_yes_no : Numeric ≡ YesNo → ⊥
not_yes_no e = false≢true (ap (same_type YesNo) e)

-- a variable that is read has a value of its type, so the outcome is of the term's type
outcome_fits : (e : Env) (m : Memory) (t : Term) (u : ValueType) → Typed (OwnMeets e m) (CalledMeets e m) t u → OutcomeFits u (eval e t)
outcome_fits e m t u h =
    eval_typed e t u
    (typed_map 0 (OwnMeets e m) (λ x t₁. HasType t₁ (e.own x)) (CalledMeets e m) (λ k x t₁. HasType t₁ (e.called k x)) t u
    (record { own = λ x t₁ r p. p.1; calls = λ k x t₁ r p. p.1 })
    h)

module _ (env : Surroundings) (m : Memory) where
  -- how the machine goes on behind the code of a term with this outcome, at the bytes k
  abbrev pub resume : Result Value Cause → List ℕ → List Joined → List Try → Ran
  resume (Ok v) k st ts = exec env k 0 (One v ∷ st) ts m
  resume (Err c) k st ts = raise_at env c k st ts m

  -- the same behind the code of exceptions
  abbrev pub resume_all : Result Joined Cause → List ℕ → List Joined → List Try → Ran
  resume_all (Ok j) k st ts = exec env k 0 (j ∷ st) ts m
  resume_all (Err c) k st ts = raise_at env c k st ts m

  jump_behind : (n : ℕ) (ys k : List ℕ) (st : List Joined) (ts : List Try) → Behind n ys k → exec env ys n st ts m ≡ exec env k 0 st ts m
  jump_behind n ys k st ts b = exec_drop env ys n st ts m ∙ ap (λ (xs : List ℕ). exec env xs 0 st ts m) b.rest

  module _ (k : List ℕ) (st : List Joined) (ts : List Try) (o : Open (length k) (length st) ts) where
    raise_behind : {n : ℕ} {ys : List ℕ} (c : Cause) → Behind n ys k → raise_at env c ys st ts m ≡ raise_at env c k st ts m
    raise_behind {n} {ys} c b = raise_past env m c n ys k st ts b.rest b.counts o

    -- Operators

    -- an operator never comes to empty, which a try would catch
    answers : {o : Result Value Cause} → Operated o → follow (answered o st ts m) (exec env k) ≡ resume o k st ts
    answers (Operated.truth b) = refl
    answers (Operated.number z f) = refl
    answers (Operated.outside s) = refl

    -- nor does an exact result
    ranged_answers : (z : ℤ) → follow (answered (ranged z) st ts m) (exec env k) ≡ resume (ranged z) k st ts
    ranged_answers z = answers (ranged_result z)

    unary_case : (op : Unary) (x : Result Value Cause) → OutcomeFits (unary_type op) x → resume x (unary_kind op ∷ k) st ts ≡ resume (unary_on op x) k st ts
    unary_case op (Ok v) h = unary_runs env m k st ts op v h ∙ answers (unary_result op v)
    unary_case op (Err c) h = raise_behind c (behind_one (unary_kind op) k)

    right_case : (op : Binary) (u : ValueType) (v : Value) (y : Result Value Cause) → HasType (operand_type op u) v → OutcomeFits (operand_type op u) y
        → resume y (binary_kind op ∷ k) (One v ∷ st) ts ≡ resume (binary_on op (Ok v) y) k st ts
    right_case op u v (Ok w) p q = binary_runs env m k st ts op u v w p q ∙ answers (binary_result op v w)
    right_case op u v (Err c) p q =
        raise_drops env m c (binary_kind op ∷ k) (One v) st ts (open_mono (length k) _ (length st) _ ts (omega arith) (omega arith) o)
        ∙ raise_behind c (behind_one (binary_kind op) k)

    -- the bytes ys are the code of the right operand, and of the operator
    binary_case : (op : Binary) (u : ValueType) (n : ℕ) (ys : List ℕ) (x y : Result Value Cause) → Behind n ys k
        → OutcomeFits (operand_type op u) x → OutcomeFits (operand_type op u) y
        → ((v : Value) → exec env ys 0 (One v ∷ st) ts m ≡ resume y (binary_kind op ∷ k) (One v ∷ st) ts)
        → resume x ys st ts ≡ resume (binary_on op x y) k st ts
    binary_case op u n ys (Ok v) y b p q f = f v ∙ right_case op u v y p q
    binary_case op u n ys (Err c) y b p q f = raise_behind c b

    -- Branches

    -- behind the first branch stands a jump over the second, the bytes ys
    over_case : (n : ℕ) (ys : List ℕ) (x : Result Value Cause) → Behind n ys k → n < 65536 → resume x (far 34 n ys) st ts ≡ resume x k st ts
    over_case n ys (Ok v) b h = step_jump env (One v ∷ st) ts m n ys h ∙ jump_behind n ys k (One v ∷ st) ts b
    over_case n ys (Err c) b h = raise_behind c (behind_both (behind_far 34 n ys) b)

    -- the bytes ys of the first branch and the jump, the bytes zs of the second
    choice_case : (n l : ℕ) (ys zs : List ℕ) (c a b : Result Value Cause) → OutcomeFits YesNo c → Behind n ys zs → Behind l zs k → n < 65536
        → exec env ys 0 st ts m ≡ resume a k st ts → exec env zs 0 st ts m ≡ resume b k st ts
        → resume c (far 35 n ys) st ts ≡ resume (choose c a b) k st ts
    choice_case n l ys zs (Ok (Truth true)) a b f p q h r s = step_jump_if_no env st ts m true n ys h ∙ r
    choice_case n l ys zs (Ok (Truth false)) a b f p q h r s = step_jump_if_no env st ts m false n ys h ∙ jump_behind n ys zs st ts p ∙ s
    choice_case n l ys zs (Ok (Number z)) a b f p q h r s = absurd (not_yes_no f)
    choice_case n l ys zs (Err c) a b f p q h r s = raise_behind c (behind_both (behind_far 35 n ys) (behind_both p q))

    -- Defaults

    -- the bytes ys are justification and consequence
    settle_case : (n : ℕ) (ys : List ℕ) (g : Result Joined Cause) (x : Result Value Cause) → Behind n ys k → n < 65536
        → exec env ys 0 st ts m ≡ resume x k st ts → resume_all g (far 40 n ys) st ts ≡ resume (settle g x) k st ts
    settle_case n ys (Ok Nothing) x b h r = step_settle_nothing env st ts m n ys ∙ r
    settle_case n ys (Ok (One v)) x b h r = step_settle_one env st ts m v n ys h ∙ jump_behind n ys k (One v ∷ st) ts b
    settle_case n ys (Ok Many) x b h r = step_settle_many env st ts m n ys
    settle_case n ys (Err c) x b h r = raise_behind c (behind_both (behind_far 40 n ys) b)

  -- the bytes zs are the code of the exceptions that follow
  exception_case : (e : Env) (es : Terms) (k zs : List ℕ) (st : List Joined) (ts : List Try) (a : Joined) (x : Result Value Cause) → suc (length st) < 1024
      → ((b : Joined) → exec env zs 0 (b ∷ st) ts m ≡ resume_all (exceptions e (Ok b) es) k st ts)
      → resume x (closing zs) (a ∷ st) (record { lands = length (landing zs); height = suc (length st) } ∷ ts)
      ≡ resume_all (exceptions e (gather (Ok a) x) es) k st ts
  exception_case e es k zs st ts a (Ok v) r f =
      let st₁ = One v ∷ a ∷ st in
      step_end_try env st₁ ts m (record { lands = length (landing zs); height = suc (length st) }) (far 34 1 (landing zs))
      ∙ step_jump env st₁ ts m 1 (landing zs) (omega arith)
      ∙ jump_behind 1 (landing zs) (39 ∷ zs) st₁ ts (behind_one 38 (39 ∷ zs))
      ∙ step_join env st ts m a (One v) zs
      ∙ f (join a (One v))
  exception_case e es k zs st ts a (Err Empty) r f =
      let n = (behind_closing zs).counts in
      let i : length (closing zs) - length (landing zs) ≡ 4 = omega arith in
      let j : suc (length st) - suc (length st) ≡ 0 = omega arith in
      raise_lands env m (closing zs) (a ∷ st) (record { lands = length (landing zs); height = suc (length st) }) ts (omega arith) (omega arith)
      ∙ rw (i, j)
      (jump_behind 4 (closing zs) (landing zs) (a ∷ st) ts (behind_closing zs)
      ∙ step_nothing env (a ∷ st) ts m (39 ∷ zs) r
      ∙ step_join env st ts m a Nothing zs
      ∙ f (join a Nothing))
  exception_case e es k zs st ts a (Err Conflict) r f = rw (exceptions_ended e Conflict es)
  exception_case e es k zs st ts a (Err (OutOfRange s)) r f = rw (exceptions_ended e (OutOfRange s) es)

  -- a try lands where the exception's code and its closing have been passed
  lands_at : (t : Term) (zs : List ℕ) → length (code t (closing zs)) - (size t + 4) ≡ length (landing zs)
  lands_at t zs = omega (arith, code_length t (closing zs), (behind_closing zs).counts)

  default_case : (e : Env) (es : Terms) (j c : Term) (k : List ℕ) (st : List Joined) (ts : List Try) → Open (length k) (length st) ts
      → length st < 1024 → tail_size j c < 65536 → Behind (tail_size j c) (tail j c k) k
      → exec env (tail j c k) 0 st ts m ≡ resume (choose (eval e j) (eval e c) (Err Empty)) k st ts
      → exec env (codes es (far 40 (tail_size j c) (tail j c k))) 0 (Nothing ∷ st) ts m
      ≡ resume_all (exceptions e (Ok Nothing) es) (far 40 (tail_size j c) (tail j c k)) st ts
      → exec env (code (default es j c) k) 0 st ts m ≡ resume (eval e (default es j c)) k st ts
  unfolding code eval
  default_case e none j c k st ts o r h b p q = p
  default_case e (also x es) j c k st ts o r h b p q =
      step_nothing env st ts m (codes (also x es) (far 40 (tail_size j c) (tail j c k))) r
      ∙ q
      ∙ settle_case k st ts o (tail_size j c) (tail j c k) (exceptions e (Ok Nothing) (also x es)) (choose (eval e j) (eval e c) (Err Empty)) b h p

  -- condition and first branch, with the second branch in the bytes ys
  branches_case : (e : Env) (c a : Term) (n : ℕ) (ys k : List ℕ) (x : Result Value Cause) (st : List Joined) (ts : List Try) → Open (length k) (length st) ts
      → OutcomeFits YesNo (eval e c) → Behind n ys k → n < 65536 → size a + 3 < 65536
      → exec env (code c (far 35 (size a + 3) (code a (far 34 n ys)))) 0 st ts m
      ≡ resume (eval e c) (far 35 (size a + 3) (code a (far 34 n ys))) st ts
      → exec env (code a (far 34 n ys)) 0 st ts m ≡ resume (eval e a) (far 34 n ys) st ts
      → exec env ys 0 st ts m ≡ resume x k st ts
      → exec env (code c (far 35 (size a + 3) (code a (far 34 n ys)))) 0 st ts m ≡ resume (choose (eval e c) (eval e a) x) k st ts
  branches_case e c a n ys k x st ts o f b h h' pc pa px =
      let first = code a (far 34 n ys) in
      let over = behind_both (code_behind a (far 34 n ys)) (behind_far 34 n ys) in
      pc ∙ choice_case k st ts o (size a + 3) n first ys (eval e c) (eval e a) x f over b h' (pa ∙ over_case k st ts o n ys (eval e a) b h) px

  module _ (e : Env) where
    mutual
      unfolding code eval Typed leaves defaults size Sayable bytes_of

      pub run_code : (t : Term) (u : ValueType) (k : List ℕ) (st : List Joined) (ts : List Try)
          → Typed (OwnMeets e m) (CalledMeets e m) t u → Sayable t → Open (length k) (length st) ts → Room (size t) (leaves t) (defaults t) st ts
          → exec env (code t k) 0 st ts m ≡ resume (eval e t) k st ts
      run_code (literal v) u k st ts h s o r = literal_runs env m k st ts v s (omega arith)
      run_code (own x) u k st ts h s o r = own_runs env m k st ts x (e.own x) h.0 (omega arith)
      run_code (called i x) u k st ts h s o r = called_runs env m k st ts i x (e.called i x) h.0 (omega arith)
      run_code (error c) u k st ts h s o r = error_runs env m k st ts c s
      run_code (unary op a) u k st ts h s o r =
          run_code a (unary_type op) (unary_kind op ∷ k) st ts h.0 s (open_mono _ _ _ _ ts (omega arith) (omega arith) o)
          (record { near = omega arith; stack = omega arith; tries = omega arith })
          ∙ unary_case k st ts o op (eval e a) (outcome_fits e m a (unary_type op) h.0)
      run_code (binary op a b) u k st ts h s o r =
          let l = leaf a in
          let right = behind_both (code_behind b (binary_kind op ∷ k)) (behind_one (binary_kind op) k) in
          let ys = code b (binary_kind op ∷ k) in
          let n = right.counts in
          run_code a (operand_type op h.0) ys st ts h.1 s.0 (open_mono _ _ _ _ ts (omega arith) (omega arith) o)
          (record { near = omega arith; stack = omega arith; tries = omega arith })
          ∙ binary_case k st ts o op h.0 (size b + 1) ys (eval e a) (eval e b) right
          (outcome_fits e m a _ h.1) (outcome_fits e m b _ h.2)
          (λ v. run_code b (operand_type op h.0) (binary_kind op ∷ k) (One v ∷ st) ts h.2 s.1
          (open_mono _ _ _ _ ts (omega arith) (omega arith) o) (record { near = omega arith; stack = omega arith; tries = omega arith }))
      run_code (choice c a b) u k st ts h s o r =
          let second = far 34 (size b) (code b k) in
          let first = far 35 (size a + 3) (code a second) in
          let lb = code_length b k in
          let la = code_length a second in
          branches_case e c a (size b) (code b k) k (eval e b) st ts o (outcome_fits e m c YesNo h.0) (code_behind b k) (omega arith) (omega arith)
          (run_code c YesNo first st ts h.0 s.0 (open_mono _ _ _ _ ts (omega arith) (omega arith) o)
          (record { near = omega arith; stack = omega arith; tries = omega arith }))
          (run_code a u second st ts h.1 s.1 (open_mono _ _ _ _ ts (omega arith) (omega arith) o)
          (record { near = omega arith; stack = omega arith; tries = omega arith }))
          (run_code b u k st ts h.2 s.2 o (record { near = omega arith; stack = omega arith; tries = omega arith }))
      run_code (default es j c) u k st ts h s o r =
          let second = far 34 1 (32 ∷ k) in
          let first = far 35 (size c + 3) (code c second) in
          let rest = far 40 (tail_size j c) (tail j c k) in
          let within = sizes_within es in
          let fj = leaf j in
          let fc = leaf c in
          let lc = code_length c second in
          let lt = (tail_behind j c k).counts in
          default_case e es j c k st ts o (omega arith) (omega arith) (tail_behind j c k)
          (branches_case e j c 1 (32 ∷ k) k (Err Empty) st ts o (outcome_fits e m j YesNo h.1) (behind_one 32 k) (omega arith) (omega arith)
          (run_code j YesNo first st ts h.1 s.1 (open_mono _ _ _ _ ts (omega arith) (omega arith) o)
          (record { near = omega arith; stack = omega arith; tries = omega arith }))
          (run_code c u second st ts h.2 s.2 (open_mono _ _ _ _ ts (omega arith) (omega arith) o)
          (record { near = omega arith; stack = omega arith; tries = omega arith }))
          (error_runs env m k st ts Empty tt))
          (run_codes es u Nothing rest st ts h.0 s.0 (open_mono _ _ _ _ ts (omega arith) (omega arith) o)
          (record { near = omega arith; stack = omega arith; tries = omega arith }))

      pub run_codes : (es : Terms) (u : ValueType) (a : Joined) (k : List ℕ) (st : List Joined) (ts : List Try)
          → AllTyped (OwnMeets e m) (CalledMeets e m) es u → AllSayable es → Open (length k) (length st) ts
          → Room (sizes es) (all_leaves es + 2) (all_defaults es + 1) st ts
          → exec env (codes es k) 0 (a ∷ st) ts m ≡ resume_all (exceptions e (Ok a) es) k st ts
      run_codes none u a k st ts h s o r = refl
      run_codes (also t es) u a k st ts h s o r =
          let zs = codes es k in
          let lz = codes_length es k in
          step_try env (a ∷ st) ts m (size t + 4) (code t (closing zs)) (omega arith) (omega arith)
          ∙ rw (lands_at t zs)
          (run_code t u (closing zs) (a ∷ st) (record { lands = length (landing zs); height = suc (length st) } ∷ ts) h.0 s.0
          (omega arith, omega arith, open_mono _ _ _ _ ts (omega arith) (omega arith) o)
          (record { near = omega arith; stack = omega arith; tries = omega arith })
          ∙ exception_case e es k zs st ts a (eval e t) (omega arith)
          (λ b. run_codes es u b k st ts h.1 s.1 o (record { near = omega arith; stack = omega arith; tries = omega arith })))

-- how a step goes on behind its tree, at the bytes k
abbrev pub after : Surroundings → Result Value Cause → List ℕ → Memory → Ran
after env (Ok v) k m = exec env k 0 (One v ∷ []) [] m
after env (Err c) k m = ran (ended c m.count)

no_tries : (env : Surroundings) (x : Result Value Cause) (k : List ℕ) (m : Memory) → resume env m x k [] [] ≡ after env x k m
unfolding raised
no_tries env (Ok v) k m = refl
no_tries env (Err Empty) k m = refl
no_tries env (Err Conflict) k m = refl
no_tries env (Err (OutOfRange s)) k m = refl

pub run_tree : (env : Surroundings) (e : Env) (m : Memory) (t : Term) (u : ValueType) (k : List ℕ) → Typed (OwnMeets e m) (CalledMeets e m) t u
    → Runnable t → exec env (code t k) 0 [] [] m ≡ after env (eval e t) k m
run_tree env e m t u k h r =
    let p = r.near in
    let q = r.shallow in
    let d = r.few in
    run_code env m e t u k [] [] h r.sayable tt (record { near = omega arith; stack = omega arith; tries = omega arith })
    ∙ no_tries env (eval e t) k m

-- Overrides

-- how a call goes on behind the code of an override, at the bytes k: a value is stored, and where nothing is handed over nothing is
abbrev pub after_override : Surroundings → Handed → ℕ → ℕ → List ℕ → Memory → Ran
after_override env (hands (Some y)) c v k m = exec env (42 ∷ c ∷ v ∷ k) 0 (One y ∷ []) [] m
after_override env (hands None) c v k m = exec env k 0 [] [] m
after_override env (stops d) c v k m = ran (ended d m.count)

-- the try lands behind the store
abbrev open_try : List ℕ → Try
open_try k = record { lands = length k; height = 0 }

one_try : (env : Surroundings) (x : Result Value Cause) (c v : ℕ) (k : List ℕ) (m : Memory)
    → resume env m x (37 ∷ 42 ∷ c ∷ v ∷ k) [] (open_try k ∷ []) ≡ after_override env (falls_back x) c v k m
unfolding raised
one_try env (Ok y) c v k m = step_end_try env (One y ∷ []) [] m (open_try k) (42 ∷ c ∷ v ∷ k)
one_try env (Err Empty) c v k m =
    let i : length (37 ∷ 42 ∷ c ∷ v ∷ k) - length k ≡ 4 = omega arith in
    raise_lands env m (37 ∷ 42 ∷ c ∷ v ∷ k) [] (open_try k) [] (omega arith) (omega arith)
    ∙ rw i (jump_behind env m 4 (37 ∷ 42 ∷ c ∷ v ∷ k) k [] [] (record { rest = refl; counts = omega arith }))
one_try env (Err Conflict) c v k m = refl
one_try env (Err (OutOfRange s)) c v k m = refl

pub run_override : (env : Surroundings) (e : Env) (m : Memory) (t : Term) (u : ValueType) (c v : ℕ) (k : List ℕ)
    → Typed (OwnMeets e m) (CalledMeets e m) t u → Runnable t
    → exec env (override_code t c v k) 0 [] [] m ≡ after_override env (falls_back (eval e t)) c v k m
run_override env e m t u c v k h r =
    let stored : List ℕ = 37 ∷ 42 ∷ c ∷ v ∷ k in
    let p = r.near in
    let q = r.shallow in
    let d = r.few in
    let lands : length (code t stored) - (size t + 4) ≡ length k = omega (arith, code_length t stored) in
    step_try env [] [] m (size t + 4) (code t stored) p (omega arith)
    ∙ rw lands
    (run_code env m e t u stored [] (open_try k ∷ []) h r.sayable (omega arith, omega arith, tt)
    (record { near = omega arith; stack = omega arith; tries = omega arith })
    ∙ one_try env (eval e t) c v k m)
