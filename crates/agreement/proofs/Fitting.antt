-- The instructions of a book's code fit: their numbers name something, and their distances land.
--     Fit, fits-written   what an instruction asks for to fit
--     fits_code           the instructions of a term's code fit
--     fits_steps          so do those of a scope's steps
-- Assumes nothing.
use Prim.Native.Nat.{ℕ, suc, ◌+◌, ◌-◌, ◌<◌, ◌≤◌}
use mathlib.Core.Path.{◌≡◌, refl, ap, ◌∙◌}
use mathlib.Core.Bool.{Bool, true, false, ◌&&◌}
use mathlib.Core.List.{List, [], ◌∷◌, ◌++◌}
use mathlib.Core.Logic.{⊎_elim}
use native.Mathlib.Omega.{arith}
use lib.ListN.{length, get_or}
use lib.Dec.{ltb}
use borrow.Author.Tests.{lt-ltb, ltb-true, ltb-false}
use Rattle.slices.specs.Bytes.{bytes_of}
use Rattle.calculus.specs.Terms as terms
use Rattle.calculus.specs.Terms.{Term, Terms, literal, own, called, error, choice, default, none, also}
use Rattle.calculus.specs.declared.Value.TheVariants.{Truth, Number}
use Rattle.answers.specs.declared.Cause.TheVariants.{Empty, Conflict, OutOfRange}
use Rattle.calculus.specs.declared.Unary.TheVariants.{Not, Negate}
use Rattle.calculus.specs.declared.Binary.TheVariants.{And, Add, Subtract, Equal, Less}
use Rattle.laws.proofs.Booleans.{decide}
use Rattle.book.specs.Syntax.{Scope}
use Rattle.book.specs.References.{scope_at}
use Rattle.book.specs.Typing.{target_type}
use Rattle.book.specs.Trees.{tree, has_clause, own_target, called_target}
use Rattle.book.specs.Steps.{step_count}
use Rattle.book.specs.declared.Target.{Target}
use Rattle.book.specs.declared.Variable.{Variable}
use Rattle.book.specs.declared.ValueType.{ValueType}
use Rattle.book.specs.declared.ValueType.TheVariants.{YesNo}
use Rattle.evaluation.specs.Types.{Typed, WellTyped, AllWellTyped}
use Rattle.translation.specs.Code.{unary_kind, binary_kind, far, size, sizes, code, codes}
use Rattle.evaluation.proofs.Running.{Steps, call_number}
use Rattle.translation.specs.Blocks.{variable_code, overrides_code, call_code, step_code, steps_code}
use Rattle.translation.proofs.Sizes.{landing, closing, tail, tail_size, code_length}
use Rattle.machine.specs.Instructions.{instruction_of}
use Rattle.machine.specs.Blocks.{Block, variables_of}
use Rattle.machine.specs.Acceptance.{lands, fits, all_fit}
use Rattle.machine.proofs.Landing.{lands_here}
use Rattle.machine.proofs.Steps.{distance_back, second_back}
use Rattle.agreement.specs.Compiled.{compiled_block}
use Rattle.agreement.proofs.Sequences.{Written, truth, number, read_own, read_called, unary, binary, raise, jump, jump_if_no, begin_try, end_try, push_nothing, join, settle, store, override, enter, jump_if_given}
use Rattle.agreement.proofs.Sequences.{Sequence, more, one, written_whole, lands_sequence, fits_whole}
use Rattle.agreement.proofs.Parsing.{code_sequence}

module _ (earlier : List Block) (b : Block) where
  abbrev CalledThere : ℕ → ℕ → Type 0
  CalledThere s x = (s < length b.sub_scopes) × (x < length (variables_of earlier (get_or b.sub_scopes s 0)))

  abbrev Lands : ℕ → List ℕ → Type 0
  Lands d k = (d < 65536) × (lands k 0 d ≡ true)

  -- an instruction's numbers name something, and its distance lands among the bytes k that follow
  abbrev pub Fit : {kind : ℕ} {body : List ℕ} → Written kind body → List ℕ → Type 0
  Fit (truth v) k = Unit {0}
  Fit (number z) k = Unit {0}
  Fit (read_own x) k = x < length b.variables
  Fit (read_called s x) k = CalledThere s x
  Fit (unary op) k = Unit {0}
  Fit (binary op) k = Unit {0}
  Fit (raise c) k = Unit {0}
  Fit (jump d) k = Lands d k
  Fit (jump_if_no d) k = Lands d k
  Fit (begin_try d) k = Lands d k
  Fit end_try k = Unit {0}
  Fit push_nothing k = Unit {0}
  Fit join k = Unit {0}
  Fit (settle d) k = Lands d k
  Fit (store x) k = x < length b.variables
  Fit (override s x) k = CalledThere s x
  Fit (enter s) k = s < length b.sub_scopes
  Fit (jump_if_given x d) k = (x < length b.variables) × Lands d k

  there : (s x : ℕ) → CalledThere s x
      → (ltb s (length b.sub_scopes) && ltb x (length (variables_of earlier (get_or b.sub_scopes s 0)))) ≡ true
  there s x h = rw (lt-ltb s _ h.0, lt-ltb x (length (variables_of earlier (get_or b.sub_scopes s 0))) h.1)

  fits_read : {kind : ℕ} {body : List ℕ} (w : Written kind body) (k : List ℕ) → Fit w k
      → fits earlier b (instruction_of kind (body ++ k)) k ≡ true
  unfolding instruction_of fits
  fits_read (truth v) k h = refl
  fits_read (number z) k h = refl
  fits_read (read_own x) k h = lt-ltb x (length b.variables) h
  fits_read (read_called s x) k h = there s x h
  fits_read (unary Not) k h = refl
  fits_read (unary Negate) k h = refl
  fits_read (binary And) k h = refl
  fits_read (binary Add) k h = refl
  fits_read (binary Subtract) k h = refl
  fits_read (binary Equal) k h = refl
  fits_read (binary Less) k h = refl
  fits_read (raise Empty) k h = refl
  fits_read (raise Conflict) k h = refl
  fits_read (raise (OutOfRange s)) k h = refl
  fits_read (jump d) k h = rw (distance_back d k h.0) h.1
  fits_read (jump_if_no d) k h = rw (distance_back d k h.0) h.1
  fits_read (begin_try d) k h = rw (distance_back d k h.0) h.1
  fits_read end_try k h = refl
  fits_read push_nothing k h = refl
  fits_read join k h = refl
  fits_read (settle d) k h = rw (distance_back d k h.0) h.1
  fits_read (store x) k h = lt-ltb x (length b.variables) h
  fits_read (override s x) k h = there s x h
  fits_read (enter s) k h = lt-ltb s (length b.sub_scopes) h
  fits_read (jump_if_given x d) k h = rw (lt-ltb x (length b.variables) h.0, second_back x d k h.1.0) h.1.1

  pub fits_written : {kind : ℕ} {body : List ℕ} (w : Written kind body) (k : List ℕ) → Fit w k
      → all_fit earlier b (kind ∷ body ++ k) 0 ≡ all_fit earlier b k 0
  fits_written {kind} {body} w k h =
      fits_whole earlier b kind body k (written_whole w) ∙ ap (λ (t : Bool). t && all_fit earlier b k 0) (fits_read w k h)

-- Distances

-- over a sequence and m bytes more
lands_over : {f : List ℕ → List ℕ} → Sequence f → (k : List ℕ) (n m : ℕ) → length (f []) + m ≡ n → lands k 0 m ≡ true → lands (f k) 0 n ≡ true
lands_over s k n m e h = lands_sequence s k n m e ∙ h

lands_far : (d : ℕ) (k : List ℕ) → lands (far 34 d k) 0 3 ≡ true
unfolding bytes_of
lands_far d k = lands_over (one (jump d)) k 3 0 (omega arith) (lands_here k)

-- behind an exception's code its try lands
lands_closing : (k : List ℕ) → lands (closing k) 0 4 ≡ true
unfolding bytes_of
lands_closing k = lands_over (more end_try (one (jump 1))) (landing k) 4 0 (omega arith) (lands_here (landing k))

lands_code : (t : Term) (k : List ℕ) (n m : ℕ) → size t + m ≡ n → lands k 0 m ≡ true → lands (code t k) 0 n ≡ true
lands_code t k n m e = lands_over (code_sequence t) k n m (omega (arith, code_length t []))

exceptions_near : (es : Terms) (j c : Term) (n : ℕ) → size (default es j c) < n → sizes es < n
unfolding size
exceptions_near none j c n h = omega arith
exceptions_near (also e es) j c n h = omega arith

-- The instructions of scope i, where the blocks of the scopes that its sub-scopes name are among the earlier ones

module _ (book : List Scope) (i : ℕ) (earlier : List Block)
    (before : (k : ℕ) → k < length (scope_at book i).sub_scopes
    → variables_of earlier (get_or (scope_at book i).sub_scopes k 0) ≡ (scope_at book (get_or (scope_at book i).sub_scopes k 0)).variables) where
  abbrev s : Scope
  s = scope_at book i

  abbrev fit : List ℕ → Bool
  fit k = all_fit earlier (compiled_block book i) k 0

  called_there_lem : (c x : ℕ) → c < length s.sub_scopes → x < length (scope_at book (get_or s.sub_scopes c 0)).variables
      → CalledThere earlier (compiled_block book i) c x
  called_there_lem c x h l = (h, rw (before c h) l)

  next : {kind : ℕ} {body : List ℕ} (w : Written kind body) (k : List ℕ) → Fit earlier (compiled_block book i) w k → fit (kind ∷ body ++ k) ≡ fit k
  next = fits_written earlier (compiled_block book i)

  -- what f puts in front of other bytes fits
  abbrev Passes : (List ℕ → List ℕ) → Type 0
  Passes f = (k : List ℕ) → fit (f k) ≡ fit k

  -- a condition, 35, what follows on yes, 34, what follows on no
  branches : (c a : Term) (h : List ℕ → List ℕ) (e : ℕ) → Passes (code c) → Passes (code a) → Passes h → Sequence h
      → length (h []) ≡ e → size a + 3 < 65536 → e < 65536
      → Passes (λ k. code c (far 35 (size a + 3) (code a (far 34 e (h k)))))
  branches c a h e p q r t long near near' k =
      let otherwise = far 34 e (h k) in
      p (far 35 (size a + 3) (code a otherwise))
      ∙ next (jump_if_no (size a + 3)) (code a otherwise) (near, lands_code a otherwise (size a + 3) 3 refl (lands_far e (h k)))
      ∙ q otherwise
      ∙ next (jump e) (h k) (near', lands_over t k e 0 (omega arith) (lands_here k))
      ∙ r k

  tail_fits : (j c : Term) → Passes (code j) → Passes (code c) → size c + 3 < 65536 → Passes (tail j c)
  tail_fits j c p q near = branches j c (λ k. 32 ∷ k) 1 p q (λ k. next (raise Empty) k tt) (one (raise Empty)) refl near (omega arith)

  default_fits : (es : Terms) (j c : Term) → Passes (codes es) → Passes (code j) → Passes (code c) → size (default es j c) < 65536
      → Passes (code (default es j c))
  unfolding code size
  default_fits none j c p q r near k = tail_fits j c q r (omega arith) k
  default_fits (also e es) j c p q r near k =
      let d = tail_size j c in
      next push_nothing (codes (also e es) (far 40 d (tail j c k))) tt
      ∙ p (far 40 d (tail j c k))
      ∙ next (settle d) (tail j c k) (omega arith, lands_code (default none j c) k d 0 (omega arith) (lands_here k))
      ∙ tail_fits j c q r (omega arith) k

  mutual
    unfolding code size Typed

    pub fits_code : (t : Term) (u : ValueType) → WellTyped book s t u → size t < 65536 → Passes (code t)
    fits_code (literal (Truth v)) u h near k = next (truth v) k tt
    fits_code (literal (Number z)) u h near k = next (number z) k tt
    fits_code (own x) u h near k = next (read_own x) k h.0
    fits_code (called c x) u h near k = next (read_called c x) k (called_there_lem c x h.0 h.1)
    fits_code (error c) u h near k = next (raise c) k tt
    fits_code (terms.unary op a) u h near k = fits_code a _ h.0 (omega arith) (unary_kind op ∷ k) ∙ next (unary op) k tt
    fits_code (terms.binary op a b) u h near k =
        fits_code a _ h.1 (omega arith) (code b (binary_kind op ∷ k))
        ∙ fits_code b _ h.2 (omega arith) (binary_kind op ∷ k)
        ∙ next (binary op) k tt
    fits_code (choice c a b) u h near k =
        branches c a (code b) (size b)
        (λ ys. fits_code c YesNo h.0 (omega arith) ys)
        (λ ys. fits_code a u h.1 (omega arith) ys)
        (λ ys. fits_code b u h.2 (omega arith) ys)
        (code_sequence b) (omega (arith, code_length b [])) (omega arith) (omega arith) k
    fits_code (default es j c) u h near k =
        default_fits es j c
        (λ ys. fits_codes es u h.0 (exceptions_near es j c 65536 near) ys)
        (λ ys. fits_code j YesNo h.1 (omega arith) ys)
        (λ ys. fits_code c u h.2 (omega arith) ys)
        near k

    fits_codes : (es : Terms) (u : ValueType) → AllWellTyped book s es u → sizes es < 65536 → Passes (codes es)
    fits_codes none u h near k = refl
    fits_codes (also e es) u h near k =
        let later = codes es k in
        next (begin_try (size e + 4)) (code e (closing later))
        (omega arith, lands_code e (closing later) (size e + 4) 4 refl (lands_closing later))
        ∙ fits_code e u h.0 (omega arith) (closing later)
        ∙ next end_try (far 34 1 (landing later)) tt
        ∙ next (jump 1) (landing later) (omega arith, lands_over (one push_nothing) (39 ∷ later) 1 0 (omega arith) (lands_here (39 ∷ later)))
        ∙ next push_nothing (39 ∷ later) tt
        ∙ next join later tt
        ∙ fits_codes es u h.1 (omega arith) k

  module _ (typed : (t : Target) → WellTyped book s (tree s t) (target_type book s t)) (near : (t : Target) → size (tree s t) + 4 < 65536) where
    fits_variable : (x : ℕ) → x < length s.variables → Passes (variable_code s x)
    unfolding variable_code
    fits_variable x l k =
        let t = tree s (own_target x) in
        let close : size t + 2 < 65536 = omega (arith, near (own_target x)) in
        let rest : List ℕ = 41 ∷ x ∷ k in
        next (jump_if_given x (size t + 2)) (code t rest)
        (l, (close, lands_code t rest (size t + 2) 2 refl (lands_over (one (store x)) k 2 0 (omega arith) (lands_here k))))
        ∙ fits_code t _ (typed (own_target x)) (omega arith) rest
        ∙ next (store x) k l

    fits_overrides : (c : ℕ) → c < length s.sub_scopes → (v : ℕ) (xs : List Variable)
        → v + length xs ≤ length (scope_at book (get_or s.sub_scopes c 0)).variables → Passes (overrides_code s c v xs)
    unfolding overrides_code
    fits_overrides c l v [] h k = refl
    fits_overrides c l v (x ∷ xs) h k =
        let t = tree s (called_target c v) in
        let close : size t + 4 < 65536 = near (called_target c v) in
        let later = overrides_code s c (suc v) xs k in
        let stored : List ℕ = 42 ∷ c ∷ v ∷ later in
        let rest : fit later ≡ fit k = fits_overrides c l (suc v) xs (omega arith) k in
        ⊎_elim
        (λ (q : has_clause s (called_target c v) ≡ true). rw q
        (next (begin_try (size t + 4)) (code t (37 ∷ stored))
        (close, lands_code t (37 ∷ stored) (size t + 4) 4 refl (lands_over (more end_try (one (override c v))) later 4 0 (omega arith) (lands_here later)))
        ∙ fits_code t _ (typed (called_target c v)) (omega arith) (37 ∷ stored)
        ∙ next end_try stored tt
        ∙ next (override c v) later (called_there_lem c v l (omega arith))
        ∙ rest))
        (λ (q : has_clause s (called_target c v) ≡ false). rw q rest)
        (decide (has_clause s (called_target c v)))

    fits_call : (c : ℕ) → c < length s.sub_scopes → Passes (call_code book s c)
    unfolding call_code
    fits_call c l k = fits_overrides c l 0 (scope_at book (get_or s.sub_scopes c 0)).variables (omega arith) (43 ∷ c ∷ k) ∙ next (enter c) k l

    fits_step : (x : ℕ) → x < step_count s → Passes (step_code book s x)
    unfolding step_code
    fits_step x l k =
        let v = length s.variables in
        ⊎_elim
        (λ (q : ltb x v ≡ true). rw q (fits_variable x (ltb-true x v q) k))
        (λ (q : ltb x v ≡ false). rw q (fits_call (x - v) (call_number s x l (ltb-false x v q)) k))
        (decide (ltb x v))

    pub fits_steps : (xs : List ℕ) → Steps s xs → Passes (steps_code book s xs)
    unfolding steps_code
    fits_steps [] below k = refl
    fits_steps (x ∷ xs) below k =
        fits_step x (below 0 (omega arith)) (steps_code book s xs k) ∙ fits_steps xs (λ j l. below (suc j) (omega arith)) k
