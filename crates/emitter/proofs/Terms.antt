-- The code of a term, written from its parts: the last first.
-- Assumes nothing.
use Prim.Native.Nat.{ℕ, ◌+◌, ◌-◌, ◌/◌, ◌%◌, ◌<◌, ◌≤◌}
use mathlib.Core.Path.{◌≡◌, refl, sym, ap, ◌∙◌}
use mathlib.Core.Bool.{Bool, true, false, cond, ◌&&◌, false≢true}
use mathlib.Core.List.{List, ◌∷◌, ◌++◌}
use native.Mathlib.Omega.{arith}
use lib.ListN.{length}
use lib.Dec.{eqb}
use borrow.Author.Tests.{eq-eqb, ne_eqb}
use Rattle.calculus.specs.Terms.{Term, Terms, literal, own, called, error, unary, binary, choice, default, none, also}
use lib.IntN.{ℤ}
use mir.Syntax.{w32}
use mir.Val.{of_z}
use Rattle.slices.specs.Bytes.{bytes_of, number_bytes}
use Rattle.calculus.specs.declared.Value.TheVariants.{Truth, Number}
use Rattle.answers.specs.declared.Cause.{Cause}
use Rattle.answers.specs.declared.Cause.TheVariants.{Empty}
use Rattle.calculus.specs.declared.Unary.{Unary}
use Rattle.calculus.specs.declared.Binary.{Binary}
use Rattle.book.specs.Decode.{scopes_of}
use Rattle.book.specs.References.{scope_at}
use Rattle.book.specs.Positions.{node_at, clause_at}
use Rattle.book.specs.Trees.{exception, node_term, term_below, term_of}
use Rattle.book.specs.declared.Clause.{Clause}
use Rattle.book.specs.declared.Consequence.{Consequence}
use Rattle.book.specs.declared.Consequence.TheVariants.{Of, Fixed}
use Rattle.book.specs.declared.Node.{Node}
use Rattle.book.specs.declared.Node.TheVariants.{Default}
use Rattle.book.proofs.Terms.{term_past, term_here}
use Rattle.translation.specs.Code.{unary_kind, binary_kind, raise_kind, size, sizes, code, codes}
use Rattle.emitter.specs.Emission.{Emits, Emitted, Room, one, two, jump}
use Rattle.emitter.specs.Pieces.{EmittedBranches, EmittedAll, EmittedAround, node_below, branches, branches_size, caught, exception_below}
use Rattle.emitter.specs.Pieces.{no_exception, default_below, around, around_size, condition_at, consequence_at, rest_at, siblings, last_outcome}
use Rattle.emitter.specs.Pieces.{last_resort, bases_at}
use Rattle.emitter.proofs.Emission.{then, alike, nothing}

-- Nodes

module _ (bytes : List ℕ) (i : ℕ) where
  pub below_past : (limit n : ℕ) → limit ≤ n → node_below bytes i limit n ≡ error Empty
  unfolding node_below
  below_past limit n h = term_past (scope_at (scopes_of bytes) i).nodes limit n h

  -- the term of a node that was fetched, by the variant that it was found to be
  pub below_here : (limit n : ℕ) (found nd : Node) → n < limit → found ≡ node_at (scopes_of bytes) i n → found ≡ nd
      → node_below bytes i limit n ≡ node_term (node_below bytes i n) nd
  unfolding node_below node_at
  below_here limit n found nd h p q =
      let nodes = (scope_at (scopes_of bytes) i).nodes in
      term_here nodes limit n h ∙ ap (node_term (term_below nodes n)) (sym p ∙ q)

-- Sizes

module _ {t : Term} where
  pub size_error : {c : Cause} → t ≡ error c → size t ≡ 1
  unfolding size
  size_error e = ap size e

  pub size_truth : {b : Bool} → t ≡ literal (Truth b) → size t ≡ 2
  unfolding size
  size_truth e = ap size e

  pub size_number : {z : ℤ} → t ≡ literal (Number z) → size t ≡ 5
  unfolding size
  size_number e = ap size e

  pub size_own : {x : ℕ} → t ≡ own x → size t ≡ 2
  unfolding size
  size_own e = ap size e

  pub size_called : {k x : ℕ} → t ≡ called k x → size t ≡ 3
  unfolding size
  size_called e = ap size e

  pub size_unary : {op : Unary} {a : Term} → t ≡ unary op a → size t ≡ size a + 1
  unfolding size
  size_unary e = ap size e

  pub size_binary : {op : Binary} {a b : Term} → t ≡ binary op a b → size t ≡ size a + size b + 1
  unfolding size
  size_binary e = ap size e

  pub size_choice : {c a b : Term} → t ≡ choice c a b → size t ≡ branches_size c a + size b
  unfolding size
  size_choice e = ap size e

  pub size_default : {es : Terms} {j c : Term} → t ≡ default es j c → size t ≡ around_size es + (branches_size j c + 1)
  unfolding size
  size_default e = ap size e

pub size_also : {es ts : Terms} {e : Term} → es ≡ also e ts → sizes es ≡ size e + 9 + sizes ts
unfolding size
size_also {es} {ts} {e} p = ap sizes p ∙ omega arith

pub size_around : {es ts : Terms} {e : Term} → es ≡ also e ts → around_size es ≡ sizes es + 4
size_around {es} {ts} {e} p = rw p (omega arith)

pub size_rest : (j c : Term) → size (default none j c) ≡ branches_size j c + 1
unfolding size
size_rest j c = omega arith

-- Bytes

around_code : (es : Terms) (j c : Term) (k : List ℕ) → around es (branches_size j c + 1) (code (default none j c) k) ≡ code (default es j c) k
unfolding code around
around_code none j c k = refl
around_code (also e es) j c k = refl

-- a term, by what it is equal to
pub told : {s o : List ℕ} {at p : ℕ} {t u : Term} → t ≡ u → Emitted s at u p o → Emitted s at t p o
told e h = rw e h

pub room_same : (at : ℕ) (t u : Term) → t ≡ u → Room at (size t) → Room at (size u)
room_same at t u e h = rw e at h

module _ {s o : List ℕ} {at q : ℕ} {t : Term} where
  pub emits_error : {k : ℕ} {c : Cause} → t ≡ error c → k ≡ raise_kind c → Emits s at (one k) 1 q o → Emitted s at t q o
  unfolding code size
  emits_error e f h = rw e (rw f at h)

  pub emits_own : {x : ℕ} → t ≡ own x → Emits s at (two 6 x) 2 q o → Emitted s at t q o
  unfolding code size
  emits_own e h = rw e h

  module _ {m : List ℕ} {p : ℕ} where
    pub emits_called : {k x : ℕ} → t ≡ called k x → Emits s at (two k x) 2 p m → Emits m p (one 7) 1 q o → Emitted s at t q o
    unfolding code size
    emits_called e h g = rw e (then h g)

    pub emits_unary : {k : ℕ} {op : Unary} {a : Term} → t ≡ unary op a → k ≡ unary_kind op → Emits s at (one k) 1 p m → Emitted m p a q o → Emitted s at t q o
    unfolding code size
    emits_unary e f h g = rw e (alike (then (rw f at h) g) (λ k. refl) (omega arith))

    pub emits_choice : {d : ℕ} {c a b : Term} → t ≡ choice c a b → Emitted s at b p m → d ≡ p - at → EmittedBranches m p c a d q o
        → Emitted s at t q o
    unfolding code size branches
    emits_choice {d} {c} {a} {b} e h f g =
        let n = h.next in
        let z : d ≡ size b = omega arith in
        rw e (alike (then h (rw z at g)) (λ k. refl) (omega arith))

    -- a default, its justification and consequence first
    pub emits_default : {d : ℕ} {es : Terms} {j c : Term} → t ≡ default es j c → Emitted s at (default none j c) p m → d ≡ p - at
        → EmittedAround m p es d q o → Emitted s at t q o
    emits_default {d} {es} {j} {c} e h f g =
        let n = h.next in
        let l = size_rest j c in
        let z : d ≡ branches_size j c + 1 = omega arith in
        rw e (alike (then h (rw z at g)) (λ k. around_code es j c k) (omega (arith, size_default {t = default es j c} refl)))

  module _ {m₁ m₂ : List ℕ} {p₁ p₂ : ℕ} where
    pub emits_binary : {k : ℕ} {op : Binary} {a b : Term} → t ≡ binary op a b → k ≡ binary_kind op → Emits s at (one k) 1 p₁ m₁
        → Emitted m₁ p₁ b p₂ m₂ → Emitted m₂ p₂ a q o → Emitted s at t q o
    unfolding code size
    emits_binary e f h g i = rw e (alike (then (then (rw f at h) g) i) (λ k. refl) (omega arith))

    pub emits_number : {u : ℕ} {z : ℤ} → t ≡ literal (Number z) → u ≡ of_z w32 z → Emits s at (two (u / 256 % 256) (u % 256)) 2 p₁ m₁
        → Emits m₁ p₁ (two (u / 256 / 256 / 256 % 256) (u / 256 / 256 % 256)) 2 p₂ m₂ → Emits m₂ p₂ (one 5) 1 q o → Emitted s at t q o
    unfolding code size number_bytes bytes_of
    emits_number {u} {z} e f h g i = rw e (alike (then (then h g) i) (λ k. ap (λ (v : ℕ). 5 ∷ bytes_of 4 v ++ k) f) refl)

-- justification and consequence, in front of the raise
pub emits_rest : {s m o : List ℕ} {at p q : ℕ} (j c : Term) → Emits s at (one 32) 1 p m → EmittedBranches m p j c 1 q o
    → Emitted s at (default none j c) q o
unfolding code size branches
emits_rest j c h g = alike (then h g) (λ k. refl) (omega arith)

module _ {s m₁ m₂ m₃ o : List ℕ} {at p₁ p₂ p₃ q : ℕ} where
  pub emits_branches : (c a : Term) (d e : ℕ) → Emits s at (jump 34 d) 3 p₁ m₁ → Emitted m₁ p₁ a p₂ m₂ → e ≡ p₂ - p₁ + 3 → Emits m₂ p₂ (jump 35 e) 3 p₃ m₃
      → Emitted m₃ p₃ c q o → EmittedBranches s at c a d q o
  unfolding branches jump
  emits_branches c a d e h g f i j =
      let n = g.next in
      let z : e ≡ size a + 3 = omega arith in
      alike (then (then (then h g) (rw z at i)) j) (λ k. refl) (omega arith)

-- Exceptions

module _ {s m₁ m₂ m₃ o : List ℕ} {at p₁ p₂ p₃ q d : ℕ} {es ts : Terms} {t : Term} where
  -- an exception in front of others
  pub emits_also : es ≡ also t ts → EmittedAll s at ts p₁ m₁ → Emits m₁ p₁ caught 6 p₂ m₂ → Emitted m₂ p₂ t p₃ m₃
      → d ≡ p₃ - p₂ + 4 → Emits m₃ p₃ (jump 36 d) 3 q o → EmittedAll s at es q o
  unfolding codes sizes caught jump
  emits_also e h g f n i =
      let b = f.next in
      let z : d ≡ size t + 4 = omega arith in
      rw e (alike (then (then (then h g) f) (rw z at i)) (λ k. refl) (omega arith))

module _ {s : List ℕ} {at : ℕ} {es : Terms} where
  pub emits_none : es ≡ none → EmittedAll s at es at s
  unfolding codes sizes
  emits_none e = rw e (alike nothing (λ k. refl) refl)

  pub around_none : (d : ℕ) → es ≡ none → EmittedAround s at es d at s
  unfolding around
  around_none d e = rw e (alike nothing (λ k. refl) refl)

  module _ {m₁ m₂ o : List ℕ} {p₁ p₂ q : ℕ} {t : Term} {ts : Terms} where
    pub around_also : (d : ℕ) → es ≡ also t ts → Emits s at (jump 40 d) 3 p₁ m₁ → EmittedAll m₁ p₁ es p₂ m₂ → Emits m₂ p₂ (one 38) 1 q o
        → EmittedAround s at es d q o
    unfolding around jump
    around_also d e h g f = rw e (alike (then (then h (rw e at g)) f) (λ k. refl) (omega arith))

-- the exceptions of a node

module _ (lower : ℕ → Term) where
  pub codes_front : (x : ℕ) (ts : Terms) (k : List ℕ) → codes (exception lower x none) (codes ts k) ≡ codes (exception lower x ts) k
  unfolding codes
  codes_front x ts k = go (eqb x 255)
    where
      go : (b : Bool) → codes (cond b none (also (lower x) none)) (codes ts k) ≡ codes (cond b ts (also (lower x) ts)) k
      go true = refl
      go false = refl

  pub sizes_front : (x : ℕ) (ts : Terms) → sizes ts + sizes (exception lower x none) ≡ sizes (exception lower x ts)
  unfolding sizes
  sizes_front x ts = go (eqb x 255)
    where
      go : (b : Bool) → sizes ts + sizes (cond b none (also (lower x) none)) ≡ sizes (cond b ts (also (lower x) ts))
      go true = omega arith
      go false = omega arith

  abbrev listing : Bool → ℕ → Terms → Terms
  listing b x ts = cond b ts (also (lower x) ts)

  pub all_none : (x y z : ℕ) → no_exception x y z ≡ true → exception lower x (exception lower y (exception lower z none)) ≡ none
  all_none x y z h = go (eqb x 255) (eqb y 255) (eqb z 255) h
    where
      go : (a b c : Bool) → (a && (b && c)) ≡ true → listing a x (listing b y (listing c z none)) ≡ none
      go true true true h = refl
      go true true false h = absurd (false≢true h)
      go true false c h = absurd (false≢true h)
      go false b c h = absurd (false≢true h)

  abbrev pub Any : Terms → Type 0
  Any es = (t : Term) × (ts : Terms) × (es ≡ also t ts)

  pub some_any : (x y z : ℕ) → no_exception x y z ≡ false → Any (exception lower x (exception lower y (exception lower z none)))
  some_any x y z h = go (eqb x 255) (eqb y 255) (eqb z 255) h
    where
      go : (a b c : Bool) → (a && (b && c)) ≡ false → Any (listing a x (listing b y (listing c z none)))
      go true true true h = absurd (false≢true (sym h))
      go true true false h = (_, _, refl)
      go true false c h = (_, _, refl)
      go false b c h = (_, _, refl)

module _ (bytes : List ℕ) (i limit : ℕ) where
  pub exception_none : (x : ℕ) → x ≡ 255 → exception_below bytes i limit x ≡ none
  unfolding exception_below
  exception_none x h = rw (eq-eqb x 255 h)

  pub exception_some : (x : ℕ) → (x ≡ 255 → ⊥) → exception_below bytes i limit x ≡ also (node_below bytes i limit x) none
  unfolding exception_below
  exception_some x h = rw (ne_eqb x 255 h)

  pub exception_size : (x : ℕ) → (x ≡ 255 → ⊥) → sizes (exception_below bytes i limit x) ≡ size (node_below bytes i limit x) + 9
  unfolding sizes
  exception_size x h = size_also (exception_some x h) ∙ omega arith

  module _ (x y z j c : ℕ) where
    abbrev listed : Terms
    listed = exception (node_below bytes i limit) x (exception (node_below bytes i limit) y (exception (node_below bytes i limit) z none))

    pub default_same : node_term (node_below bytes i limit) (Default x y z j c) ≡ default_below bytes i limit x y z j c
    unfolding default_below
    default_same = refl

    whole : default_below bytes i limit x y z j c ≡ default listed (node_below bytes i limit j) (node_below bytes i limit c)
    unfolding default_below
    whole = refl

    pub default_size : size (default_below bytes i limit x y z j c) ≡ around_size listed + (branches_size (node_below bytes i limit j) (node_below bytes i limit c) + 1)
    default_size = size_default whole

    listed_sizes : sizes listed ≡ sizes (exception_below bytes i limit x) + sizes (exception_below bytes i limit y) + sizes (exception_below bytes i limit z)
    unfolding exception_below
    listed_sizes =
        let l = node_below bytes i limit in
        let a = sizes_front l x (exception l y (exception l z none)) in
        let b = sizes_front l y (exception l z none) in
        omega arith

    pub default_sizes : no_exception x y z ≡ false → size (default_below bytes i limit x y z j c)
        ≡ 4 + (sizes (exception_below bytes i limit x) + sizes (exception_below bytes i limit y) + sizes (exception_below bytes i limit z))
        + (branches_size (node_below bytes i limit j) (node_below bytes i limit c) + 1)
    default_sizes h =
        let s = some_any (node_below bytes i limit) x y z h in
        let a = size_around {es = listed} {ts = s.1} {e = s.0} s.2 in
        omega (arith, default_size, listed_sizes)

    front : {s m₁ m₂ o : List ℕ} {at p₁ p₂ q : ℕ} → EmittedAll s at (exception_below bytes i limit z) p₁ m₁
        → EmittedAll m₁ p₁ (exception_below bytes i limit y) p₂ m₂
        → EmittedAll m₂ p₂ (exception_below bytes i limit x) q o
        → EmittedAll s at listed q o
    unfolding exception_below
    front ez ey ex =
        let l = node_below bytes i limit in
        let two = alike (then ez ey) (codes_front l y (exception l z none)) (sizes_front l y (exception l z none)) in
        alike (then two ex) (codes_front l x (exception l y (exception l z none))) (sizes_front l x (exception l y (exception l z none)))

    module _ {s m₁ m₂ : List ℕ} {at p₁ p₂ : ℕ} where
      pub default_plain : no_exception x y z ≡ true → Emits s at (one 32) 1 p₁ m₁
          → EmittedBranches m₁ p₁ (node_below bytes i limit j) (node_below bytes i limit c) 1 p₂ m₂
          → Emitted s at (default_below bytes i limit x y z j c) p₂ m₂
      default_plain h a b = emits_default whole (emits_rest _ _ a b) refl (around_none _ (all_none (node_below bytes i limit) x y z h))

      module _ {m₃ m₄ m₅ m₆ o : List ℕ} {p₃ p₄ p₅ p₆ q d : ℕ} where
        pub default_full : no_exception x y z ≡ false → Emits s at (one 32) 1 p₁ m₁
            → EmittedBranches m₁ p₁ (node_below bytes i limit j) (node_below bytes i limit c) 1 p₂ m₂
            → d ≡ p₂ - at → Emits m₂ p₂ (jump 40 d) 3 p₃ m₃
            → EmittedAll m₃ p₃ (exception_below bytes i limit z) p₄ m₄
            → EmittedAll m₄ p₄ (exception_below bytes i limit y) p₅ m₅
            → EmittedAll m₅ p₅ (exception_below bytes i limit x) p₆ m₆
            → Emits m₆ p₆ (one 38) 1 q o → Emitted s at (default_below bytes i limit x y z j c) q o
        default_full h a b f e ez ey ex g =
            let s = some_any (node_below bytes i limit) x y z h in
            emits_default whole (emits_rest _ _ a b) f (around_also {t = s.0} {ts = s.1} _ s.2 e (front ez ey ex) g)

-- Conditions and consequences

module _ (bytes : List ℕ) (i : ℕ) where
  pub condition_always : (n : ℕ) → n ≡ 255 → condition_at bytes i n ≡ literal (Truth true)
  unfolding condition_at
  condition_always n h = rw (eq-eqb n 255 h)

  module _ (limit : ℕ) (l : limit ≡ length (scope_at (scopes_of bytes) i).nodes) where
    pub condition_node : (n : ℕ) → (n ≡ 255 → ⊥) → condition_at bytes i n ≡ node_below bytes i limit n
    unfolding condition_at term_of node_below
    condition_node n h = rw (ne_eqb n 255 h, l)

    pub consequence_node_lem : (c : Consequence) (n : ℕ) → c ≡ Of n → consequence_at bytes i c ≡ node_below bytes i limit n
    unfolding consequence_at term_of node_below
    consequence_node_lem c n e = rw (e, l)

  pub consequence_fixed : (c : Consequence) (b : Bool) → c ≡ Fixed b → consequence_at bytes i c ≡ literal (Truth b)
  unfolding consequence_at
  consequence_fixed c b e = rw e

  module _ (c : ℕ) (found : Clause) (e : found ≡ clause_at (scopes_of bytes) i c) where
    pub rest_same : rest_at bytes i c ≡ default none (condition_at bytes i found.condition) (consequence_at bytes i found.consequence)
    unfolding rest_at
    rest_same = rw e

    pub rest_size : size (rest_at bytes i c) ≡ branches_size (condition_at bytes i found.condition) (consequence_at bytes i found.consequence) + 1
    rest_size =
        let j = condition_at bytes i found.condition in
        let r = consequence_at bytes i found.consequence in
        ap size rest_same ∙ size_rest j r

-- Where the bases come to nothing

pub outcome_ruled : (ruled : Bool) → ruled ≡ true → last_outcome ruled ≡ literal (Truth false)
unfolding last_outcome
outcome_ruled ruled e = rw e

pub outcome_unruled : (ruled : Bool) → ruled ≡ false → last_outcome ruled ≡ error Empty
unfolding last_outcome
outcome_unruled ruled e = rw e

pub resort_size : (ruled : Bool) → size (last_resort ruled) ≡ size (last_outcome ruled) + 9
unfolding last_resort size
resort_size ruled = omega arith

pub emits_resort : (ruled : Bool) {s o : List ℕ} {at q : ℕ} → Emitted s at (default none (literal (Truth true)) (last_outcome ruled)) q o → Emitted s at (last_resort ruled) q o
unfolding last_resort
emits_resort ruled h = h

module _ (bytes : List ℕ) (i first : ℕ) (ruled : Bool) where
  pub bases_size : size (bases_at bytes i first ruled) ≡ around_size (siblings bytes i first) + size (last_resort ruled)
  unfolding bases_at last_resort
  bases_size = size_default refl ∙ ap (λ (n : ℕ). around_size (siblings bytes i first) + n) (sym (size_rest (literal (Truth true)) (last_outcome ruled)))

  pub emits_bases : {s m o : List ℕ} {at p q d : ℕ} → Emitted s at (last_resort ruled) p m → d ≡ p - at
      → EmittedAround m p (siblings bytes i first) d q o → Emitted s at (bases_at bytes i first ruled) q o
  unfolding bases_at last_resort
  emits_bases a f b = emits_default refl a f b
