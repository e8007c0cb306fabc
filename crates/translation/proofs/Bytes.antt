-- The records of a book whose records have no fault are together no longer than the book.
--     scopes_bytes    every scope has one byte, two for each variable and sub-scope, those of its nodes, and six for each clause
-- Assumes nothing.
use Prim.Native.Nat.{ℕ, zero, suc, ◌+◌, ◌*◌, ◌≤◌, ◌<◌}
use mathlib.Core.Path.{◌≡◌, refl, ap}
use mathlib.Core.Bool.{Bool, true, false, cond, ◌&&◌}
use mathlib.Core.List.{List, [], ◌∷◌}
use mathlib.Core.Logic.{⊎_elim}
use native.Mathlib.Omega.{arith}
use native.Mathlib.Nat.{eq-or-lt_of_le}
use lib.ListN.{length, get_or, get_or-eq_default}
use lib.Dec.{eqb, leb, ltb, leb→le}
use borrow.Author.Tests.{eqb-false, leb-true, ltb-true, ltb-false}
use Rattle.std.specs.Prelude.{None}
use Rattle.laws.proofs.Booleans.{both, decide}
use Rattle.record.specs.Kinds.{kinds, shapes_of, pick_shape, shape_in}
use Rattle.record.specs.declared.Medium.TheVariants.{Book}
use Rattle.book.specs.Syntax.{Scope, node_of}
use Rattle.book.specs.Records.{Met, stage_of, body_of, counted, start, records_from, records, unknown_kind}
use Rattle.book.specs.Decode.{Parsed, in_front, parse, scopes_of}
use Rattle.book.specs.Judge.{scan}
use Rattle.book.specs.declared.Node.{Node}
use Rattle.book.specs.declared.Tally.{Tally}
use Rattle.book.proofs.Shapes.{every, at_every, stage_below}
use Rattle.book.proofs.Sorts.{variable, sub_scope, node, clause, Staged, begins, has, staged, begun}
use Rattle.book.proofs.Sound.{sounds}
use Rattle.translation.proofs.Hefts.{node_bytes}

unfoldable pub all_bytes : List Node → ℕ
all_bytes [] = 0
all_bytes (x ∷ xs) = node_bytes x + all_bytes xs

-- the bytes of a scope's records, its first one apart
abbrev pub inner : Scope → ℕ
inner s = 2 * length s.variables + 2 * length s.sub_scopes + all_bytes s.nodes + 6 * length s.clauses

unfoldable pub together : List Scope → ℕ
together [] = 0
together (s ∷ book) = 1 + inner s + together book

abbrev bytes_in : Parsed → ℕ
bytes_in p = inner p.opened + together p.scopes

-- a body of a stage has at least so many bytes
abbrev least : ℕ → ℕ
least s = cond (eqb s 5) 5 (cond (leb 2 s) 1 0)

body_least : (k : ℕ) → least (shape_in Book k).stage ≤ (shape_in Book k).length
unfolding shape_in shapes_of kinds every
body_least k =
    leb→le (least (shape_in Book k).stage) (shape_in Book k).length
    (at_every (λ s. leb (least (pick_shape Book s).stage) (pick_shape Book s).length) kinds (shapes_of 0) tt tt k)

-- a node of a kind has no more bytes than the kind's record, where the kind is one of a node
abbrev enough : List ℕ → ℕ → Bool
enough body k = leb (node_bytes (node_of k body)) (cond (eqb (shape_in Book k).stage 4) (1 + (shape_in Book k).length) 6)

unfoldable up_to_lem : (ℕ → Bool) → ℕ → Bool
up_to_lem p zero = true
up_to_lem p (suc n) = p n && up_to_lem p n

up_to : (p : ℕ → Bool) (n : ℕ) → up_to_lem p n ≡ true → (k : ℕ) → k < n → p k ≡ true
unfolding up_to_lem
up_to p zero e k l = absurd (omega arith)
up_to p (suc n) e k l =
    let h = both (p n) (up_to_lem p n) e in
    ⊎_elim (λ (q : k ≡ n). rw q h.0) (λ (q : k < n). up_to p n h.1 k q) (eq-or-lt_of_le {n = k} {m = n} (omega arith))

kinds_enough : (body : List ℕ) → up_to_lem (enough body) 45 ≡ true
unfolding up_to_lem node_of shape_in shapes_of kinds
kinds_enough body = refl

past_end : {A : Type 0} (xs : List A) (d : A) (k : ℕ) → length xs ≤ k → get_or xs k d ≡ d
past_end xs d k l = get_or-eq_default xs d l

past_kinds : (k : ℕ) → 45 ≤ k → (shape_in Book k).stage ≡ 0
unfolding shape_in shapes_of kinds
past_kinds k l = ap (λ s. (pick_shape Book s).stage) (past_end kinds (shapes_of 0) k l)

node_adds : (k : ℕ) (body : List ℕ) → (shape_in Book k).stage ≡ 4 → node_bytes (node_of k body) ≤ 1 + (shape_in Book k).length
node_adds k body e =
    ⊎_elim
    (λ (q : ltb k 45 ≡ true).
    let h = leb-true (node_bytes (node_of k body)) (cond (eqb (shape_in Book k).stage 4) (1 + (shape_in Book k).length) 6)
    (up_to (enough body) 45 (kinds_enough body) k (ltb-true k 45 q)) in
    let z : cond (eqb (shape_in Book k).stage 4) (1 + (shape_in Book k).length) 6 ≡ 1 + (shape_in Book k).length = rw e in
    omega (arith, h, z))
    (λ (q : ltb k 45 ≡ false). absurd (omega (arith, past_kinds k (ltb-false k 45 q), e)))
    (decide (ltb k 45))

-- a record adds no more than its own bytes
record_adds : (m : Met) (p : Parsed) → Staged (stage_of m) → bytes_in (in_front m p) ≤ 1 + (shape_in Book m.kind).length + bytes_in p
unfolding together in_front all_bytes
record_adds m p (begins e) = rw (begun m p e) (omega arith)
record_adds m p (has variable e) = let l : least 2 ≤ (shape_in Book m.kind).length = rw e at (body_least m.kind) in rw e (omega (arith, l))
record_adds m p (has sub_scope e) = let l : least 3 ≤ (shape_in Book m.kind).length = rw e at (body_least m.kind) in rw e (omega (arith, l))
record_adds m p (has node e) = let l = node_adds m.kind (body_of m) e in rw e (omega (arith, l))
record_adds m p (has clause e) = let l : least 5 ≤ (shape_in Book m.kind).length = rw e at (body_least m.kind) in rw e (omega (arith, l))

met_bytes : (m : Met) (more : List Met) → scan (m ∷ cond (unknown_kind m) [] more) ≡ None
    → ((shape_in Book m.kind).length ≤ length m.rest → scan more ≡ None → (shape_in Book m.kind).length + bytes_in (parse more) ≤ length m.rest)
    → bytes_in (parse (m ∷ cond (unknown_kind m) [] more)) ≤ suc (length m.rest)
unfolding parse
met_bytes m more e f =
    let h = sounds m (cond (unknown_kind m) [] more) e in
    let l = ltb-false (length m.rest) (shape_in Book m.kind).length h.clean.whole in
    let q : scan more ≡ None = rw h.clean.known at h.more in
    let d = staged (stage_of m) (eqb-false (stage_of m) 0 h.clean.known) (stage_below m.kind) in
    rw h.clean.known (omega (arith, record_adds m (parse more) d, f l q))

-- n bytes of a body left to pass
records_bytes : (l : List ℕ) (n : ℕ) (t : Tally) → n ≤ length l → scan (records_from l n t) ≡ None → n + bytes_in (parse (records_from l n t)) ≤ length l
unfolding records_from parse together all_bytes
records_bytes [] n t h e = omega arith
records_bytes (k ∷ rest) zero t h e =
    let r = met_bytes (record { before = t; kind = k; rest = rest }) (records_from rest (shape_in Book k).length (counted (shape_in Book k).stage t)) e
    (λ u q. records_bytes rest (shape_in Book k).length (counted (shape_in Book k).stage t) u q) in
    omega (arith, r)
records_bytes (b ∷ rest) (suc n) t h e = let r = records_bytes rest n t (omega arith) e in omega (arith, r)

pub scopes_bytes : (bytes : List ℕ) → scan (records bytes) ≡ None → together (scopes_of bytes) ≤ length bytes
unfolding scopes_of records
scopes_bytes bytes e = let r = records_bytes bytes 0 start (omega arith) e in omega (arith, r)
