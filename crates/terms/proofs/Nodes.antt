-- The outcome of a node of a row, by its kind: one law for each way through the code.
--     readable_below              a node below one that can be evaluated can be
--     first_byte .. default-byte  the bytes that each kind has
--     leaf_readable, leaf-here    a leaf, by `Leaves`
--     not_below .. default_below_lem  what the others name
--     empty .. unjustified        their outcome over those of the nodes that they name
-- Assumes nothing.
use Prim.Native.Nat.{ℕ, zero, suc, ◌+◌, ◌<◌, ◌≤◌}
use mathlib.Core.Path.{◌≡◌, refl, sym, ap, ◌∙◌}
use mathlib.Core.Bool.{Bool, true, false, cond}
use mathlib.Core.List.{List, [], ◌∷◌}
use mathlib.Core.Logic.{◌⊎◌, inl, inr, ⊎_elim}
use native.Mathlib.Omega.{arith}
use native.Mathlib.Nat.{eq-or-lt_of_le}
use lib.ListN.{length, get_or, drop}
use lib.Dec.{T, eqb, leb, leb→le}
use types.Run.{OneOf}
use borrow.Author.Tests.{eq-eqb, ne_eqb, eqb-false}
use Rattle.std.specs.Prelude.{Result, Ok, Err}
use Rattle.record.specs.Kinds.{kinds, shapes_of, shape_in}
use Rattle.record.proofs.Decision.{NoneOf}
use Rattle.laws.proofs.Booleans.{decide}
use Rattle.calculus.specs.Outcomes.{binary_on, choose}
use Rattle.calculus.specs.Defaults.{gather, settle}
use Rattle.calculus.specs.Terms.{Term, Terms, none, also}
use Rattle.calculus.specs.Evaluation.{Env, eval, exceptions}
use Rattle.calculus.proofs.Numbers.{zero_fits}
use Rattle.answers.specs.declared.Cause.TheVariants as cause
use Rattle.calculus.specs.declared.Unary.TheVariants.{Not, Negate}
use Rattle.calculus.specs.declared.Binary.{Binary as Operator}
use Rattle.calculus.specs.declared.Joined.TheVariants.{Nothing}
use Rattle.book.specs.Syntax.{no_node, node_of, type_of}
use Rattle.book.specs.Positions.{node_from, node_length}
use Rattle.book.specs.Trees.{exception, node_term, term_below}
use Rattle.book.specs.declared.Node.{Node}
use Rattle.book.specs.declared.Node.TheVariants.{Empty, Conflict, Unary, Binary, Choice, Default}
use Rattle.book.proofs.Terms.{term_here}
use Rattle.index.proofs.Bodies.{after, body_byte, kind_inside, default_inside, keys}
use Rattle.cells.specs.Codec.{conflict_cell, empty_cell, many_cell, yes_cell, cell_of, gathered_cell, Codes, Gathers}
use Rattle.operators.specs.Kinds.{operator}
use Rattle.terms.specs.Operators.{OnOne, OnTwo, OnBoth}
use Rattle.terms.specs.Outcomes.{env_of, nodes_in, outcome_in, gather_in, is_leaf, default_from, Names, NamesException, Stands, Readable, ReadableLeaf, CodesLeaf, GathersIn}
use Rattle.terms.proofs.Defaults.{no_so_far, settled_many, settled, unsettled}
use Rattle.cells.proofs.Codec.{no_end, no_value_lem, is_yes}
use Rattle.terms.proofs.Leaves.{inner_kinds, own_node, called_node}
use Rattle.calculus.specs.declared.Joined.{Joined}
use Rattle.answers.specs.declared.Cause.{Cause}
use Rattle.calculus.specs.declared.Value.{Value}

at_or_past : (m k : ℕ) → m ≤ k → (k ≡ m) ⊎ (m < k)
at_or_past m k l = ⊎_elim (λ (e : m ≡ k). inl (sym e)) inr (eq-or-lt_of_le {n = m} {m = k} l)

-- the kinds of operators on two operands
abbrev pub twos : List ℕ
twos = 12 ∷ 13 ∷ 14 ∷ 15 ∷ 16 ∷ []

binary_of_lem : (k : ℕ) (body : List ℕ) → OneOf twos k → node_of k body ≡ Binary (operator k) (get_or body 0 0) (get_or body 1 0)
unfolding node_of operator
binary_of_lem k body (inl e) = rw e
binary_of_lem k body (inr (inl e)) = rw e
binary_of_lem k body (inr (inr (inl e))) = rw e
binary_of_lem k body (inr (inr (inr (inl e)))) = rw e
binary_of_lem k body (inr (inr (inr (inr e)))) = rw e

-- the single kinds of the decision over the kind of a node that is no leaf, the last first; the others lie between two bounds, or not
abbrev pub singles : List (List ℕ)
singles = (17 ∷ []) ∷ (11 ∷ []) ∷ (10 ∷ []) ∷ (9 ∷ []) ∷ (8 ∷ []) ∷ []

abbrev pub Two : ℕ → Type 0
Two k = NoneOf singles k × (8 ≤ k) × (k < 17)

abbrev pub Other : ℕ → Type 0
Other k = (is_leaf k ≡ false) × NoneOf singles k × ((k < 8) ⊎ (17 ≤ k))

from_twelve : (k : ℕ) → NoneOf singles k → 8 ≤ k → 12 ≤ k
from_twelve k (n, _) l = omega (arith, n.0.0.0.1, n.0.0.1, n.0.1, n.1)

two_of : (k : ℕ) → Two k → OneOf twos k
two_of k (out, l, h) =
    let m = from_twelve k out l in
    ⊎_elim inl (λ (a : 12 < k). inr (
    ⊎_elim inl (λ (b : 13 < k). inr (
    ⊎_elim inl (λ (c : 14 < k). inr (
    ⊎_elim inl (λ (d : 15 < k). inr (omega arith)) (at_or_past 15 k (omega arith)))) (at_or_past 14 k (omega arith)))) (at_or_past 13 k (omega arith)))) (at_or_past 12 k m)

outside : (k : ℕ) → (k < 4) ⊎ (8 ≤ k) → (k < 8) ⊎ (17 ≤ k) → (k < 4) ⊎ (17 ≤ k)
outside k (inl l) far = inl l
outside k (inr h) (inl l) = absurd (omega arith)
outside k (inr h) (inr l) = inr l

apart : (k m : ℕ) → (k < 4) ⊎ (17 ≤ k) → T (leb 4 m) → T (leb m 16) → k ≡ m → ⊥
apart k m (inl l) a b e = let h = leb→le 4 m a in omega arith
apart k m (inr l) a b e = let h = leb→le m 16 b in omega arith

-- an other kind is none of the single kinds of all nodes
no_kind : (k : ℕ) → Other k → NoneOf keys k
no_kind k (inner, out, far) =
    let no : (m : ℕ) → T (leb 4 m) → T (leb m 16) → k ≡ m → ⊥ = λ m. apart k m (outside k (inner_kinds k inner) far) in
    ((((((((((((((tt, no 4 tt tt), no 5 tt tt), no 6 tt tt), no 7 tt tt), no 8 tt tt), no 9 tt tt), no 10 tt tt), no 11 tt tt), no 12 tt tt), no 13 tt tt), no 14 tt tt), no 15 tt tt), no 16 tt tt), out.1)

default_of : (k : ℕ) (body : List ℕ) → NoneOf keys k
    → node_of k body ≡ Default (get_or body 0 0) (get_or body 1 0) (get_or body 2 0) (get_or body 3 0) (get_or body 4 0)
unfolding node_of
default_of k body out =
    rw (
      ne_eqb k 4 out.0.0.0.0.0.0.0.0.0.0.0.0.0.1,
      ne_eqb k 5 out.0.0.0.0.0.0.0.0.0.0.0.0.1,
      ne_eqb k 6 out.0.0.0.0.0.0.0.0.0.0.0.1,
      ne_eqb k 7 out.0.0.0.0.0.0.0.0.0.0.1,
      ne_eqb k 8 out.0.0.0.0.0.0.0.0.0.1,
      ne_eqb k 9 out.0.0.0.0.0.0.0.0.1,
      ne_eqb k 10 out.0.0.0.0.0.0.0.1,
      ne_eqb k 11 out.0.0.0.0.0.0.1,
      ne_eqb k 12 out.0.0.0.0.0.1,
      ne_eqb k 13 out.0.0.0.0.1,
      ne_eqb k 14 out.0.0.0.1,
      ne_eqb k 15 out.0.0.1,
      ne_eqb k 16 out.0.1,
      ne_eqb k 17 out.1,
    )

-- an exception is gathered; 255 is none
exceptions_listed : (e : Env) (lower : ℕ → Term) (g : Result Joined Cause) (x : ℕ) (ts : Terms)
    → exceptions e g (exception lower x ts) ≡ exceptions e (cond (eqb x 255) g (gather g (eval e (lower x)))) ts
unfolding exceptions
exceptions_listed e lower g x ts = go (eqb x 255)
  where
    go : (b : Bool) → exceptions e g (cond b ts (also (lower x) ts)) ≡ exceptions e (cond b g (gather g (eval e (lower x)))) ts
    go true = refl
    go false = refl

-- what an end of the left operand, or of a condition, comes to
end_of_two : (op : Operator) (x : ℕ) (a b : Result Value Cause) → Codes x a → empty_cell ≤ x → Codes x (binary_on op a b)
end_of_two op x (Ok v) b h l = no_end v x h l
end_of_two op x (Err c) b h l = h

pub end_of_choice : (x : ℕ) (o a b : Result Value Cause) → Codes x o → empty_cell ≤ x → Codes x (choose o a b)
end_of_choice x (Ok v) a b h l = no_end v x h l
end_of_choice x (Err c) a b h l = h

-- the branch that a condition takes
pub branch_of_choice : (x r : ℕ) (o a b : Result Value Cause) (q : Bool) → Codes x o → x < empty_cell → eqb x yes_cell ≡ q
    → Codes r (cond q a b) → Codes r (choose o a b)
branch_of_choice x r (Ok v) a b q h l e k = rw (← is_yes v x h, e) k
branch_of_choice x r (Err c) a b q h l e k = no_value_lem c x h l

pub get_d_nodes : (bytes row : List ℕ) (n : ℕ) → n < length row → get_or (nodes_in bytes row) n no_node ≡ node_from bytes (get_or row n 0)
unfolding nodes_in
get_d_nodes bytes [] n l = absurd (omega arith)
get_d_nodes bytes (at ∷ row) zero l = refl
get_d_nodes bytes (at ∷ row) (suc n) l = get_d_nodes bytes row n (omega arith)

module _ (bytes row own called : List ℕ) where
  -- a node's term does not depend on the limit
  pub lower : (n a : ℕ) → a < n → eval (env_of own called) (term_below (nodes_in bytes row) n a) ≡ outcome_in bytes row own called a
  unfolding outcome_in
  lower n a l =
      ap (eval (env_of own called)) (term_here (nodes_in bytes row) n a l ∙ sym (term_here (nodes_in bytes row) (suc a) a (omega arith)))

  gathered_below : (n x : ℕ) (g : Result Joined Cause) → NamesException n x
      → cond (eqb x 255) g (gather g (eval (env_of own called) (term_below (nodes_in bytes row) n x))) ≡ gather_in bytes row own called g x
  unfolding gather_in
  gathered_below n x g named =
      ⊎_elim
      (λ (q : eqb x 255 ≡ true). rw q)
      (λ (q : eqb x 255 ≡ false). rw (q, lower n x (named (eqb-false x 255 q))))
      (decide (eqb x 255))

  -- the exceptions so far, and one more
  module _ (c x r : ℕ) where
    pub none_gathered : x ≡ 255 → GathersIn bytes row own called c x c
    unfolding gather_in
    none_gathered e g h = rw (eq-eqb x 255 e) h

    pub ended_gathered : (x ≡ 255 → ⊥) → empty_cell ≤ c → GathersIn bytes row own called c x c
    unfolding gather_in
    ended_gathered e l (Ok j) h = no_so_far j c h l
    ended_gathered e l (Err k) h = rw (ne_eqb x 255 e) h

    pub one_gathered : (o : ℕ) → (x ≡ 255 → ⊥) → Codes o (outcome_in bytes row own called x) → OnBoth c o r → GathersIn bytes row own called c x r
    unfolding gather_in
    one_gathered o e k f g h = rw (ne_eqb x 255 e) (f g _ h k)

module _ (bytes row own called : List ℕ) (n : ℕ) (s : Readable bytes row own called n) where
  abbrev at : ℕ
  at = get_or row n 0

  abbrev kind : ℕ
  kind = get_or bytes at 0

  -- byte k after the kind
  abbrev byte : ℕ → ℕ
  byte k = get_or bytes (at + k) 0

  abbrev outcome : ℕ → Result Value Cause
  outcome m = outcome_in bytes row own called m

  here : Stands bytes row own called n
  here = s.stands n (omega arith)

  pub readable_below : (m : ℕ) → m ≤ n → Readable bytes row own called m
  readable_below m l = record { stands = λ k h. s.stands k (omega arith); own_kept = s.own_kept; called_kept = s.called_kept }

  pub in_row : n < length row
  in_row = here.inside

  pub in_book : at < length bytes
  in_book = let h = here.whole in omega arith

  pub first_byte : kind < 256 → at + 1 < length bytes
  first_byte l = body_byte bytes at here.whole l

  pub byte_of : (k j : ℕ) → kind ≡ k → T (leb j (node_length k)) → at + j < length bytes
  byte_of k j e t = kind_inside bytes at here.whole k j e t

  pub named : (nd : Node) → node_from bytes at ≡ nd → Names n (length own) (length called) nd
  named nd e = rw e at here.names

  pub found : (nd : Node) → node_from bytes at ≡ nd → outcome n ≡ eval (env_of own called) (node_term (term_below (nodes_in bytes row) n) nd)
  unfolding outcome_in
  found nd e =
      ap (eval (env_of own called))
      (term_here (nodes_in bytes row) (suc n) n (omega arith) ∙ ap (node_term (term_below (nodes_in bytes row) n)) (get_d_nodes bytes row n here.inside ∙ e))

  -- the node, by its kind
  empty_node : kind ≡ 8 → node_from bytes at ≡ Empty (type_of (byte 1))
  unfolding node_from node_of
  empty_node e = rw (e, after bytes at 0)

  conflict_node : kind ≡ 9 → node_from bytes at ≡ Conflict (type_of (byte 1))
  unfolding node_from node_of
  conflict_node e = rw (e, after bytes at 0)

  not_node : kind ≡ 10 → node_from bytes at ≡ Unary Not (byte 1)
  unfolding node_from node_of
  not_node e = rw (e, after bytes at 0)

  negate_node : kind ≡ 11 → node_from bytes at ≡ Unary Negate (byte 1)
  unfolding node_from node_of
  negate_node e = rw (e, after bytes at 0)

  binary_node : Two kind → node_from bytes at ≡ Binary (operator kind) (byte 1) (byte 2)
  unfolding node_from
  binary_node e = rw (binary_of_lem kind (drop (at + 1) bytes) (two_of kind e), after bytes at 0, after bytes at 1)

  choice_node : kind ≡ 17 → node_from bytes at ≡ Choice (byte 1) (byte 2) (byte 3)
  unfolding node_from node_of
  choice_node e = rw (e, after bytes at 0, after bytes at 1, after bytes at 2)

  pub default_node : Other kind → node_from bytes at ≡ default_from bytes at
  unfolding node_from
  default_node out =
      rw (default_of kind (drop (at + 1) bytes) (no_kind kind out), after bytes at 0, after bytes at 1, after bytes at 2, after bytes at 3, after bytes at 4)

  -- the bytes that it has
  pub binary_byte : Two kind → at + 2 < length bytes
  unfolding node_length shape_in shapes_of kinds
  binary_byte h = go (two_of kind h)
    where
      go : OneOf twos kind → at + 2 < length bytes
      go (inl e) = byte_of 12 2 e tt
      go (inr (inl e)) = byte_of 13 2 e tt
      go (inr (inr (inl e))) = byte_of 14 2 e tt
      go (inr (inr (inr (inl e)))) = byte_of 15 2 e tt
      go (inr (inr (inr (inr e)))) = byte_of 16 2 e tt

  pub choice_byte : kind ≡ 17 → at + 3 < length bytes
  unfolding node_length shape_in shapes_of kinds
  choice_byte e = byte_of 17 3 e tt

  pub default_byte : Other kind → kind < 256 → at + 5 < length bytes
  default_byte out l = default_inside bytes at here.whole (no_kind kind out) l 5 (omega arith)

  -- what it names
  pub leaf_readable : is_leaf kind ≡ true → ReadableLeaf bytes own called at
  leaf_readable e = record {
    leaf = e;
    whole = here.whole;
    own_there = λ q. named _ (own_node bytes at q);
    called_there = λ q. named _ (called_node bytes at q);
    own_kept = s.own_kept;
    called_kept = s.called_kept;
  }

  pub not_below : kind ≡ 10 → byte 1 < n
  not_below e = named _ (not_node e)

  pub negate_below : kind ≡ 11 → byte 1 < n
  negate_below e = named _ (negate_node e)

  pub binary_below : Two kind → (byte 1 < n) × (byte 2 < n)
  binary_below e = named _ (binary_node e)

  pub choice_below : kind ≡ 17 → (byte 1 < n) × (byte 2 < n) × (byte 3 < n)
  choice_below e = named _ (choice_node e)

  pub default_below_lem : node_from bytes at ≡ default_from bytes at
      → NamesException n (byte 1) × NamesException n (byte 2) × NamesException n (byte 3) × (byte 4 < n) × (byte 5 < n)
  default_below_lem e = named _ e

  -- its outcome
  pub leaf_here : (r : ℕ) → CodesLeaf bytes own called at r → Codes r (outcome n)
  leaf_here r h = rw (found (node_from bytes at) refl) (h (term_below (nodes_in bytes row) n))

  pub empty : kind ≡ 8 → Codes empty_cell (outcome n)
  unfolding eval cell_of
  empty e = rw (found _ (empty_node e)) (record { is = refl; fits = zero_fits })

  pub conflict : kind ≡ 9 → Codes conflict_cell (outcome n)
  unfolding eval cell_of
  conflict e = rw (found _ (conflict_node e)) (record { is = refl; fits = zero_fits })

  pub of_not : kind ≡ 10 → (x r : ℕ) → Codes x (outcome (byte 1)) → OnOne Not x r → Codes r (outcome n)
  unfolding eval
  of_not e x r h f = rw (found _ (not_node e), lower bytes row own called n (byte 1) (not_below e)) (f _ h)

  pub of_negate : kind ≡ 11 → (x r : ℕ) → Codes x (outcome (byte 1)) → OnOne Negate x r → Codes r (outcome n)
  unfolding eval
  of_negate e x r h f = rw (found _ (negate_node e), lower bytes row own called n (byte 1) (negate_below e)) (f _ h)

  binary_here : Two kind → outcome n ≡ binary_on (operator kind) (outcome (byte 1)) (outcome (byte 2))
  unfolding eval
  binary_here e =
      let b = binary_below e in
      rw (found _ (binary_node e), lower bytes row own called n (byte 1) b.0, lower bytes row own called n (byte 2) b.1)

  pub left_end : Two kind → (x : ℕ) → Codes x (outcome (byte 1)) → empty_cell ≤ x → Codes x (outcome n)
  left_end e x h l = rw (binary_here e) (end_of_two (operator kind) x (outcome (byte 1)) (outcome (byte 2)) h l)

  pub of_two : Two kind → (x y r : ℕ) → Codes x (outcome (byte 1)) → Codes y (outcome (byte 2)) → OnTwo (operator kind) x y r → Codes r (outcome n)
  of_two e x y r h k f = rw (binary_here e) (f (outcome (byte 1)) (outcome (byte 2)) h k)

  choice_here : kind ≡ 17 → outcome n ≡ choose (outcome (byte 1)) (outcome (byte 2)) (outcome (byte 3))
  unfolding eval
  choice_here e =
      let b = choice_below e in
      rw (
        found _ (choice_node e),
        lower bytes row own called n (byte 1) b.0,
        lower bytes row own called n (byte 2) b.1,
        lower bytes row own called n (byte 3) b.2,
      )

  pub condition_end : kind ≡ 17 → (x : ℕ) → Codes x (outcome (byte 1)) → empty_cell ≤ x → Codes x (outcome n)
  condition_end e x h l = rw (choice_here e) (end_of_choice x _ _ _ h l)

  pub branch : kind ≡ 17 → (x r : ℕ) (q : Bool) → Codes x (outcome (byte 1)) → x < empty_cell → eqb x yes_cell ≡ q
      → Codes r (cond q (outcome (byte 2)) (outcome (byte 3))) → Codes r (outcome n)
  branch e x r q h l p k = rw (choice_here e) (branch_of_choice x r _ _ _ q h l p k)

  -- a default: its exceptions, and what decides where they come to nothing
  abbrev gathered : Result Joined Cause
  gathered = gather_in bytes row own called (gather_in bytes row own called (gather_in bytes row own called (Ok Nothing) (byte 1)) (byte 2)) (byte 3)

  abbrev rest : Result Value Cause
  rest = choose (outcome (byte 4)) (outcome (byte 5)) (Err cause.Empty)

  default_here : node_from bytes at ≡ default_from bytes at → outcome n ≡ settle gathered rest
  unfolding eval exceptions
  default_here is =
      let b = default_below_lem is in
      let e = env_of own called in
      let low = term_below (nodes_in bytes row) n in
      rw (
        found _ is,
        exceptions_listed e low (Ok Nothing) (byte 1) (exception low (byte 2) (exception low (byte 3) none)),
        gathered_below bytes row own called n (byte 1) (Ok Nothing) b.0,
        exceptions_listed e low (gather_in bytes row own called (Ok Nothing) (byte 1)) (byte 2) (exception low (byte 3) none),
        gathered_below bytes row own called n (byte 2) (gather_in bytes row own called (Ok Nothing) (byte 1)) b.1,
        exceptions_listed e low (gather_in bytes row own called (gather_in bytes row own called (Ok Nothing) (byte 1)) (byte 2)) (byte 3) none,
        gathered_below bytes row own called n (byte 3) (gather_in bytes row own called (gather_in bytes row own called (Ok Nothing) (byte 1)) (byte 2)) b.2,
        lower bytes row own called n (byte 4) b.3,
        lower bytes row own called n (byte 5) b.4,
      )

  nothing : Gathers 0 (Ok Nothing)
  unfolding gathered_cell
  nothing = record { is = refl; fits = zero_fits }

  module _ (is : node_from bytes at ≡ default_from bytes at) (x y z : ℕ) (one : GathersIn bytes row own called 0 (byte 1) x)
      (two : GathersIn bytes row own called x (byte 2) y) (three : GathersIn bytes row own called y (byte 3) z) where
    all : Gathers z gathered
    all = three _ (two _ (one _ nothing))

    pub default_many : z ≡ many_cell → Codes conflict_cell (outcome n)
    default_many e = rw (default_here is) (settled_many gathered rest (rw e at all))

    pub default_one : (z ≡ many_cell → ⊥) → (z ≡ 0 → ⊥) → Codes z (outcome n)
    default_one m k = rw (default_here is) (settled z gathered rest m k all)

    default_rest : z ≡ 0 → (r : ℕ) → Codes r rest → Codes r (outcome n)
    default_rest e r h = rw (default_here is, unsettled gathered rest (rw e at all)) h

    pub justification_end : z ≡ 0 → (j : ℕ) → Codes j (outcome (byte 4)) → empty_cell ≤ j → Codes j (outcome n)
    justification_end e j h l = default_rest e j (end_of_choice j _ _ _ h l)

    pub justified : z ≡ 0 → (j r : ℕ) → Codes j (outcome (byte 4)) → j < empty_cell → j ≡ yes_cell → Codes r (outcome (byte 5)) → Codes r (outcome n)
    justified e j r h l q k = default_rest e r (branch_of_choice j r _ _ _ true h l (eq-eqb j yes_cell q) k)

    pub unjustified : z ≡ 0 → (j : ℕ) → Codes j (outcome (byte 4)) → j < empty_cell → (j ≡ yes_cell → ⊥) → Codes empty_cell (outcome n)
    unfolding cell_of
    unjustified e j h l q =
        default_rest e empty_cell (branch_of_choice j empty_cell _ _ _ false h l (ne_eqb j yes_cell q) (record { is = refl; fits = zero_fits }))
