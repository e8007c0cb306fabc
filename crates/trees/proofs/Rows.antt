-- The row of a scope: its nodes can be evaluated, and their terms are the scope's.
--     sound_row         the part of a sound book's table is the row
--     sound_roomy       32 cells, and 32 for each sub-scope, are enough
--     readable          a node of the scope can be evaluated over its row
--     node_outcome      and has the outcome that it has in the scope
-- Assumes nothing.
use Prim.Native.Nat.{ℕ, zero, suc, ◌+◌, ◌*◌, ◌<◌}
use mathlib.Core.Path.{◌≡◌, refl, sym, ap, ◌∙◌, fun_ext}
use mathlib.Core.Bool.{true}
use mathlib.Core.List.{List}
use native.Mathlib.Omega.{arith}
use lib.ListN.{length, get_or, drop}
use lib.Seq.{get_or-take, get_or-drop}
use lib.Dec.{ltb}
use borrow.Author.Tests.{ltb-true, ne_eqb}
use Rattle.slices.proofs.Parts.{part_room}
use Rattle.laws.proofs.Booleans.{both}
use Rattle.calculus.specs.Evaluation.{eval}
use Rattle.book.specs.Syntax.{Scope, no_node}
use Rattle.book.specs.Decode.{scopes_of}
use Rattle.book.specs.References.{scope_at, no_clause, names_called, names_exception, node_names}
use Rattle.book.specs.Positions.{node_from, node_length, clause_from, Found}
use Rattle.index.specs.Index.{index_at}
use Rattle.book.specs.Trees.{term_below, term_of}
use Rattle.book.specs.declared.Node.{Node}
use Rattle.book.specs.declared.Node.TheVariants.{Constant, Number, Own, Called, Empty, Conflict, Unary, Binary, Choice, Default}
use Rattle.book.proofs.Terms.{term_here}
use Rattle.book.proofs.Naming.{scope_sound, named_nodes}
use Rattle.index.proofs.Rows.{column}
use Rattle.terms.specs.Outcomes.{env_of, nodes_in, outcome_in, Names, NamesException, Readable}
use Rattle.terms.proofs.Nodes.{get_d_nodes}
use Rattle.trees.specs.Rows.{row_of, clause_place, RowOf, Roomy, Evaluable}

-- the term of a node depends only on the nodes below the limit
same_below : (xs ys : List Node) (l : ℕ) → ((m : ℕ) → m < l → get_or xs m no_node ≡ get_or ys m no_node) → (n : ℕ) → term_below xs l n ≡ term_below ys l n
unfolding term_below
same_below xs ys zero h n = refl
same_below xs ys (suc l) h n =
    let low : term_below xs l ≡ term_below ys l = fun_ext (same_below xs ys l (λ m k. h m (omega arith))) in
    rw (low, h l (omega arith))

-- what a node names in the book has cells
exception_named : (n x : ℕ) → names_exception n x ≡ true → NamesException n x
exception_named n x h e = ltb-true x n (rw (ne_eqb x 255 e) at h)

names : (book : List Scope) (s : Scope) (own called : List ℕ) → Roomy book s own called → (n : ℕ) (x : Node) → node_names book s n x ≡ true
    → Names n (length own) (length called) x
unfolding node_names
names book s own called r n (Constant b) h = tt
names book s own called r n (Number z) h = tt
names book s own called r n (Own v) h = let l = ltb-true v _ h in let m = r.own_room in omega arith
names book s own called r n (Called k v) h = r.called_room k v h
names book s own called r n (Empty t) h = tt
names book s own called r n (Conflict t) h = tt
names book s own called r n (Unary op a) h = ltb-true a n h
names book s own called r n (Binary op a b) h = let p = both (ltb a n) _ h in (ltb-true a n p.0, ltb-true b n p.1)
names book s own called r n (Choice c a b) h =
    let p = both (ltb c n) _ h in
    let q = both (ltb a n) _ p.1 in
    (ltb-true c n p.0, ltb-true a n q.0, ltb-true b n q.1)
names book s own called r n (Default x y z j c) h =
    let p = both (names_exception n x) _ h in
    let q = both (names_exception n y) _ p.1 in
    let u = both (names_exception n z) _ q.1 in
    let w = both (ltb j n) _ u.1 in
    (exception_named n x p.0, exception_named n y q.0, exception_named n z u.0, ltb-true j n w.0, ltb-true c n w.1)

module _ (bytes index links own called : List ℕ) (i : ℕ) (e : Evaluable bytes index links own called i) where
  abbrev row : List ℕ
  row = row_of index i

  row_length : length row ≡ 378
  row_length =
      let l = e.scope in
      let p = e.ready.sound.laid.rows in
      part_room index (124 + i * 418 + 44) 378 (omega arith) refl

  row_place : (m : ℕ) → 44 + m < 422 → get_or row m 0 ≡ index_at index i (44 + m)
  row_place m l =
      let q : 124 + i * 418 + 44 + m ≡ 124 + i * 418 + (44 + m) = omega arith in
      get_or-take 378 (drop (124 + i * 418 + 44) index) m 0 (omega arith)
      ∙ get_or-drop (124 + i * 418 + 44) index m 0
      ∙ ap (λ (k : ℕ). get_or index k 0) q
      ∙ column index i (44 + m) (omega (arith, e.scope, e.ready.sound.laid.within.scopes)) (omega arith) l

  -- the record of which the place stands in the row
  in_row : {A : Type 0} (from : List ℕ → ℕ → A) (long : ℕ → ℕ) (m : ℕ) (x : A)
      → (44 + m < 422) × Found from long bytes (index_at index i (44 + m)) x → (m < length row) × Found from long bytes (get_or row m 0) x
  in_row from long m x p =
      let l = row_length in
      (let k = p.0 in omega arith, rw (row_place m p.0) p.1)

  pub sound_row : RowOf bytes row i
  sound_row =
      let laid = e.ready.sound.laid in
      record {
        nodes = λ n l. in_row node_from node_length n _ (laid.nodes i n no_node l);
        clauses = λ c l. in_row clause_from (λ k. 5) (clause_place c) _ (rw (shift c) at (laid.clauses i c no_clause l));
        named = scope_sound (scopes_of bytes) e.ready.sound.named i;
      }
    where
      shift : (c : ℕ) → 294 + c ≡ 44 + clause_place c
      shift c = omega arith

  called_room_lem : (k x : ℕ) → names_called (scopes_of bytes) (scope_at (scopes_of bytes) i) k x ≡ true → k * 32 + x < length called
  unfolding names_called
  called_room_lem k x h =
      let s = scope_at (scopes_of bytes) i in
      let p = both (ltb k (length s.sub_scopes)) _ h in
      let a = ltb-true k (length s.sub_scopes) p.0 in
      let b = ltb-true x (length (scope_at (scopes_of bytes) (get_or s.sub_scopes k 0)).variables) p.1 in
      let narrow = e.ready.sound.variables (get_or s.sub_scopes k 0) in
      let room = e.called_room in
      omega arith

  pub sound_roomy : Roomy (scopes_of bytes) (scope_at (scopes_of bytes) i) own called
  sound_roomy =
      let few = e.ready.sound.variables i in
      let room = e.own_room in
      record { own_room = omega arith; called_room = called_room_lem; own_kept = e.own_kept; called_kept = e.called_kept }

module _ (bytes row own called : List ℕ) (i : ℕ) (w : RowOf bytes row i) where
  abbrev scope : Scope
  scope = scope_at (scopes_of bytes) i

  pub readable : Roomy (scopes_of bytes) scope own called → (n : ℕ) → n < length scope.nodes → Readable bytes row own called n
  readable roomy n l =
      record {
        stands = λ m k. (
            let f = w.nodes m (omega arith) in
            record {
              inside = f.0;
              whole = f.1.whole;
              names = rw f.1.is (names (scopes_of bytes) scope own called roomy m (get_or scope.nodes m no_node) (named_nodes (scopes_of bytes) scope w.named m (omega arith) no_node));
            });
        own_kept = roomy.own_kept;
        called_kept = roomy.called_kept;
      }

  pub node_outcome : (n : ℕ) → n < length scope.nodes → outcome_in bytes row own called n ≡ eval (env_of own called) (term_of scope n)
  unfolding outcome_in term_of
  node_outcome n h =
      ap (eval (env_of own called))
      (same_below (nodes_in bytes row) scope.nodes (suc n)
      (λ m l. let f = w.nodes m (omega arith) in get_d_nodes bytes row m f.0 ∙ f.1.is) n
      ∙ term_here scope.nodes (suc n) n (omega arith)
      ∙ sym (term_here scope.nodes (length scope.nodes) n h))
