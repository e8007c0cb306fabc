-- The run of a block over its slices.
--     starts                                   at first
--     stepping, turn, ends, sticks, short      an instruction: it can be done, and what follows
--     entry-*                                  the entry of a sub-scope
--     ending, came-end                         the block's end
--     stands, goes_on, ends_so, too_short      a run from a place on, as a part of the whole
--     acts, went-*, stepped, followed-on       what a function answers, by its cases
-- Assumes nothing.
use Prim.Native.Nat.{ℕ, zero, suc, ◌+◌, ◌-◌, ◌*◌, ◌<◌, ◌≤◌}
use mathlib.Core.Path.{◌≡◌, refl, ap, sym, subst, ◌∙◌}
use mathlib.Core.Bool.{true}
use mathlib.Core.List.{List, [], ◌∷◌, ◌++◌, map}
use native.Mathlib.Omega.{arith}
use native.Mathlib.Numerals.{add-one}
use lib.ListN.{length, get_or, set, take, drop, length-drop, length-set}
use lib.ListN.{length-take, get_or-append, replicate, length-replicate}
use Rattle.std.specs.Prelude.{Option, None, Some, Ok, Err}
use Rattle.laws.proofs.Zeros.{zeros}
use lib.Seq.{get_or-set_same, get_or-set_other, get_or-take, get_or-drop, get_or-append-add}
use lib.Dec.{eqb, ltb}
use borrow.Author.Tests.{eq-eqb, ne_eqb, ltb-true, ltb-false}
use Rattle.laws.proofs.Booleans.{decide}
use mathlib.Core.Logic.{◌⊎◌, inl, inr, ⊎_elim}
use Rattle.record.specs.Kinds.{kinds, shapes_of, shape_in}
use Rattle.answers.specs.declared.Cause.{Cause}
use Rattle.calculus.specs.declared.Value.{Value}
use Rattle.calculus.specs.declared.Joined.{Joined}
use Rattle.cells.specs.Cells.{given_of, held}
use Rattle.book.specs.declared.ValueType.TheVariants.{YesNo}
use Rattle.book.specs.declared.Variable.{Variable}
use Rattle.evaluation.specs.Run.{values, ended}
use Rattle.machine.specs.Instructions.{instruction_of}
use Rattle.machine.specs.Blocks.{body_length, variables_of}
use Rattle.machine.specs.Acceptance.{fits, weight_in}
use Rattle.machine.specs.Machine.{waiting, entered, Memory, Try, Ran, ran, stuck, Next, go, returned, entered_with, with_callee, effect}
use Rattle.machine.specs.Run.{cell_of, begins, begin, follow, exec, run_in, at_end}
use Rattle.directory.specs.Tabled.{block_at, block_count}
use Rattle.instructions.specs.declared.Stop.TheVariants as halts
use Rattle.blocks.specs.declared.Halt.{Halt}
use Rattle.blocks.specs.declared.Halt.TheVariants as coded
use Rattle.instructions.specs.Views.{entries, opened, tab, cell_with, own_cell, givens_at, values_in, callee_at, memory}
use Rattle.directory.specs.Layout.{begin_in, end_in, body_in, variables_in, sub_scopes_in, block_in, size_in}
use Rattle.instructions.specs.Effects.{Move, Moves, Framed, Stepping, Stepped, memory_in}
use Rattle.blocks.specs.Entries.{Outcome, back, run_at, variables_at, Enough, Shows, Ending, Finished, Entry, Fresh, Came, Advances}
use Rattle.instructions.proofs.Memory.{tab_at, tab_same, tab_set, tab_map}
use Rattle.machine.proofs.Landing.{lands_here}
use Rattle.slices.proofs.Parts.{all_left, part_room, lent_length}
use Rattle.instructions.specs.declared.Place.{Place}
use Rattle.instructions.specs.declared.Onward.{Onward}
use Rattle.blocks.specs.Running.{Went, Aligned, TriesGood, block, before, env_at, weight_at, Held, run_from, Running, Standing, Acts, EntersAt, Follows, Followed, Steps, SteppedAt}
use Rattle.blocks.proofs.Positions.{exec_past, exec_at, exec_to, fits_at}
use Rattle.blocks.proofs.Invariant.{MemGood, NextGood, step_good, begin_good, run_cons}
use Rattle.blocks.proofs.Tables.{World, small, fit, heavy, below, variables_are, subs_are, bounded, typing, named, callee_below, callee_variables, callee_runs, size_is}

-- the run of a block with nothing said of types
abbrev Good : List ℕ → ℕ → Memory → Type 0
Good code p m = MemGood (before code p) (block code p) (env_at code p) ⊥ (weight_in (before code p)) (weight_at code p) m

is_held : {code : List ℕ} {p : ℕ} {m : Memory} → Good code p m → Held code p m
is_held g = record { many = g.many; counted = g.counted }

is_good : {code : List ℕ} {p : ℕ} {m : Memory} → Held code p m → Good code p m
is_good k = record { typed = λ x. absurd x; many = k.many; counted = k.counted }

-- Parts that were lent

module _ (xs part : List ℕ) (a w : ℕ) (in_List : a ≤ length xs) where
  pub lent_before : (i : ℕ) → i < a → get_or (take a xs ++ (part ++ drop w (drop a xs))) i 0 ≡ get_or xs i 0
  lent_before i l =
      let t = length-take a xs in
      get_or-append (take a xs) (part ++ drop w (drop a xs)) 0 i (omega arith) ∙ get_or-take a xs i 0 l

  pub lent_here : (x : ℕ) → x < length part → get_or (take a xs ++ (part ++ drop w (drop a xs))) (a + x) 0 ≡ get_or part x 0
  lent_here x l =
      let t = length-take a xs in
      let e : a + x ≡ length (take a xs) + x = omega arith in
      ap (λ (i : ℕ). get_or (take a xs ++ (part ++ drop w (drop a xs))) i 0) e
      ∙ get_or-append-add (take a xs) (part ++ drop w (drop a xs)) x 0
      ∙ get_or-append part (drop w (drop a xs)) 0 x l

  pub lent_after : length part ≡ w → (i : ℕ) → a + w ≤ i → get_or (take a xs ++ (part ++ drop w (drop a xs))) i 0 ≡ get_or xs i 0
  lent_after s i l =
      let t = length-take a xs in
      let e : i ≡ length (take a xs) + (length part + (i - a - w)) = omega arith in
      let f : a + (w + (i - a - w)) ≡ i = omega arith in
      ap (λ (j : ℕ). get_or (take a xs ++ (part ++ drop w (drop a xs))) j 0) e
      ∙ get_or-append-add (take a xs) (part ++ drop w (drop a xs)) (length part + (i - a - w)) 0
      ∙ get_or-append-add part (drop w (drop a xs)) (i - a - w) 0
      ∙ get_or-drop w (drop a xs) (i - a - w) 0
      ∙ get_or-drop a xs (w + (i - a - w)) 0
      ∙ ap (λ (j : ℕ). get_or xs j 0) f

pub lent_there : (xs part : List ℕ) (a w : ℕ) → a + 32 ≤ length xs → w ≡ 32 → length part ≡ 32
    → (i : ℕ) → (i < a) ⊎ (a + 32 ≤ i) → get_or (take a xs ++ (part ++ drop w (drop a xs))) i 0 ≡ get_or xs i 0
lent_there xs part a w l e k i q =
    ⊎_elim (λ u. lent_before xs part a w (omega arith) i u) (λ u. lent_after xs part a w (omega arith) (k ∙ sym e) i (omega arith)) q

pub lent_size : (xs part : List ℕ) (a w : ℕ) → a + 32 ≤ length xs → w ≡ 32 → length part ≡ 32 → length (take a xs ++ (part ++ drop w (drop a xs))) ≡ length xs
lent_size xs part a w l e k = lent_length xs part a w (k ∙ sym e) (omega arith)

pub lent_marked : (xs part : List ℕ) (a w i : ℕ) → a + 32 ≤ length xs → w ≡ 32 → length part ≡ 32
    → length (set (take a xs ++ (part ++ drop w (drop a xs))) i 1) ≡ length xs
lent_marked xs part a w i l e k = length-set (take a xs ++ (part ++ drop w (drop a xs))) i 1 ∙ lent_size xs part a w l e k

pub entries_same : (st st' : List ℕ) (h : ℕ) → ((i : ℕ) → i < h → get_or st' i 0 ≡ get_or st i 0) → entries st' h ≡ entries st h
unfolding entries
entries_same st st' zero k = refl
entries_same st st' (suc h) k = rw (k h (omega arith), entries_same st st' h (λ i l. k i (omega arith)))

pub opened_same : (tr tr' : List ℕ) (t : ℕ) → ((i : ℕ) → i < t * 2 → get_or tr' i 0 ≡ get_or tr i 0) → opened tr' t ≡ opened tr t
unfolding opened
opened_same tr tr' zero k = refl
opened_same tr tr' (suc t) k = rw (k (t * 2) (omega arith), k (t * 2 + 1) (omega arith), opened_same tr tr' t (λ i l. k i (omega arith)))

apart : (i k y z : ℕ) → z ≤ 32 → (i ≡ k → ⊥) → y < z → (40 + i * 32 + (0 + y) < 40 + k * 32) ⊎ (40 + k * 32 + 32 ≤ 40 + i * 32 + (0 + y))
apart i k y z few n l =
    ⊎_elim
    (λ q. inl (omega (arith, ltb-true i k q)))
    (λ q. inr (omega (arith, ltb-false i k q, n)))
    (decide (ltb i k))

-- The beginning

given_cell_is : (g : Option Value) → cell_with true g ≡ cell_of g
given_cell_is None = refl
given_cell_is (Some v) = refl

map_tab : {A B : Type 0} (f : A → B) (d : A) (xs : List A) (v : ℕ) (g : ℕ → B) → ((i : ℕ) → i < length xs → g (v + i) ≡ f (get_or xs i d)) → tab g v (length xs) ≡ map f xs
unfolding tab
map_tab f d [] v g k = refl
map_tab f d (x ∷ xs) v g k =
    let z : v + 0 ≡ v = omega arith in
    let h : g v ≡ f x = rw z at (k 0 (omega arith)) in
    rw (h, map_tab f d xs (suc v) g (λ i l. let w : suc v + i ≡ v + suc i = omega arith in rw w (k (suc i) (omega arith))))

absent_tab : (called : List ℕ) (at : ℕ) (vs : List Variable) → ((i : ℕ) → get_or called i 0 ≡ 0) → givens_at called at (length vs) ≡ map (λ x. None) vs
unfolding givens_at given_of
absent_tab called at vs k = map_tab (λ (x : Variable). None) (record { holds = YesNo }) vs 0 (λ x. given_of (get_or called (at + x) 0)) (λ i l. rw (k (at + (0 + i))))

module _ {code directory : List ℕ} (o : World code directory) (p : ℕ) (l : p < block_count code) where
  pub variables_same : variables_in directory p ≡ variables_at code p
  unfolding variables_at block_at
  variables_same = variables_are o p l

  subs_same : sub_scopes_in directory p ≡ length (block code p).sub_scopes
  subs_same = subs_are o p l

  module _ (own frame : List ℕ) (fresh : Fresh directory p frame) where
    own_begins : tab (own_cell own frame) 0 (variables_in directory p) ≡ map cell_of (givens_at own 0 (variables_at code p))
    unfolding own_cell givens_at
    own_begins =
        ap (tab (λ x. cell_with (eqb (get_or frame x 0) 0) (given_of (get_or own x 0))) 0) variables_same
        ∙ tab_same (λ x. cell_with (eqb (get_or frame x 0) 0) (given_of (get_or own x 0))) (λ x. cell_of (given_of (get_or own (0 + x) 0))) 0 (variables_at code p)
        (λ i q. let z : 0 + (0 + i) ≡ 0 + i = omega arith in rw (fresh.zeros (0 + i), z) (given_cell_is (given_of (get_or own (0 + i) 0))))
        ∙ sym (tab_map cell_of (λ x. given_of (get_or own (0 + x) 0)) 0 (variables_at code p))

    callee_begins : (k : ℕ) → k < length (block code p).sub_scopes
        → callee_at frame (size_in directory p k) k ≡ begins (before code p) (get_or (block code p).sub_scopes k 0)
    unfolding callee_at
    callee_begins k m =
        rw (fresh.zeros (32 + k))
        (ap waiting (ap (givens_at frame (40 + k * 32)) (size_is o p l k m) ∙ absent_tab frame (40 + k * 32) (variables_of (before code p) (get_or (block code p).sub_scopes k 0)) fresh.zeros))

    callees_begin : tab (λ k. callee_at frame (size_in directory p k) k) 0 (sub_scopes_in directory p) ≡ map (begins (before code p)) (block code p).sub_scopes
    callees_begin =
        ap (tab (λ k. callee_at frame (size_in directory p k) k) 0) subs_same
        ∙ map_tab (begins (before code p)) 0 (block code p).sub_scopes 0 (λ k. callee_at frame (size_in directory p k) k)
        (λ i q. let z : 0 + i ≡ i = omega arith in rw z (callee_begins i q))

    begin_is : memory_in directory p own frame 1 ≡ begin (before code p) (block code p) (givens_at own 0 (variables_at code p))
    unfolding memory_in memory
    begin_is = rw (own_begins, callees_begin)

    run_is : (gs : List (Option Value)) → run_at code p gs ≡ exec (env_at code p) (block code p).body 0 [] [] (begin (before code p) (block code p) gs)
    unfolding run_at block_at back
    run_is gs = run_cons (block code p) (before code p) (block code p).scope gs ∙ rw (eq-eqb (block code p).scope (block code p).scope refl)

    pub starts : (st tr body : List ℕ) (s : Place) → s.at ≡ 0 → s.height ≡ 0 → s.tries ≡ 0 → s.count ≡ 1 → body ≡ (block code p).body
        → length own ≡ 32
        → Running code directory p st tr (run_at code p (givens_at own 0 (variables_at code p))) body st tr own frame s
    unfolding entries opened
    starts st tr body s at₀ height₀ tries₀ count₀ e a =
        let gs = givens_at own 0 (variables_at code p) in
        record {
          is_body = e;
          same = rw (at₀, height₀, tries₀, count₀, begin_is) (sym (run_is gs));
          aligned = rw at₀ (λ q. lands_here (block code p).body);
          tries = rw tries₀ tt;
          mem = rw (count₀, begin_is) (is_held (begin_good (before code p) (block code p) ⊥ gs (λ x. absurd x)));
          room = record { height = omega arith; stack = omega arith; tries = omega arith; pairs = omega arith };
          framed = record { own_size = a; frame_size = fresh.size };
          stack = refl;
          open_room = refl;
        }

  -- An instruction

  module _ {st₀ tr₀ : List ℕ} {whole : Ran} {body st tr own frame : List ℕ} {s : Place}
      (r : Running code directory p st₀ tr₀ whole body st tr own frame s) (in_Body : s.at < length body) where
    abbrev at : ℕ
    at = s.at

    abbrev h : ℕ
    h = s.height

    abbrev t : ℕ
    t = s.tries

    abbrev count : ℕ
    count = s.count

    abbrev code_body : List ℕ
    code_body = (block code p).body

    abbrev kind : ℕ
    kind = get_or code_body at 0

    inside : at < length code_body
    inside = rw (← r.is_body) in_Body

    fits_here : fits (before code p) (block code p) (instruction_of kind (drop (suc at) code_body)) (drop (body_length kind) (drop (suc at) code_body)) ≡ true
    fits_here = fits_at (before code p) (block code p) code_body at (fit o p l) inside (r.aligned inside)

    next_good : NextGood (before code p) (block code p) (env_at code p) ⊥ (weight_in (before code p)) (weight_at code p)
        (λ d. Aligned code_body (suc at + (body_length kind + d)))
        (effect (env_at code p) (instruction_of kind (drop (suc at) code_body)) (length (drop (body_length kind) (drop (suc at) code_body)))
        (entries st h) (opened tr t) (memory_in directory p own frame count))
    next_good =
        step_good (before code p) (block code p) (env_at code p) ⊥ (weight_in (before code p)) (weight_at code p) (λ x. refl)
        (λ k m hs. below o p l (get_or (block code p).sub_scopes k 0) hs) (fit o p l) at inside (r.aligned inside)
        (entries st h) (opened tr t) (memory_in directory p own frame count) r.tries (is_good r.mem)

    re_aligned : {x y : ℕ} → x ≡ y → Aligned code_body x → Aligned code_body y
    re_aligned z a q = rw (← z) (a (rw z q))

    advanced : (next n at' : ℕ) → Advances next n (length body) at' → (es : List Joined) (ts : List Try) (M : Memory)
        → exec (env_at code p) code_body at' es ts M ≡ exec (env_at code p) code_body (next + n) es ts M
    advanced next n at' adv es ts M =
        ⊎_elim
        (λ q. rw q)
        (λ q.
        let b = ap length r.is_body in
        exec_past (env_at code p) code_body at' es ts M (omega (arith, q.0)) ∙ sym (exec_past (env_at code p) code_body (next + n) es ts M (omega (arith, q.1))))
        adv.lands

    advanced_aligned : (next n at' : ℕ) → Advances next n (length body) at' → Aligned code_body (next + n) → Aligned code_body at'
    advanced_aligned next n at' adv a u =
        ⊎_elim
        (λ q. rw q (a (rw (← q) u)))
        (λ q. let b = ap length r.is_body in absurd (omega (arith, q.0)))
        adv.lands

    next_is_lem : {d : ℕ} {es : List Joined} {ts : List Try} {M : Memory} {X : Next} → X ≡ go d es ts M
        → NextGood (before code p) (block code p) (env_at code p) ⊥ (weight_in (before code p)) (weight_at code p)
        (λ d. Aligned code_body (suc at + (body_length kind + d))) X
        → Aligned code_body (suc at + (body_length kind + d)) × TriesGood code_body ts × Held code p M
    next_is_lem {d} {es} {ts} {M} x k =
        let g : Aligned code_body (suc at + (body_length kind + d)) × TriesGood code_body ts × Good code p M = rw x at k in
        (g.0, g.1, is_held g.2)

    runs_on : exec (env_at code p) code_body at (entries st h) (opened tr t) (memory_in directory p own frame count)
        ≡ follow (effect (env_at code p) (instruction_of kind (drop (suc at) code_body)) (length (drop (body_length kind) (drop (suc at) code_body)))
        (entries st h) (opened tr t) (memory_in directory p own frame count))
        (λ d st₁ ts₁ m₁. exec (env_at code p) (drop (suc at) code_body) (body_length kind + d) st₁ ts₁ m₁)
    runs_on = exec_at (env_at code p) code_body at (entries st h) (opened tr t) (memory_in directory p own frame count) inside

    pub stepping : (get_or body at 0 ≡ 43 → ⊥) → Stepping directory p body s st tr own frame
    stepping n =
        record {
          bounded = bounded o p l;
          framed = r.framed;
          room = r.room;
          inside = in_Body;
          named =
              rw (all_left (at + 1) body, r.is_body, add-one at)
              (named o p l (instruction_of kind (drop (suc at) code_body)) (drop (body_length kind) (drop (suc at) code_body)) fits_here);
          stays = n;
        }

    -- what was done is the effect of the instruction here
    module _ {m : Move} {st' tr' own' frame' : List ℕ}
        (d : Stepped directory p body s st tr own frame m st' tr' own' frame') where
      moves : Moves m (body_length kind) st' tr' (memory_in directory p own' frame' count)
          (effect (env_at code p) (instruction_of kind (drop (suc at) code_body)) (length (drop (body_length kind) (drop (suc at) code_body)))
          (entries st h) (opened tr t) (memory_in directory p own frame count))
      moves = rw (all_left (at + 1) body, r.is_body, add-one at) at (d.same (env_at code p) count (typing o p l))

      pub turn : (n : ℕ) (x : Place) → m ≡ Ok (record { passed = n; height = x.height; tries = x.tries }) → Advances (at + 1) n (length body) x.at → x.count ≡ count
          → length st' ≡ length st → length tr' ≡ length tr → Framed directory p own' frame'
          → Running code directory p st₀ tr₀ whole body st' tr' own' frame' x
      turn n x g adv k ls lt sz =
          let at' = x.at in
          let h' = x.height in
          let t' = x.tries in
          let v : Moves (Ok (record { passed = n; height = h'; tries = t' })) (body_length kind) st' tr' (memory_in directory p own' frame' count)
          (effect (env_at code p) (instruction_of kind (drop (suc at) code_body)) (length (drop (body_length kind) (drop (suc at) code_body)))
          (entries st h) (opened tr t) (memory_in directory p own frame count)) = rw g at moves in
          let z : suc at + (body_length kind + (n - body_length kind)) ≡ at + 1 + n = omega (arith, v.1) in
          let good-next = next_is_lem v.0 next_good in
          let there = advanced (at + 1) n at' adv (entries st' h') (opened tr' t') (memory_in directory p own' frame' count) in
          record {
            is_body = r.is_body;
            same =
                rw k
                (there
                ∙ ap (λ (y : ℕ). exec (env_at code p) code_body y (entries st' h') (opened tr' t') (memory_in directory p own' frame' count)) (sym z)
                ∙ sym (exec_to (env_at code p) code_body at (body_length kind + (n - body_length kind)) (entries st' h') (opened tr' t')
                (memory_in directory p own' frame' count))
                ∙ sym (runs_on ∙ rw v.0)
                ∙ r.same);
            aligned = advanced_aligned (at + 1) n at' adv (re_aligned z good-next.0);
            tries = good-next.1;
            mem = rw k good-next.2;
            room = v.2;
            framed = sz;
            stack = ls ∙ r.stack;
            open_room = lt ∙ r.open_room;
          }

      pub ends : (c : Cause) → m ≡ Err (halts.Ended c) → whole ≡ ran (ended c count)
      unfolding memory_in memory
      ends c g = let v = rw g at moves in sym r.same ∙ runs_on ∙ rw v

      pub sticks : m ≡ Err halts.Stuck → whole ≡ stuck
      sticks g = let v = rw g at moves in sym r.same ∙ runs_on ∙ rw v

      pub short : m ≡ Err halts.NoRoom → length st' ≡ length st → length tr' ≡ length tr → Enough p st₀ tr₀ → ⊥
      short g ls lt q =
          let v = rw g at moves in
          let a = r.stack in
          let b = r.open_room in
          v (record { stack = omega (arith, q.stack); tries = omega (arith, q.tries) })

    -- The entry of a sub-scope

    module _ (e : get_or body at 0 ≡ 43) (sub : ℕ) (is_sub : sub ≡ get_or (drop (at + 1) body) 0 0) where
      abbrev callee : ℕ
      callee = block_in directory p sub

      abbrev size : ℕ
      size = size_in directory p sub

      entry_kind : kind ≡ 43
      entry_kind = rw (← r.is_body) e

      entry_rest : drop (suc at) code_body ≡ drop (at + 1) body
      entry_rest = rw (← r.is_body, add-one at)

      named_here : get_or (drop (at + 1) body) 0 0 < sub_scopes_in directory p
      unfolding instruction_of
      named_here =
          rw (entry_kind, entry_rest) at (named o p l (instruction_of kind (drop (suc at) code_body)) (drop (body_length kind) (drop (suc at) code_body)) fits_here)

      pub entry_named : sub < sub_scopes_in directory p
      entry_named = rw is_sub named_here

      in_subs : sub < length (block code p).sub_scopes
      in_subs = rw (← subs_same) entry_named

      pub entry_small : (sub < 8) × (callee < p)
      entry_small = let b = (bounded o p l).sub_scopes in let n = entry_named in (omega arith, callee_below o p l sub in_subs)

      at_sub : get_or (memory_in directory p own frame count).callees sub (waiting []) ≡ callee_at frame size sub
      unfolding memory_in memory
      at_sub =
          let z : 0 + sub ≡ sub = omega arith in
          tab_at (λ i. callee_at frame (size_in directory p i) i) 0 (sub_scopes_in directory p) sub (waiting []) entry_named
          ∙ ap (λ (i : ℕ). callee_at frame (size_in directory p i) i) z

      entry_effect : effect (env_at code p) (instruction_of kind (drop (suc at) code_body)) (length (drop (body_length kind) (drop (suc at) code_body)))
          (entries st h) (opened tr t) (memory_in directory p own frame count)
          ≡ entered_with (λ gs. run_in (before code p) (get_or (block code p).sub_scopes sub 0) gs) (callee_at frame size sub) sub
          (entries st h) (opened tr t) (memory_in directory p own frame count)
      unfolding effect instruction_of
      entry_effect = rw (entry_kind, entry_rest, ← is_sub) (rw at_sub)

      marked : (get_or frame (32 + sub) 0 ≡ 0 → ⊥) → callee_at frame size sub ≡ entered (values_in frame (40 + sub * 32) size)
      unfolding callee_at
      marked n = rw (ne_eqb (get_or frame (32 + sub) 0) 0 n)

      unmarked : get_or frame (32 + sub) 0 ≡ 0 → callee_at frame size sub ≡ waiting (givens_at frame (40 + sub * 32) size)
      unfolding callee_at
      unmarked n = rw n

      pub entry_twice : (get_or frame (32 + sub) 0 ≡ 0 → ⊥) → whole ≡ stuck
      entry_twice n = sym r.same ∙ runs_on ∙ rw (entry_effect, marked n)

      pub in_frame : 40 + sub * 32 + 32 ≤ length frame
      in_frame = let b = entry_named in let c = r.framed.frame_size in omega arith

      module _ (n : get_or frame (32 + sub) 0 ≡ 0) (w : ℕ) (wide : w ≡ 32) where
        abbrev pub part : List ℕ
        part = take w (drop (40 + sub * 32) frame)

        given : (x : ℕ) → x < 32 → get_or part x 0 ≡ get_or frame (40 + sub * 32 + x) 0
        given x q = get_or-take w (drop (40 + sub * 32) frame) x 0 (rw wide q) ∙ get_or-drop (40 + sub * 32) frame x 0

        size_few : size ≤ 32
        size_few = ((bounded o p l).sizes sub entry_named).1

        callee_size : variables_at code callee ≡ size
        unfolding variables_at block_at
        callee_size = sym (size_is o p l sub in_subs ∙ ap length (callee_variables o p l sub in_subs))

        part_givens : givens_at part 0 (variables_at code callee) ≡ givens_at frame (40 + sub * 32) size
        unfolding givens_at
        part_givens =
            ap (tab (λ x. given_of (get_or part (0 + x) 0)) 0) callee_size
            ∙ tab_same (λ x. given_of (get_or part (0 + x) 0)) (λ x. given_of (get_or frame (40 + sub * 32 + x) 0)) 0 size
            (λ i q. let f = size_few in let z : 0 + (0 + i) ≡ 0 + i = omega arith in rw (z, given (0 + i) (omega arith)))

        abbrev ran_callee : Ran
        ran_callee = run_at code callee (givens_at part 0 (variables_at code callee))

        entry_next : effect (env_at code p) (instruction_of kind (drop (suc at) code_body)) (length (drop (body_length kind) (drop (suc at) code_body)))
            (entries st h) (opened tr t) (memory_in directory p own frame count)
            ≡ returned ran_callee sub (entries st h) (opened tr t) (memory_in directory p own frame count)
        entry_next = entry_effect ∙ rw (unmarked n, callee_runs o p l sub in_subs (givens_at frame (40 + sub * 32) size), part_givens)

        pub entry_ended : (c : Cause) (m : ℕ) → ran_callee ≡ ran (ended c m) → (whole ≡ ran (ended c (count + m))) × (count + m ≤ 4096)
        unfolding memory_in memory
        entry_ended c m q =
            let few : count + m ≤ weight_at code p = rw (entry_next, q) at next_good in
            let w = heavy o p l in
            (sym r.same ∙ runs_on ∙ rw (entry_next, q), omega arith)

        pub entry_stuck : ran_callee ≡ stuck → whole ≡ stuck
        entry_stuck q = sym r.same ∙ runs_on ∙ rw (entry_next, q)

        pub entry_short : {st' tr' : List ℕ} → length st' ≡ length st - h → length tr' ≡ length tr - t * 2 → (Enough callee st' tr' → ⊥) → Enough p st₀ tr₀ → ⊥
        entry_short a b k q =
            let u = r.stack in
            let v = r.open_room in
            let w = entry_small.1 in
            let x = r.room.height in
            let y = r.room.tries in
            let s = q.stack in
            let f = q.tries in
            k (record { stack = omega arith; tries = omega arith })

        -- it came to values
        module _ (m : ℕ) (own' : List ℕ) (q : ran_callee ≡ ran (values (values_in own' 0 (variables_at code callee)) m))
            (full : length own' ≡ 32) where
          -- the frame with the callee's cells, and with its mark
          abbrev pub lent : List ℕ
          lent = take (40 + sub * 32) frame ++ (own' ++ drop w (drop (40 + sub * 32) frame))

          abbrev pub frame' : List ℕ
          frame' = set lent (32 + sub) 1

          here : (x : ℕ) → x < 32 → get_or frame' (40 + sub * 32 + x) 0 ≡ get_or own' x 0
          here x q =
              let i = in_frame in
              let b = entry_small.0 in
              get_or-set_other lent (32 + sub) (40 + sub * 32 + x) 1 0 (λ e. absurd (omega arith)) ∙ lent_here frame own' (40 + sub * 32) w (omega arith) x (rw full q)

          there : (i : ℕ) → (i ≡ 32 + sub → ⊥) → (i < 40 + sub * 32) ⊎ (40 + sub * 32 + 32 ≤ i) → get_or frame' i 0 ≡ get_or frame i 0
          there i v q = get_or-set_other lent (32 + sub) i 1 0 v ∙ lent_there frame own' (40 + sub * 32) w in_frame wide full i q

          lent_as_long : length lent ≡ length frame
          lent_as_long = lent_size frame own' (40 + sub * 32) w in_frame wide full

          abbrev vs : List Value
          vs = values_in own' 0 (variables_at code callee)

          values_here : values_in frame' (40 + sub * 32) size ≡ vs
          unfolding values_in
          values_here =
              sym (ap (tab (λ x. held (given_of (get_or own' (0 + x) 0))) 0) callee_size
              ∙ tab_same (λ x. held (given_of (get_or own' (0 + x) 0))) (λ x. held (given_of (get_or frame' (40 + sub * 32 + x) 0))) 0 size
              (λ i u. let f = size_few in let z : 0 + (0 + i) ≡ 0 + i = omega arith in rw (z, here (0 + i) (omega arith))))

          new_here : (z : 0 < 1) → callee_at frame' size sub ≡ entered vs
          unfolding callee_at
          new_here z =
              let i = in_frame in
              let n = lent_as_long in
              let b = entry_small.0 in
              let in_marks : 32 + sub < length lent = omega arith in
              rw (get_or-set_same lent (32 + sub) 1 0 in_marks, values_here)

          new_there : (i z : ℕ) → z ≤ 32 → i < 8 → (i ≡ sub → ⊥) → callee_at frame z i ≡ callee_at frame' z i
          unfolding callee_at givens_at values_in
          new_there i z few eight n =
              let off : (y : ℕ) → y < z → get_or frame (40 + i * 32 + (0 + y)) 0 ≡ get_or frame' (40 + i * 32 + (0 + y)) 0 =
              λ y u. let b = entry_small.0 in sym (there (40 + i * 32 + (0 + y)) (λ e. absurd (omega arith)) (apart i sub y z few n u)) in
              rw (
                there (32 + i) (λ e. n (omega arith)) (inl (omega arith)),
                tab_same (λ y. given_of (get_or frame (40 + i * 32 + y) 0)) (λ y. given_of (get_or frame' (40 + i * 32 + y) 0)) 0 z (λ y u. ap given_of (off y u)),
                tab_same (λ y. held (given_of (get_or frame (40 + i * 32 + y) 0))) (λ y. held (given_of (get_or frame' (40 + i * 32 + y) 0))) 0 z (λ y u. ap (λ (c : ℕ). held (given_of c)) (off y u)),
              )

          own_there_lem : (x : ℕ) → x < 32 → own_cell own frame x ≡ own_cell own frame' x
          unfolding own_cell
          own_there_lem x q = rw (there x (λ e. absurd (omega arith)) (inl (omega arith)))

          new_memory : with_callee (memory_in directory p own frame count) sub (entered vs) m ≡ memory_in directory p own frame' (count + m)
          unfolding memory_in memory
          new_memory =
              let few = (bounded o p l).variables in
              let eight = (bounded o p l).sub_scopes in
              let all = tab_set (λ i. callee_at frame (size_in directory p i) i) (λ i. callee_at frame' (size_in directory p i) i)
              0 (sub_scopes_in directory p) sub (entered vs) entry_named
              (let z : 0 + sub ≡ sub = omega arith in ap (λ (i : ℕ). callee_at frame' (size_in directory p i) i) z ∙ new_here (omega arith))
              (λ i u v. let z : 0 + i ≡ i = omega arith in rw z (new_there i (size_in directory p i) ((bounded o p l).sizes i u).1 (omega arith) v)) in
              let owns = tab_same (own_cell own frame) (own_cell own frame') 0 (variables_in directory p) (λ i u. own_there_lem (0 + i) (omega arith)) in
              rw (all, owns)

          goes_to : effect (env_at code p) (instruction_of kind (drop (suc at) code_body)) (length (drop (body_length kind) (drop (suc at) code_body)))
              (entries st h) (opened tr t) (memory_in directory p own frame count)
              ≡ go 0 (entries st h) (opened tr t) (memory_in directory p own frame' (count + m))
          goes_to = entry_next ∙ rw (q, new_memory)

          pub entry_turn : (x : Place) (st' tr' : List ℕ) → Advances (at + 1) 1 (length body) x.at → x.height ≡ h → x.tries ≡ t → x.count ≡ count + m
              → ((i : ℕ) → i < h → get_or st' i 0 ≡ get_or st i 0) → ((i : ℕ) → i < t * 2 → get_or tr' i 0 ≡ get_or tr i 0)
              → length st' ≡ length st → length tr' ≡ length tr
              → Running code directory p st₀ tr₀ whole body st' tr' own frame' x
          unfolding shape_in shapes_of kinds
          entry_turn x st' tr' adv kh kt kc a b c d =
              let at' = x.at in
              let es = entries_same st st' h a in
              let ts = opened_same tr tr' t b in
              let z : suc at + (body_length kind + 0) ≡ at + 1 + 1 = rw entry_kind (omega arith) in
              let good-next = next_is_lem goes_to next_good in
              let k = length-set lent (32 + sub) 1 in
              record {
                is_body = r.is_body;
                same =
                    rw (kh, kt, kc, es, ts)
                    (advanced (at + 1) 1 at' adv (entries st h) (opened tr t) (memory_in directory p own frame' (count + m))
                    ∙ ap (λ (y : ℕ). exec (env_at code p) code_body y (entries st h) (opened tr t) (memory_in directory p own frame' (count + m))) (sym z)
                    ∙ sym (exec_to (env_at code p) code_body at (body_length kind + 0) (entries st h) (opened tr t) (memory_in directory p own frame' (count + m)))
                    ∙ sym (runs_on ∙ rw goes_to)
                    ∙ r.same);
                aligned = advanced_aligned (at + 1) 1 at' adv (re_aligned z good-next.0);
                tries = rw (kt, ts) good-next.1;
                mem = rw kc good-next.2;
                room =
                    rw (kh, kt)
                    (record { height = r.room.height; stack = rw c r.room.stack; tries = r.room.tries; pairs = rw d r.room.pairs });
                framed = record { own_size = r.framed.own_size; frame_size = let n = k ∙ lent_as_long in let f = r.framed.frame_size in omega arith };
                stack = c ∙ r.stack;
                open_room = d ∙ r.open_room;
              }

          pub entry_few : count + m ≤ 4096
          unfolding memory_in memory
          entry_few =
              let good-next = next_is_lem goes_to next_good in
              let c = good-next.2.counted in
              let w = heavy o p l in
              omega arith

-- The end of a block

module _ {code directory : List ℕ} {p : ℕ} {own : List ℕ} (e : Entry code directory p own) where
  pub world : World code directory
  world = record { accepts = e.accepts; tabled = e.tabled }

  pub body_is : body_in code directory p ≡ (block code p).body
  unfolding block_at
  body_is = (e.tabled.blocks p e.block).body

  pub ordered : begin_in directory p ≤ end_in directory p
  ordered = (e.tabled.blocks p e.block).ordered

  -- what an end shows, it shows of any equal end
  pub shown : (r : Outcome) {x y : Ran} (own' : List ℕ) {v w : ℕ} (A : Type 0) → x ≡ y → v ≡ w → Shows r x own' v ⊥ → Shows r y own' w A
  shown (Ok n) own' A q z k = rw (← q, ← z) k
  shown (Err (coded.Ended c n)) own' A q z k = rw (← q) k
  shown (Err coded.Stuck) own' A q z k = rw (← q) k
  shown (Err coded.NoRoom) own' A q z k = absurd k

  module _ {st₀ tr₀ body st tr own' frame : List ℕ} {s : Place}
      (r : Running code directory p st₀ tr₀ (run_at code p (givens_at own 0 (variables_at code p))) body st tr own' frame s) where
    end_of : length body ≤ s.at
        → at_end (memory (variables_in directory p) (sub_scopes_in directory p) (size_in directory p) own' frame s.count) ≡ run_at code p (givens_at own 0 (variables_at code p))
    unfolding memory_in
    end_of q =
        sym (exec_past (env_at code p) (block code p).body s.at (entries st s.height) (opened tr s.tries)
        (memory (variables_in directory p) (sub_scopes_in directory p) (size_in directory p) own' frame s.count) (rw (← r.is_body) q))
        ∙ r.same

    pub ending : Ending directory p own' frame
    ending =
        let b = bounded world p e.block in
        let v = b.variables in
        let s = b.sub_scopes in
        let x = r.framed.own_size in
        let y = r.framed.frame_size in
        record { block = b.block; variables = omega arith; sub_scopes = omega arith }

    pub came_end : (a : Outcome) → length body ≤ s.at → Finished directory p own' frame s.count a → Came code p own a own' st₀ tr₀
    came_end a q f =
        record {
          size = r.framed.own_size;
          shows = shown a own' (Enough p st₀ tr₀ → ⊥) (end_of q) (variables_same world p e.block) (f.shows (size_in directory p));
        }

-- What an instruction does to the run

pub stands : {code directory : List ℕ} {p : ℕ} {st₀ tr₀ : List ℕ} {whole : Ran} {body st tr own frame : List ℕ} {s : Place}
    → Running code directory p st₀ tr₀ whole body st tr own frame s → Standing code directory p body st tr own frame s
stands r =
    record {
      is_body = r.is_body;
      same = refl;
      aligned = r.aligned;
      tries = r.tries;
      mem = r.mem;
      room = r.room;
      framed = r.framed;
      stack = refl;
      open_room = refl;
    }

module _ {code directory : List ℕ} {p : ℕ} {st₀ tr₀ : List ℕ} {whole : Ran} {body st tr own frame : List ℕ} {s : Place}
    (r : Running code directory p st₀ tr₀ whole body st tr own frame s) where
  pub goes_on : {st' tr' own' frame' : List ℕ} {x : Place}
      → Running code directory p st tr (run_from code directory p st tr own frame s) body st' tr' own' frame' x
      → Running code directory p st₀ tr₀ whole body st' tr' own' frame' x
  goes_on k =
      record {
        is_body = k.is_body;
        same = k.same ∙ r.same;
        aligned = k.aligned;
        tries = k.tries;
        mem = k.mem;
        room = k.room;
        framed = k.framed;
        stack = k.stack ∙ r.stack;
        open_room = k.open_room ∙ r.open_room;
      }

  pub ends_so : {y : Ran} → run_from code directory p st tr own frame s ≡ y → whole ≡ y
  ends_so e = sym r.same ∙ e

  pub too_short : (Enough p st tr → ⊥) → Enough p st₀ tr₀ → ⊥
  too_short k q =
      let a = r.stack in
      let b = r.open_room in
      k (record { stack = omega (arith, q.stack); tries = omega (arith, q.tries) })

-- what an instruction other than an entry does
module _ {code directory : List ℕ} (o : World code directory) (p : ℕ) (l : p < block_count code)
    {body st tr own frame : List ℕ} {s : Place} (r : Standing code directory p body st tr own frame s) (in_Body : s.at < length body)
    (st' tr' own' frame' : List ℕ) (ls : length st' ≡ length st) (lt : length tr' ≡ length tr) (sz : Framed directory p own' frame') where
  pub acts : (a : Went) → Steps directory p body s st tr own frame st' tr' own' frame' a
      → Acts code directory p st tr (run_from code directory p st tr own frame s) body s.at st' tr' own' frame' a
  acts (Ok x) (n, d, adv, k) = let b = adv.on in (turn o p l r in_Body d n x refl adv k ls lt sz, omega arith)
  acts (Err (coded.Ended c n)) (d, k) = rw k (ends o p l r in_Body d c refl)
  acts (Err coded.Stuck) d = sticks o p l r in_Body d refl
  acts (Err coded.NoRoom) d = short o p l r in_Body d refl ls lt

-- a part to the end of a slice, lent and written
pub lent_rest : (xs part : List ℕ) (a : ℕ) → a ≤ length xs → length part ≡ length (take (length xs - a) (drop a xs))
    → length (take a xs ++ (part ++ drop (length xs - a) (drop a xs))) ≡ length xs
lent_rest xs part a l k =
    let t = length-take (length xs - a) (drop a xs) in
    let d = length-drop a xs in
    lent_length xs part a (length xs - a) (omega arith) (omega arith)

pub rest_length : (xs : List ℕ) (a : ℕ) → a ≤ length xs → length (take (length xs - a) (drop a xs)) ≡ length xs - a
rest_length xs a l = part_room xs a (length xs - a) (omega arith) refl

-- the entry of a callee, and what it came to

pub callee_entry : {code directory : List ℕ} {p q : ℕ} {own part : List ℕ} → Entry code directory p own → q < p → length part ≡ 32
    → Entry code directory q part
callee_entry e l k = let b = e.block in record { accepts = e.accepts; tabled = e.tabled; block = omega arith; room = k }

module _ {code : List ℕ} {q c : ℕ} {part : List ℕ} {a : Outcome} {own st tr : List ℕ} (e : q ≡ c) (k : Came code q part a own st tr) where
  pub came_values : {m : ℕ} → a ≡ Ok m
      → run_at code c (givens_at part 0 (variables_at code c)) ≡ ran (values (values_in own 0 (variables_at code c)) m)
  came_values f = rw (← e) (rw f at k.shows)

  pub came_ended : {x : Cause} {m : ℕ} → a ≡ Err (coded.Ended x m) → run_at code c (givens_at part 0 (variables_at code c)) ≡ ran (ended x m)
  came_ended f = rw (← e) (rw f at k.shows)

  pub came_stuck : a ≡ Err coded.Stuck → run_at code c (givens_at part 0 (variables_at code c)) ≡ stuck
  came_stuck f = rw (← e) (rw f at k.shows)

  pub came_short : a ≡ Err coded.NoRoom → Enough c st tr → ⊥
  came_short f = rw (← e) (rw f at k.shows)

-- what an instruction came to

pub moved : {next n end a b : ℕ} → b ≡ a → Advances next n end a → Advances next n end b
moved {next} {n} {end} e k = subst (λ (y : ℕ). Advances next n end y) (sym e) k

pub further : {at n end a : ℕ} → Advances (at + 1) n end a → at < a
further k = let o = k.on in omega arith

pub record Acted (code directory : List ℕ) (p : ℕ) (st₀ tr₀ : List ℕ) (whole : Ran) (body : List ℕ) (at : ℕ) (st tr own frame : List ℕ) (a : Went) : Type 0 where
  pub shows : Acts code directory p st₀ tr₀ whole body at st tr own frame a

module _ {code directory : List ℕ} {p : ℕ} {st₀ tr₀ : List ℕ} {whole : Ran} {body : List ℕ} {at : ℕ} {st tr own frame : List ℕ} {a : Went}
    (k : Acted code directory p st₀ tr₀ whole body at st tr own frame a) where
  pub went_on : {x : Place} → a ≡ Ok x → Running code directory p st₀ tr₀ whole body st tr own frame x × (at < x.at)
  went_on e = rw e at k.shows

  pub went_ended : {c : Cause} {n : ℕ} → a ≡ Err (coded.Ended c n) → whole ≡ ran (ended c n)
  went_ended e = rw e at k.shows

  pub went_stuck : a ≡ Err coded.Stuck → whole ≡ stuck
  went_stuck e = rw e at k.shows

  pub went_short : a ≡ Err coded.NoRoom → Enough p st₀ tr₀ → ⊥
  went_short e = rw e at k.shows

-- an instruction other than an entry keeps the lengths of the cells and of the frame
pub framed_on : {directory : List ℕ} {p : ℕ} {own frame own' frame' : List ℕ} → Framed directory p own frame → length own' ≡ length own → length frame' ≡ length frame
    → Framed directory p own' frame'
framed_on f x y = let z = f.frame_size in record { own_size = x ∙ f.own_size; frame_size = omega arith }

-- what stops an instruction stops the run of its block
pub came_stopped : {code directory : List ℕ} {p : ℕ} {st₀ tr₀ : List ℕ} (given : List ℕ) {body st tr own frame : List ℕ} {s : Place}
    → Running code directory p st₀ tr₀ (run_at code p (givens_at given 0 (variables_at code p))) body st tr own frame s
    → {body' st' tr' own' frame' : List ℕ} {at : ℕ} {a : Went}
    → Acted code directory p st tr (run_from code directory p st tr own frame s) body' at st' tr' own' frame' a
    → (h : Halt) {own₁ : List ℕ} → a ≡ Err h → length own₁ ≡ 32 → Came code p given (Err h) own₁ st₀ tr₀
came_stopped given r k (coded.Ended c n) e z = record { size = z; shows = ends_so r (went_ended k e) }
came_stopped given r k coded.Stuck e z = record { size = z; shows = ends_so r (went_stuck k e) }
came_stopped given r k coded.NoRoom e z = record { size = z; shows = too_short r (went_short k e) }

module _ {directory : List ℕ} {p : ℕ} {body : List ℕ} {s : Place} {st tr own frame st' tr' own' frame' : List ℕ} {m : Move}
    (d : Stepped directory p body s st tr own frame m st' tr' own' frame') where
  pub stepped : {r : Went} → Followed (s.at + 1) (length body) s.count m r → SteppedAt directory p body s st tr own frame r st' tr' own' frame'
  stepped {r} f = record { shows = steps r f.shows }
    where
      steps : (r : Went) → Follows (s.at + 1) (length body) s.count m r → Steps directory p body s st tr own frame st' tr' own' frame' r
      steps (Ok x) (n, e, adv, kc) = (n, rw (← e) d, adv, kc)
      steps (Err (coded.Ended c n)) (e, kc) = (rw (← e) d, kc)
      steps (Err coded.Stuck) e = rw (← e) d
      steps (Err coded.NoRoom) e = rw (← e) d

-- the next place, by where the parts of it come from
pub followed_on : {next end count : ℕ} {y : Onward} {m : Move} (x : Place) → m ≡ Ok y → x.height ≡ y.height → x.tries ≡ y.tries → x.count ≡ count
    → Advances next y.passed end x.at → Followed next end count m (Ok x)
followed_on {y = y} x e kh kt kc adv = record { shows = (y.passed, rw (kh, kt) e, adv, kc) }

-- The entry of a sub-scope: what it names, and its part of the frame

pub sub_at : {sub : ℕ} (at : ℕ) (body : List ℕ) → sub ≡ get_or body (at + 1) 0 → sub ≡ get_or (drop (at + 1) body) 0 0
sub_at at body e = let z : at + 1 + 0 ≡ at + 1 = omega arith in e ∙ sym (get_or-drop (at + 1) body 0 0 ∙ ap (λ (i : ℕ). get_or body i 0) z)

pub record Enterable (directory : List ℕ) (p sub : ℕ) (frame : List ℕ) : Type 0 where
  pub block : p < 32
  pub few : sub < 8
  pub below : block_in directory p sub < p
  pub cells : 40 + sub * 32 + 32 ≤ length frame

pub enterable : {code directory : List ℕ} {p : ℕ} {body : List ℕ} {s : Place} {st tr frame memo : List ℕ} {sub : ℕ}
    → EntersAt code directory p body s st tr frame memo → sub ≡ get_or body (s.at + 1) 0 → Enterable directory p sub frame
enterable {p = p} {body = body} {s = s} {sub = sub} e k =
    let w = world e.entry in
    let i = sub_at s.at body k in
    let small-entry = entry_small w p e.entry.block e.stands e.inside e.enters sub i in
    record {
      block = small w p e.entry.block;
      few = small-entry.0;
      below = small-entry.1;
      cells = in_frame w p e.entry.block e.stands e.inside e.enters sub i;
    }

-- frames in which nothing stands yet

zero_frame : {directory : List ℕ} {p n : ℕ} → 40 + sub_scopes_in directory p * 32 ≤ n → Fresh directory p (replicate n 0)
zero_frame {n = n} l = let k = length-replicate {A = ℕ} n 0 in record { size = omega arith; zeros = zeros n }

pub fresh_none : {directory : List ℕ} {p calls : ℕ} → calls ≡ sub_scopes_in directory p → calls ≡ 0 → Fresh directory p (replicate 40 0)
fresh_none e z = zero_frame {n = 40} (omega arith)

pub fresh_few : {directory : List ℕ} {p calls : ℕ} → calls ≡ sub_scopes_in directory p → calls ≤ 2 → Fresh directory p (replicate 104 0)
fresh_few e l = zero_frame {n = 104} (omega arith)

pub fresh_all : {code directory : List ℕ} {p : ℕ} {own : List ℕ} → Entry code directory p own → Fresh directory p (replicate 296 0)
fresh_all {p = p} e = let b = (bounded (world e) p e.block).sub_scopes in zero_frame {n = 296} (omega arith)
