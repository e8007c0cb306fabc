-- Entering a scope: the laws of `Running`, over the numbers that the code reads from its tables.
--     earlier, callee                     a scope that is called has its block before the caller's, and can be entered
--     runs_steps, begins, ends            an entry whose steps are run, before the first step and after the last
--     Between                             what holds between two steps
--     step_given, step-tree               a variable's step
--     turn_variable, end-variable, end-hand, turn-call, end-call    a turn of the loop
-- Assumes nothing.
use Prim.Native.Nat.{ℕ, zero, suc, ◌+◌, ◌-◌, ◌*◌, ◌<◌, ◌≤◌}
use mathlib.Core.Path.{◌≡◌, sym, ap, subst, ◌∙◌}
use mathlib.Core.Bool.{true, false, cond}
use mathlib.Core.List.{List, [], ◌∷◌, ◌++◌}
use mathlib.Core.Logic.{⊎_elim}
use native.Mathlib.Omega.{arith}
use lib.ListN.{length, get_or, set, take, drop, replicate, length-replicate}
use lib.Seq.{take_all, get_or-take, get_or-drop}
use lib.Dec.{eqb}
use borrow.Author.Tests.{eqb-true, ne_eqb}
use Rattle.answers.specs.declared.Cause.{Cause}
use Rattle.order.specs.Order.{among}
use Rattle.book.specs.Syntax.{Scope}
use Rattle.book.specs.Decode.{scopes_of}
use Rattle.book.specs.References.{scope_at}
use Rattle.book.specs.Scopes.{blocks}
use Rattle.book.specs.Steps.{step_count, step_order}
use Rattle.book.specs.Positions.{sub_scope_at}
use Rattle.acceptance.specs.Accepted.{AcceptedBook}
use Rattle.order.proofs.Among.{among_none}
use Rattle.laws.proofs.Booleans.{decide}
use Rattle.acceptance.proofs.Orders.{accepted_book, blocks_after}
use Rattle.cells.specs.Codec.{empty_cell, cause_of, Codes, Kept, AllKept}
use Rattle.cells.specs.Cells.{given_of, given_at}
use Rattle.cells.proofs.Variables.{kept_put}
use Rattle.trees.specs.Chains.{tree_outcome, Ready}
use Rattle.trees.specs.Rows.{Evaluable}
use Rattle.evaluation.specs.Run.{ended}
use Rattle.evaluation.proofs.Entering.{accepted_complete, accepted_formed}
use Rattle.scopes.specs.Steps.{step_outcome, HandedAll, entered_at, Came}
use Rattle.scopes.specs.Known.{Known, Noting, Entry, RunsSteps}
use Rattle.std.specs.Prelude.{Result, Ok, Err}
use Rattle.scopes.specs.declared.Ended.{Ended}
use Rattle.scopes.proofs.Cells.{Stored, valued, ends_by, stored, kept_none, pasted_length}
use Rattle.scopes.proofs.Running.{Running, call_below, start, variable_ends, variable_turn, call_stops, call_ends, ends_few, values_few, call_turn, stop}

pub ended_came : {bytes : List ℕ} {i : ℕ} {given own : List ℕ} {c : Cause} {m : ℕ} → length own ≡ 32 → AllKept own → entered_at bytes i given ≡ ended c m
    → Came bytes i given (Err (record { cause = c; count = m })) own
ended_came size kept e = record { size = size; kept = kept; same = sym e; present = λ m q x l. cc }

-- a step comes to what is given, or to its tree
module _ (bytes given own called : List ℕ) (i x : ℕ) where
  pub step_given : Kept (get_or given x 0) → (get_or given x 0 ≡ 0 → ⊥) → Codes (get_or given x 0) (step_outcome bytes given own called i x)
  unfolding step_outcome given_at given_of
  step_given k ne = rw (ne_eqb (get_or given x 0) 0 ne) (rw (ne_eqb (get_or given x 0) 0 ne) at k)

  pub step_tree : {c : ℕ} → get_or given x 0 ≡ 0 → Codes c (tree_outcome bytes own called i 255 x) → Codes c (step_outcome bytes given own called i x)
  unfolding step_outcome tree_outcome given_at given_of
  step_tree e h = rw e h

-- the place of a number in a list
unfoldable pub place_of : List ℕ → ℕ → ℕ
place_of [] w = 0
place_of (x ∷ xs) w = cond (eqb w x) 0 (suc (place_of xs w))

place_first : (xs : List ℕ) (p w : ℕ) → among (take p xs) w ≡ true → place_of xs w < p
unfolding place_of among
place_first xs zero w h = among_none w h
place_first [] (suc p) w h = among_none w h
place_first (x ∷ xs) (suc p) w h =
    ⊎_elim
    (λ (q : eqb w x ≡ true). rw q (omega arith))
    (λ (q : eqb w x ≡ false). let l = place_first xs p w (rw q at h) in rw q (omega (arith, l)))
    (decide (eqb w x))

place_at : (xs : List ℕ) (w : ℕ) → among xs w ≡ true → get_or xs (place_of xs w) 0 ≡ w
unfolding place_of among
place_at [] w h = among_none w h
place_at (x ∷ xs) w h =
    ⊎_elim
    (λ (q : eqb w x ≡ true). rw q (sym (eqb-true w x q)))
    (λ (q : eqb w x ≡ false). rw q (place_at xs w (rw q at h)))
    (decide (eqb w x))

-- between two steps of a run: what is known stays so, and lent slices keep their lengths
pub record Between (bytes : List ℕ) (i : ℕ) (given called₀ memo₀ own called memo handed : List ℕ) (count n : ℕ) : Type 0 where
  pub running : Running bytes i given own called handed count n
  pub known : Known bytes memo
  pub called_same : length called ≡ length called₀
  pub memo_same : length memo ≡ length memo₀

-- turn n of the loop: the numbers that are read, and the place of the step
pub record Turn (bytes orders : List ℕ) (i : ℕ) (given own called handed : List ℕ) (count n a b x : ℕ) : Type 0 where
  pub running : Running bytes i given own called handed count n
  pub variables : a ≡ length (scope_at (scopes_of bytes) i).variables
  pub sub_scopes : b ≡ length (scope_at (scopes_of bytes) i).sub_scopes
  pub more : n < a + b
  pub at : x ≡ get_or orders (i * 40 + n) 0

-- how many blocks of a book stand before that of scope i
abbrev pub rank : List ℕ → ℕ → ℕ
rank bytes i = place_of (blocks (scopes_of bytes)) i

module _ {bytes index links orders : List ℕ} {i : ℕ} {given₀ own₀ memo₀ : List ℕ} (e : Entry bytes index links orders i given₀ own₀ memo₀) where
  abbrev book : List Scope
  book = scopes_of bytes

  abbrev s : Scope
  s = scope_at book i

  accepted : AcceptedBook bytes (length book)
  accepted = accepted_book bytes (length book) e.world.accepted

  pub scope_few : i < 32
  scope_few = omega (arith, e.scope, accepted.scopes)

  pub row_ready : Ready bytes index (take 834 (drop (i * 834) links)) i
  row_ready = record { sound = e.world.sound; linked = e.world.linked.rows i e.scope }

  step_at_lem : (n : ℕ) → n < step_count s → get_or orders (i * 40 + n) 0 ≡ get_or (step_order s) n 0
  step_at_lem n l =
      sym (get_or-drop (i * 40) orders n 0)
      ∙ sym (get_or-take (step_count s) (drop (i * 40) orders) n 0 l)
      ∙ ap (λ (xs : List ℕ). get_or xs n 0) (e.world.step_orders i e.scope)

  pub earlier : (k j : ℕ) → k < length s.sub_scopes → j ≡ sub_scope_at book i k → rank bytes j < rank bytes i
  unfolding sub_scope_at
  earlier k j l is =
      let c = accepted_complete bytes (length book) e.world.accepted in
      let f = accepted_formed bytes (length book) e.world.accepted in
      let all : take (length book) (blocks book) ≡ blocks book = take_all (length book) (blocks book) (omega (arith, c.count)) in
      let there : among (blocks book) i ≡ true = c.every i e.scope in
      let low : rank bytes i < length book = place_first (blocks book) (length book) i (ap (λ (xs : List ℕ). among xs i) all ∙ there) in
      let here : get_or (blocks book) (rank bytes i) 0 ≡ i = place_at (blocks book) i there in
      let long : length (scope_at book (get_or (blocks book) (rank bytes i) 0)).sub_scopes ≡ length s.sub_scopes = ap (λ (b : ℕ). length (scope_at book b).sub_scopes) here in
      let first : among (take (rank bytes i) (blocks book)) (get_or s.sub_scopes k 0) ≡ true =
      ap (λ (b : ℕ). among (take (rank bytes i) (blocks book)) (get_or (scope_at book b).sub_scopes k 0)) (sym here)
      ∙ blocks_after book c f (rank bytes i) low k (omega (arith, long)) in
      subst (λ (z : ℕ). rank bytes z < rank bytes i) (sym is) (place_first (blocks book) (rank bytes i) (get_or s.sub_scopes k 0) first)

  pub callee : (k j : ℕ) (handed part memo : List ℕ) → k < length s.sub_scopes → j ≡ sub_scope_at book i k → length handed ≡ 32 → AllKept handed
      → length part ≡ 32 → AllKept part → Known bytes memo → Entry bytes index links orders j handed part memo
  unfolding sub_scope_at
  callee k j handed part memo l is long given room kept known =
      let f = accepted_formed bytes (length book) e.world.accepted in
      record {
        world = e.world;
        scope = subst (λ (z : ℕ). z < length book) (sym is) ((f i e.scope).sub_scopes_named k l);
        given_room = long;
        given_kept = given;
        room = room;
        kept = kept;
        known = known;
      }

  -- what is known can be read and written
  pub noting : {own memo : List ℕ} → length own ≡ 32 → AllKept own → Known bytes memo → Noting bytes index i own memo
  noting room kept known = record { laid = e.world.sound.laid; scope = e.scope; room = room; kept = kept; known = known }

  pub called_few : length s.sub_scopes ≤ 8
  called_few = e.world.sound.sub_scopes i

  -- the steps are run in cells that are cleared
  pub runs_steps : (n : ℕ) {own : List ℕ} → length own ≡ 32 → AllKept own → length s.sub_scopes * 32 ≤ n
      → RunsSteps bytes index links orders i given₀ own (replicate n 0) memo₀
  runs_steps n room kept l =
      let long : length {A = ℕ} (replicate n 0) ≡ n = length-replicate {A = ℕ} n 0 in
      record {
        entry = record {
          world = e.world;
          scope = e.scope;
          given_room = e.given_room;
          given_kept = e.given_kept;
          room = room;
          kept = kept;
          known = e.known;
        };
        called_room = omega (arith, long);
        called_kept = kept_none n;
      }

  pub begins : {given own called : List ℕ} → length own ≡ 32 → AllKept own → length s.sub_scopes * 32 ≤ length called → AllKept called
      → Running bytes i given own called (replicate 32 0) 1 0
  begins {given} {own} {called} = start bytes i given e.world.accepted e.scope own called

  pub ends : {given own called handed : List ℕ} {count n a b : ℕ} → Running bytes i given own called handed count n
      → a ≡ length s.variables → b ≡ length s.sub_scopes → a + b ≤ n → Came bytes i given (Ok count) own
  unfolding step_count
  ends {given} r va vb l = stop bytes i given e.world.accepted e.scope r (omega arith)

  module _ {given own called handed : List ℕ} {count n a b x : ℕ} (u : Turn bytes orders i given own called handed count n a b x) where
    inside : n < step_count s
    unfolding step_count
    inside = omega arith

    is : x ≡ get_or (step_order s) n 0
    is = u.at ∙ step_at_lem n inside

    pub evaluable : {row : List ℕ} → row ≡ take 834 (drop (i * 834) links) → Evaluable bytes index row own called i
    evaluable f =
        record {
          ready = rw f row_ready;
          scope = e.scope;
          own_room = omega (arith, u.running.own_room);
          called_room = u.running.called_room;
          own_kept = u.running.own_kept;
          called_kept = u.running.called_kept;
        }

    module _ (l : x < a) where
      low : get_or (step_order s) n 0 < length s.variables
      low = subst (λ (z : ℕ). z < length s.variables) is (omega arith)

      pub put_room : x < length own
      put_room = omega (arith, l, u.variables, u.running.own_room, (accepted.within i).variables)

      pub given_room_lem : x < length given₀
      given_room_lem = omega (arith, l, u.variables, e.given_room, (accepted.within i).variables)

      module _ {c : ℕ} (h : Codes c (step_outcome bytes given own called i x)) where
        pub turn_variable : c < empty_cell → Running bytes i given (set own x c) called handed count (n + 1)
        turn_variable below =
            let z : n + 1 ≡ suc n = omega arith in
            let w = valued (step_outcome bytes given own called i x) c h below in
            rw z
            (variable_turn bytes i given e.world.accepted e.scope u.running inside low w.value (set own x c)
            (ap (step_outcome bytes given own called i) (sym is) ∙ w.gives)
            (subst (λ (y : ℕ). Stored own y w.value (set own x c)) is (stored own x c w put_room))
            (kept_put own x c w.kept u.running.own_kept))

        pub end_variable : {d : Cause} → empty_cell ≤ c → d ≡ cause_of c → Came bytes i given (Err (record { cause = d; count = count })) own
        end_variable {d} high f =
            rw f
            (ended_came u.running.own_room u.running.own_kept
            (variable_ends bytes i given e.world.accepted e.scope u.running inside low (cause_of c)
            (ap (step_outcome bytes given own called i) (sym is) ∙ ends_by (step_outcome bytes given own called i x) c h high)))

    module _ (l : a ≤ x) where
      call : length s.variables + (x - a) ≡ get_or (step_order s) n 0
      call = let q : length s.variables + (x - a) ≡ x = omega arith in q ∙ is

      pub number_below : x - a < length s.sub_scopes
      number_below = call_below bytes i given e.world.accepted e.scope u.running inside (x - a) call

      pub number_few : x - a < 8
      number_few = omega (arith, number_below, (accepted.within i).sub_scopes)

      pub called_room_lem : (x - a) * 32 + 32 ≤ length called
      called_room_lem = omega (arith, number_below, u.running.called_room)

      pub call_same : {j : ℕ} {handed' : List ℕ} {q : Result ℕ Ended} {part : List ℕ} → Came bytes j handed' q part → (w : ℕ) → w ≡ 32
          → length (take ((x - a) * 32) called ++ (part ++ drop w (drop ((x - a) * 32) called))) ≡ length called
      call_same {part = part} came w wide = rw wide (pasted_length called part ((x - a) * 32) 32 came.size called_room_lem)

      module _ {c : ℕ} {handed' : List ℕ} (h : HandedAll bytes own called i (x - a) c handed') where
        pub end_hand : {d : Cause} → empty_cell ≤ c → d ≡ cause_of c → Came bytes i given (Err (record { cause = d; count = count })) own
        end_hand {d} high f =
            rw f
            (ended_came u.running.own_room u.running.own_kept (call_stops bytes i given e.world.accepted e.scope u.running inside (x - a) call h high))

        module _ (below : c < empty_cell) {j : ℕ} (ji : j ≡ sub_scope_at book i (x - a)) {q : Result ℕ Ended} {part : List ℕ} (came : Came bytes j handed' q part) where
          came' : Came bytes (get_or s.sub_scopes (x - a) 0) handed' q part
          unfolding sub_scope_at
          came' = subst (λ (z : ℕ). Came bytes z handed' q part) ji came

          pub few_ended : {d : Ended} → q ≡ Err d → count + d.count ≤ 4096
          few_ended {d} f = ends_few bytes i given e.world.accepted e.scope u.running inside (x - a) call h below came' d f

          pub few_values : {m : ℕ} → q ≡ Ok m → count + m ≤ 4096
          few_values {m} f = values_few bytes i given e.world.accepted e.scope u.running inside (x - a) call h below came' m f

          pub end_call : {d : Ended} → q ≡ Err d → Came bytes i given (Err (record { cause = d.cause; count = count + d.count })) own
          end_call {d} f =
              ended_came u.running.own_room u.running.own_kept (call_ends bytes i given e.world.accepted e.scope u.running inside (x - a) call h below came' d f)

          pub turn_call : {m : ℕ} (w : ℕ) → w ≡ 32 → q ≡ Ok m
              → Running bytes i given own (take ((x - a) * 32) called ++ (part ++ drop w (drop ((x - a) * 32) called))) handed' (count + m) (n + 1)
          turn_call {m} w wide f =
              let z : n + 1 ≡ suc n = omega arith in
              rw (z, wide) (call_turn bytes i given e.world.accepted e.scope u.running inside (x - a) call h below came' m f)
