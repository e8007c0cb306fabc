-- What was read, as the index has it, by sort.
--     over_limit, in-limit    a record more passes a limit, or does not
--     tally_start, counting-start  nothing was read
--     tally_next, counting-next    after a record
-- Assumes nothing.
use Prim.Native.Nat.{ℕ, ◌+◌, ◌-◌, ◌*◌, ◌≤◌, ◌<◌}
use mathlib.Core.Path.{◌≡◌, refl, sym, ◌∙◌}
use mathlib.Core.Bool.{Bool, true, false, cond}
use mathlib.Core.List.{List}
use mathlib.Core.Logic.{⊎_elim}
use native.Mathlib.Omega.{arith}
use lib.ListN.{length, get_or, set, length-set}
use lib.Dec.{eqb, ltb}
use borrow.Author.Tests.{eqb-true, eqb-false, eq-eqb, lt-ltb, le-ltb}
use Rattle.std.specs.Prelude.{Ok, Err}
use Rattle.laws.proofs.Booleans.{decide}
use Rattle.book.specs.declared.Tally.{Tally}
use Rattle.answers.specs.declared.Fault.TheVariants.{OutOfOrder, LimitExceeded, InvalidByte}
use Rattle.book.specs.Records.{counted, start, follows, exceeds, invalid}
use Rattle.index.specs.Index.{cell_of, index_at}
use Rattle.scan.specs.declared.Slot.{Slot}
use Rattle.book.specs.Limits.{InLimits}
use Rattle.scan.specs.Counting.{slot_of, number_of, scopes_with, tally_of, Counts, Counting}
use Rattle.scan.specs.Filling.{stored}
use Rattle.scan.specs.Step.{passed, step_over}
use Rattle.book.proofs.Shapes.{in_order_lem}
use Rattle.book.proofs.Sound.{in_limits, not_exceeds, start_in_limits}
use Rattle.scan.proofs.Cells.{with_record, stored_other, count_own, column_zero}
use Rattle.book.proofs.Sorts.{Sort, variable, sub_scope, node, clause, number, stage, base, limit, count, Staged, begins, has, staged, number_below, base_above, stage_two, same_sort, count_in_limits, scopes_new, count_turn}

pub slot_sort : (s : Sort) → slot_of (stage s) ≡ record { base = base s; limit = limit s }
unfolding slot_of
slot_sort variable = refl
slot_sort sub_scope = refl
slot_sort node = refl
slot_sort clause = refl

pub number_sort : (s : Sort) (index : List ℕ) (last scopes : ℕ) → number_of index (stage s) scopes ≡ count s (tally_of index last scopes)
unfolding number_of tally_of
number_sort variable index last scopes = refl
number_sort sub_scope index last scopes = refl
number_sort node index last scopes = refl
number_sort clause index last scopes = refl

pub count_sort : (s : Sort) (index : List ℕ) (last scopes : ℕ) → count s (tally_of index last scopes) ≡ index_at index (scopes - 1) (number s)
unfolding tally_of
count_sort variable index last scopes = refl
count_sort sub_scope index last scopes = refl
count_sort node index last scopes = refl
count_sort clause index last scopes = refl

pub stored_sort : (s : Sort) (index : List ℕ) (at last scopes : ℕ) → stored index at (stage s) scopes ≡ with_record index (scopes - 1) s (count s (tally_of index last scopes)) at
unfolding stored slot_of number_of tally_of
stored_sort variable index at last scopes = refl
stored_sort sub_scope index at last scopes = refl
stored_sort node index at last scopes = refl
stored_sort clause index at last scopes = refl

module _ (index : List ℕ) (st scopes : ℕ) where
  pub number_one : st < 2 → scopes ≡ number_of index st scopes
  unfolding number_of
  number_one h = rw (lt-ltb st 2 h)

  pub number_more : Counts index st scopes → 2 ≤ st → get_or index ((scopes - 1) * 4 + (st - 2)) 0 ≡ number_of index st scopes
  unfolding number_of index_at cell_of
  number_more c h =
      let o = c.opened h in
      rw (le-ltb st 2 h, lt-ltb (scopes - 1) 32 (omega (arith, c.few)), lt-ltb (st - 2) 422 (omega (arith, c.stage)), lt-ltb (st - 2) 4 (omega (arith, c.stage)))

pub stored_length : (index : List ℕ) (at st scopes : ℕ) → length (stored index at st scopes) ≡ length index
unfolding stored
stored_length index at st scopes = go (ltb st 2)
  where
    go : (b : Bool)
        → length (cond b index (set (set index (cell_of (scopes - 1) ((slot_of st).base + number_of index st scopes)) at) (cell_of (scopes - 1) (st - 2)) (number_of index st scopes + 1)))
        ≡ length index
    go true = refl
    go false =
        length-set (set index (cell_of (scopes - 1) ((slot_of st).base + number_of index st scopes)) at) (cell_of (scopes - 1) (st - 2)) (number_of index st scopes + 1)
        ∙ length-set index (cell_of (scopes - 1) ((slot_of st).base + number_of index st scopes)) at

pub scopes_kept : (s : Sort) (scopes : ℕ) → scopes_with (stage s) scopes ≡ scopes
unfolding scopes_with
scopes_kept variable scopes = refl
scopes_kept sub_scope scopes = refl
scopes_kept node scopes = refl
scopes_kept clause scopes = refl

-- Limits

limits_turn : (s : Sort) (t : Tally) → InLimits t → count s t < limit s → InLimits (counted (stage s) t)
unfolding counted
limits_turn variable t l h = record { scopes = l.scopes; variables = omega arith; subs = l.subs; nodes = l.nodes; clauses = l.clauses }
limits_turn sub_scope t l h = record { scopes = l.scopes; variables = l.variables; subs = omega arith; nodes = l.nodes; clauses = l.clauses }
limits_turn node t l h = record { scopes = l.scopes; variables = l.variables; subs = l.subs; nodes = omega arith; clauses = l.clauses }
limits_turn clause t l h = record { scopes = l.scopes; variables = l.variables; subs = l.subs; nodes = l.nodes; clauses = omega arith }

pub less_than_limit : (s : Sort) (t : Tally) → InLimits (counted (stage s) t) → count s t < limit s
less_than_limit s t l =
    let a = count_in_limits s (counted (stage s) t) l in
    let b : count s (counted (stage s) t) ≡ count s t + 1 = count_turn s s t ∙ rw (eq-eqb (number s) (number s) refl) in
    omega arith

limits_new : (t : Tally) → t.scopes < 32 → InLimits (counted 1 t)
unfolding counted
limits_new t h = record { scopes = omega arith; variables = omega arith; subs = omega arith; nodes = omega arith; clauses = omega arith }

passes : (t : Tally) → (InLimits t → ⊥) → exceeds t ≡ true
passes t h = ⊎_elim (λ (q : exceeds t ≡ true). q) (λ (q : exceeds t ≡ false). absurd (h (in_limits t q))) (decide (exceeds t))

pub scopes_of_lem : (index : List ℕ) (last scopes : ℕ) → (tally_of index last scopes).scopes ≡ scopes
unfolding tally_of
scopes_of_lem index last scopes = refl

module _ (index : List ℕ) (last scopes : ℕ) (c : Counting index last scopes) where
  abbrev t : Tally
  t = tally_of index last scopes

  over_staged : (st : ℕ) → Staged st → (slot_of st).limit ≤ number_of index st scopes → exceeds (counted st t) ≡ true
  unfolding slot_of number_of
  over_staged st (begins e) h =
      rw e
      (passes (counted 1 t)
      (λ l. let a = l.scopes in let b = scopes_new t in let d = scopes_of_lem index last scopes in let k : 32 ≤ scopes = rw e at h in omega arith))
  over_staged st (has s e) h =
      rw e
      (passes (counted (stage s) t)
      (λ l.
      let a = count_in_limits s (counted (stage s) t) l in
      let b : count s (counted (stage s) t) ≡ count s t + 1 = count_turn s s t ∙ rw (eq-eqb (number s) (number s) refl) in
      let k : limit s ≤ count s t = rw (e, slot_sort s, number_sort s index last scopes) at h in
      omega arith))

  in_staged : (st : ℕ) → Staged st → number_of index st scopes < (slot_of st).limit → InLimits (counted st t)
  unfolding slot_of number_of
  in_staged st (begins e) h = rw e (limits_new t (let d = scopes_of_lem index last scopes in let k : scopes < 32 = rw e at h in omega arith))
  in_staged st (has s e) h = rw e (limits_turn s t c.within (rw (e, slot_sort s, number_sort s index last scopes) at h))

  pub counts_here : (st : ℕ) → st ≤ 5 → (2 ≤ st → 1 ≤ last) → Counts index st scopes
  counts_here st b o =
      let l = c.within.scopes in
      let e = scopes_of_lem index last scopes in
      record { size = c.size; stage = b; few = omega arith; opened = λ h. c.opened (o h) }

  module _ (st : ℕ) (known : 1 ≤ st) (below : st ≤ 5) where
    pub over_limit : (slot_of st).limit ≤ number_of index st scopes → exceeds (counted st t) ≡ true
    over_limit = over_staged st (staged st (λ e. absurd (omega arith)) below)

    pub in_limit : number_of index st scopes < (slot_of st).limit → exceeds (counted st t) ≡ false
    in_limit h = not_exceeds (counted st t) (in_staged st (staged st (λ e. absurd (omega arith)) below) h)

  -- each way through `step_over`
  module _ (k st n : ℕ) (body : List ℕ) (known : 1 ≤ st) (below : st ≤ 5) (f : Bool) (ef : f ≡ follows last st) where
    pub out_of_order_lem : f ≡ false → Err OutOfOrder ≡ step_over index last scopes k st n body
    unfolding step_over
    out_of_order_lem h = rw (← ef, h)

    module _ (ok : f ≡ true) where
      pub counts_after : Counts index st scopes
      counts_after = counts_here st below (λ h. (in_order_lem last st (sym ef ∙ ok) h).0)

      module _ (slot : Slot) (es : slot ≡ slot_of st) (m : ℕ) (em : m ≡ number_of index st scopes) where
        pub limit_exceeded_lem : slot.limit ≤ m → Err LimitExceeded ≡ step_over index last scopes k st n body
        unfolding step_over
        limit_exceeded_lem h = rw (← ef, ok, over_limit st known below (rw (← es, ← em) h))

        module _ (few : m < slot.limit) (i : Bool) (ei : i ≡ invalid k body) where
          pub invalid_byte_lem : i ≡ true → Err InvalidByte ≡ step_over index last scopes k st n body
          unfolding step_over
          invalid_byte_lem h = rw (← ef, ok, in_limit st known below (rw (← es, ← em) few), ← ei, h)

          pub no_fault_found : i ≡ false → Ok (passed st n) ≡ step_over index last scopes k st n body
          unfolding step_over
          no_fault_found h = rw (← ef, ok, in_limit st known below (rw (← es, ← em) few), ← ei, h)

-- After a record

module _ (index : List ℕ) (last scopes : ℕ) (c : Counting index last scopes) where
  -- a scope
  tally_new : tally_of index 1 (scopes + 1) ≡ counted 1 (tally_of index last scopes)
  unfolding tally_of counted
  tally_new =
      let e : scopes + 1 - 1 ≡ scopes = omega arith in
      rw (e, c.later scopes 0 (omega arith), c.later scopes 1 (omega arith), c.later scopes 2 (omega arith), c.later scopes 3 (omega arith))

  -- a record of a sort
  module _ (s : Sort) (at : ℕ) (opened : 1 ≤ scopes) (fits : count s (tally_of index last scopes) < limit s) where
    abbrev u : Tally
    u = tally_of index last scopes

    abbrev new : List ℕ
    new = with_record index (scopes - 1) s (count s u) at

    row : scopes - 1 < 32
    row = let l = c.within.scopes in let e = scopes_of_lem index last scopes in omega arith

    row_room : 128 + ((scopes - 1) * 418 + 418) ≤ length index
    row_room = omega (arith, c.size)

    at_turn : (s' : Sort) → index_at new (scopes - 1) (number s') ≡ count s' (counted (stage s) u)
    at_turn s' =
        let b = number_below s' in
        let a = base_above s in
        ⊎_elim
        (λ (q : eqb (number s') (number s) ≡ true).
        rw (same_sort s' s (eqb-true (number s') (number s) q)) (count_own index (scopes - 1) s (count s u) at row fits row_room ∙ sym (count_turn s s u ∙ rw (eq-eqb (number s) (number s) refl))))
        (λ (q : eqb (number s') (number s) ≡ false).
        stored_other index (scopes - 1) s (count s u) at row fits (scopes - 1) (number s') (λ _ h. eqb-false (number s') (number s) q h) (λ _ h. absurd (omega arith))
        ∙ sym (count_sort s' index last scopes)
        ∙ sym (count_turn s' s u ∙ rw q))
        (decide (eqb (number s') (number s)))

    later_turn : (i k : ℕ) → scopes ≤ i → index_at new i k ≡ 0
    later_turn i k h = stored_other index (scopes - 1) s (count s u) at row fits i k (λ e _. absurd (omega arith)) (λ e _. absurd (omega arith)) ∙ c.later i k h

  whole_turn : (s : Sort) → counted (stage s) (tally_of index last scopes)
      ≡ record { stage = stage s; scopes = scopes; variables = (counted (stage s) (tally_of index last scopes)).variables; subs = (counted (stage s) (tally_of index last scopes)).subs; nodes = (counted (stage s) (tally_of index last scopes)).nodes; clauses = (counted (stage s) (tally_of index last scopes)).clauses }
  unfolding counted tally_of
  whole_turn variable = refl
  whole_turn sub_scope = refl
  whole_turn node = refl
  whole_turn clause = refl

  tally_turn : (s : Sort) (at : ℕ) (opened : 1 ≤ scopes) (fits : count s (tally_of index last scopes) < limit s)
      → tally_of (new s at opened fits) (stage s) scopes ≡ counted (stage s) (tally_of index last scopes)
  unfolding tally_of
  tally_turn s at o f = rw (at_turn s at o f variable, at_turn s at o f sub_scope, at_turn s at o f node, at_turn s at o f clause) (sym (whole_turn s))

  module _ (at st : ℕ) (opened : 2 ≤ st → 1 ≤ scopes) (l : InLimits (counted st (tally_of index last scopes))) (room : 128 + scopes_with st scopes * 418 ≤ length index) where
    size_next : 128 + scopes_with st scopes * 418 ≤ length (stored index at st scopes)
    size_next = let e = stored_length index at st scopes in omega arith

    fits_here : (s : Sort) → st ≡ stage s → count s (tally_of index last scopes) < limit s
    fits_here s e = less_than_limit s (tally_of index last scopes) (rw e at l)

    opened_here : (s : Sort) → st ≡ stage s → 1 ≤ scopes
    opened_here s e = opened (let k = stage_two s in omega arith)

    next_staged : Staged st → tally_of (stored index at st scopes) st (scopes_with st scopes) ≡ counted st (tally_of index last scopes)
    unfolding stored scopes_with
    next_staged (begins e) = rw e tally_new
    next_staged (has s e) = rw (e, stored_sort s index at last scopes, scopes_kept s scopes) (tally_turn s at (opened_here s e) (fits_here s e))

    counting_staged : Staged st → Counting (stored index at st scopes) st (scopes_with st scopes)
    unfolding stored scopes_with
    counting_staged (begins e) =
        record {
          size = size_next;
          within = rw (next_staged (begins e)) l;
          opened = λ h. rw e (omega arith);
          later = rw e (λ i k h. c.later i k (omega arith));
        }
    counting_staged (has s e) =
        let o = opened_here s e in
        let f = fits_here s e in
        record {
          size = size_next;
          within = rw (next_staged (has s e)) l;
          opened = λ h. rw (e, scopes_kept s scopes) o;
          later = rw (e, stored_sort s index at last scopes, scopes_kept s scopes) (later_turn s at o f);
        }

    pub tally_next : 1 ≤ st → st ≤ 5 → tally_of (stored index at st scopes) st (scopes_with st scopes) ≡ counted st (tally_of index last scopes)
    tally_next known below = next_staged (staged st (λ e. absurd (omega arith)) below)

    pub counting_next : 1 ≤ st → st ≤ 5 → Counting (stored index at st scopes) st (scopes_with st scopes)
    counting_next known below = counting_staged (staged st (λ e. absurd (omega arith)) below)

-- nothing was read
module _ (index : List ℕ) (empty : (n : ℕ) → get_or index n 0 ≡ 0) (room : 128 ≤ length index) where
  pub tally_start : tally_of index 0 0 ≡ start
  unfolding tally_of
  tally_start =
      let z : (k : ℕ) → index_at index 0 k ≡ 0 = column_zero index empty 0 in
      rw (z 0, z 1, z 2, z 3)

  pub counting_start : Counting index 0 0
  counting_start =
      record {
        size = omega arith;
        within = start_in_limits (tally_of index 0 0) tally_start;
        opened = λ h. absurd (omega arith);
        later = λ i k h. column_zero index empty i k;
      }
