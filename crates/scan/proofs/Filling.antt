-- The pass over the records: what holds before each of them.
--     going_start, going-turn, going_end    at the start, after a turn, at the end
--     room_here                             there is a place for the record
--     next_inside                           the next one lies behind it, or the book's end
-- Assumes nothing.
use Prim.Native.Nat.{ℕ, suc, ◌+◌, ◌-◌, ◌*◌, ◌≤◌, ◌<◌}
use mathlib.Core.Path.{◌≡◌, refl, sym, ◌∙◌}
use mathlib.Core.List.{List, []}
use native.Mathlib.Omega.{arith}
use lib.ListN.{length, get_or, drop, drop_of_length-le}
use borrow.Author.Tests.{eqb-false, not-false}
use Rattle.std.specs.Prelude.{None, Err, Ok}
use Rattle.record.specs.Kinds.{shape_in}
use Rattle.record.specs.declared.Medium.TheVariants.{Book}
use Rattle.book.specs.declared.Tally.{Tally}
use Rattle.answers.specs.declared.Fault.{Fault}
use Rattle.book.specs.Records.{Met, stage_of, counted, start, follows, records_from, records, unknown_kind}
use Rattle.book.specs.Decode.{Parsed, in_front, parse, scopes_of}
use Rattle.book.specs.References.{scope_at}
use Rattle.book.specs.Judge.{scan}
use Rattle.index.specs.Index.{index_at, Placed}
use Rattle.book.specs.Limits.{InLimits, Within}
use Rattle.scan.specs.Counting.{slot_of, number_of, scopes_with, tally_of, Counting}
use Rattle.scan.specs.Step.{passed, end_at, met_at, step_at}
use Rattle.scan.specs.Filling.{scope_bytes, stored, Room, Blank, Filled, Recorded}
use Rattle.scan.proofs.Steps as steps
use Rattle.scan.proofs.Steps.{Read, read, records_at, ends_at, scan_next, scan_stop, scan_end}
use Rattle.book.proofs.Sorts.{Sort, variable, sub_scope, node, clause, number, stage, base, limit, count, items_of, from, long, Staged, begins, has, staged, base_below, limit_below, stage_two, scopes_new, scopes_turn, begun, scopes_behind}
use Rattle.book.proofs.Shapes.{stage_below}
use Rattle.scan.proofs.Positions.{item_here}
use Rattle.book.proofs.Shapes.{either, in_order_lem}
use Rattle.book.proofs.Limits.{within, items_within}
use Rattle.scan.proofs.Tallies.{slot_sort, number_sort, stored_sort, scopes_of_lem, less_than_limit, scopes_kept, stored_length, counts_here, tally_next, counting_next, tally_start, counting_start}
use Rattle.scan.proofs.Beginnings.{begun_turn}
use Rattle.scan.proofs.Laying.{Parts, parts_start, parts_new, parts_turn, count_end, placed_end}

-- the records from a position on
abbrev pub ahead : List ℕ → ℕ → Tally → Parsed
ahead bytes at t = parse (records_from (drop at bytes) 0 t)

-- the tables have the records before a position
pub record Filling (bytes index : List ℕ) (t : Tally) (at : ℕ) : Type 0 where
  pub few : (s : Sort) (i : ℕ) → length (items_of s (scope_at (scopes_of bytes) i)) ≤ limit s
  pub parts : Parts bytes (scopes_of bytes) index t (ahead bytes at t)
  pub total : length (scopes_of bytes) ≡ t.scopes + length (ahead bytes at t).scopes

-- before a record; the tables count only where all records are sound. The index has room for a row of each scope that may still begin
pub record Going (bytes : List ℕ) (room : ℕ) (index : List ℕ) (last scopes at : ℕ) : Type 0 where
  pub inside : at ≤ length bytes
  pub size : length index ≡ room
  pub rows : (n : ℕ) → n ≤ 32 → n ≤ scope_bytes bytes → 128 + n * 418 ≤ room
  pub begun : scopes + scope_bytes (drop at bytes) ≤ scope_bytes bytes
  pub counting : Counting index last scopes
  pub same : scan (records_from (drop at bytes) 0 (tally_of index last scopes)) ≡ scan (records bytes)
  pub filling : scan (records bytes) ≡ None → Filling bytes index (tally_of index last scopes) at

pub going_start : (bytes index : List ℕ) → Blank bytes index → Going bytes (length index) index 0 0 0
unfolding records scopes_of
going_start bytes index b =
    let room : 128 ≤ length index = omega (arith, b.unfilled.rows 0 (omega arith) (omega arith)) in
    let e = tally_start index b.unfilled.empty room in
    record {
      inside = omega arith;
      size = refl;
      rows = b.unfilled.rows;
      begun = omega arith;
      counting = counting_start index b.unfilled.empty room;
      same = rw e;
      filling = λ sound. rw e
          (record {
            few = items_within bytes sound;
            parts = parts_start bytes (scopes_of bytes) index (parse (records_from bytes 0 start)) refl b.unfilled.empty;
            total = omega arith;
          });
    }

fill_end : (bytes index : List ℕ) (t : Tally) (at : ℕ) → length bytes ≤ at → 128 + t.scopes * 418 ≤ length index → Within (scopes_of bytes) → Filling bytes index t at → Filled bytes index t.scopes
unfolding records_from parse
fill_end bytes index t at h l w f =
    let q : records_from (drop at bytes) 0 t ≡ [] = rw (drop_of_length-le bytes h) in
    let total : length (scopes_of bytes) ≡ t.scopes + 0 = rw q at f.total in
    let parts : Parts bytes (scopes_of bytes) index t (parse []) = rw q at f.parts in
    let n : (s : Sort) (i : ℕ) → index_at index i (number s) ≡ length (items_of s (scope_at (scopes_of bytes) i)) = λ s i. count_end bytes (scopes_of bytes) index t s i (parts s i) in
    let x : (s : Sort) (i : ℕ) → Placed (from s) (long s) bytes index i (base s) (items_of s (scope_at (scopes_of bytes) i)) = λ s i k d lk.
    let b = base_below s in
    let few = f.few s i in
    (omega arith, placed_end bytes (scopes_of bytes) index t s i (parts s i) k d lk) in
    record {
      laid =
          record {
            rows = omega arith;
            within = w;
            variable_count = n variable;
            sub_scope_count = n sub_scope;
            node_count = n node;
            clause_count = n clause;
            variables = x variable;
            sub_scopes = x sub_scope;
            nodes = x node;
            clauses = x clause;
          };
      scopes = omega arith;
    }

pub going_end : (bytes : List ℕ) (room : ℕ) (index : List ℕ) (last scopes at : ℕ) → length bytes ≤ at → Going bytes room index last scopes at
    → Recorded bytes index (Ok scopes)
going_end bytes room index last scopes at h g =
    let sound = scan_end bytes at (tally_of index last scopes) h ∙ g.same in
    record {
      answer = sound;
      laid = λ n e.
          let q : scopes ≡ n = cc e in
          rw (← q) (rw (scopes_of_lem index last scopes) at (fill_end bytes index (tally_of index last scopes) at h (rw (scopes_of_lem index last scopes) g.counting.size) (within bytes (sym sound)) (g.filling (sym sound))));
    }

pub going_stop : (bytes : List ℕ) (room : ℕ) (index : List ℕ) (last scopes at : ℕ) → Going bytes room index last scopes at → at < length bytes → (f : Fault)
    → Err f ≡ step_at bytes at (tally_of index last scopes) → Recorded bytes index (Err f)
going_stop bytes room index last scopes at g here f e =
    record {
      answer = scan_stop bytes at (tally_of index last scopes) f here e ∙ g.same;
      laid = λ n q. let z : ◌≡◌ {A = ℕ} 0 1 = cc in absurd (omega arith);
    }

module _ (bytes : List ℕ) (room : ℕ) (index : List ℕ) (last scopes at : ℕ) (g : Going bytes room index last scopes at) (here : at < length bytes)
    (st next : ℕ) (e : Ok (passed st next) ≡ step_at bytes at (tally_of index last scopes)) where
  abbrev t : Tally
  t = tally_of index last scopes

  abbrev m : Met
  m = met_at bytes at t

  -- its body's length
  abbrev n : ℕ
  n = (shape_in Book (get_or bytes at 0)).length

  was_read : Read m st n
  unfolding step_at met_at
  was_read = (read m (end_at bytes at n) st next e).0

  next_is_lem : next ≡ at + 1 + n
  unfolding step_at
  next_is_lem = (read m (end_at bytes at n) st next e).1 ∙ ends_at bytes at t st n here was_read

  pub next_inside : (at < next) × (next ≤ length bytes)
  next_inside = let i = steps.room bytes at t st n here was_read in let q = next_is_lem in (omega arith, omega arith)

  within_next : InLimits (counted st t)
  within_next = steps.within bytes at t st n here was_read

  below_five : st ≤ 5
  unfolding met_at
  below_five = rw was_read.stage (stage_below (get_or bytes at 0))

  from_one : 1 ≤ st
  from_one = let k = eqb-false (stage_of m) 0 was_read.clean.known in let q = was_read.stage in omega arith

  staged_here : Staged st
  staged_here = let k = from_one in staged st (λ h. absurd (omega arith)) below_five

  stage_before : 2 ≤ st → 1 ≤ last
  unfolding met_at tally_of
  stage_before h =
      (in_order_lem last st
      (rw was_read.stage
      (either (unknown_kind m) (follows last (stage_of m)) (not-false _ was_read.clean.ordered) was_read.clean.known))
      h).0

  scope_before : 2 ≤ st → 1 ≤ scopes
  scope_before h = g.counting.opened (stage_before h)

  few_here : Staged st → 2 ≤ st → ((slot_of st).base + number_of index st scopes < 422) × (number_of index st scopes < 255)
  few_here (begins q) h = absurd (omega arith)
  few_here (has s q) h =
      let l : count s t < limit s = less_than_limit s t (rw q at within_next) in
      let b = base_below s in
      let d = limit_below s in
      rw (q, slot_sort s, number_sort s index last scopes) (omega arith, omega arith)

  pub room_here : length bytes ≤ 65536 → Room index at st scopes
  room_here short =
      record {
        counted = counts_here index last scopes g.counting st below_five stage_before;
        position = omega arith;
        place = λ h. (few_here staged_here h).0;
        number = λ h. (few_here staged_here h).1;
      }

  ahead_next : ahead bytes at t ≡ in_front m (ahead bytes (at + 1 + n) (counted st t))
  unfolding parse
  ahead_next = rw (records_at bytes at t st n here was_read)

  module _ (f : Filling bytes index t at) where
    -- the record begins a scope
    turn_new : st ≡ 1 → Filling bytes index (counted 1 t) (at + 1 + n)
    turn_new e1 =
        let p = ahead bytes (at + 1 + n) (counted 1 t) in
        let es = sym was_read.stage ∙ e1 in
        let q : ahead bytes at t ≡ in_front m p = rw e1 at ahead_next in
        let sc = scopes_new t in
        let total : length (scopes_of bytes) ≡ t.scopes + length (in_front m p).scopes = rw q at f.total in
        let longer : length (in_front m p).scopes ≡ suc (length p.scopes) = rw (begun m p es) in
        record {
          few = f.few;
          parts = parts_new bytes (scopes_of bytes) index t m p es (rw q at f.parts);
          total = omega arith;
        }

    -- the record is of a sort
    turn_sort : (s : Sort) → st ≡ stage s
        → Filling bytes (stored index at (stage s) scopes) (counted (stage s) t) (at + 1 + n)
    turn_sort s e1 =
        let p = ahead bytes (at + 1 + n) (counted (stage s) t) in
        let es = sym was_read.stage ∙ e1 in
        let q : ahead bytes at t ≡ in_front m p = rw e1 at ahead_next in
        let sc = scopes_turn s t in
        let sn = scopes_of_lem index last scopes in
        let l = g.counting.within.scopes in
        let k = stage_two s in
        let o = scope_before (omega arith) in
        let total : length (scopes_of bytes) ≡ t.scopes + length (in_front m p).scopes = rw q at f.total in
        let same : length (in_front m p).scopes ≡ length p.scopes = rw (scopes_behind s m p es) in
        let w : InLimits (counted (stage s) t) = rw e1 at within_next in
        rw (stored_sort s index at last scopes)
        (record {
          few = f.few;
          parts =
              parts_turn bytes (scopes_of bytes) index at t m p s es
              (item_here bytes at t here was_read.clean s es)
              (scopes - 1) (omega arith) (omega arith) (less_than_limit s t w) (omega (arith, g.counting.size)) f.few (rw q at f.parts);
          total = omega arith;
        })

    turn_staged : Staged st → Filling bytes (stored index at st scopes) (counted st t) (at + 1 + n)
    unfolding stored
    turn_staged (begins q) = rw q (turn_new q)
    turn_staged (has s q) = rw q (turn_sort s q)

  begun_next : scopes_with st scopes + scope_bytes (drop (at + 1 + n) bytes) ≤ scope_bytes bytes
  unfolding met_at
  begun_next = let b = begun_turn bytes at scopes st n here was_read.stage in omega (arith, g.begun)

  few_next : Staged st → scopes_with st scopes ≤ 32
  unfolding scopes_with
  few_next (begins q) =
      let l : (counted 1 t).scopes ≤ 32 = (rw q at within_next).scopes in
      let sc = scopes_new t in
      let sn = scopes_of_lem index last scopes in
      rw q (omega arith)
  few_next (has s q) = let sn = scopes_of_lem index last scopes in rw (q, scopes_kept s scopes) (omega (arith, g.counting.within.scopes))

  row_next : 128 + scopes_with st scopes * 418 ≤ length index
  row_next = rw g.size (g.rows (scopes_with st scopes) (few_next staged_here) (omega (arith, begun_next)))

  pub going_turn : (index' : List ℕ) → index' ≡ stored index at st scopes → (scopes' : ℕ) → scopes' ≡ scopes_with st scopes → Going bytes room index' st scopes' next
  going_turn index' e' scopes' es =
      let q = tally_next index last scopes g.counting at st scope_before within_next row_next from_one below_five in
      rw (e', es, next_is_lem)
      (record {
        inside = steps.room bytes at t st n here was_read;
        size = stored_length index at st scopes ∙ g.size;
        rows = g.rows;
        begun = begun_next;
        counting = counting_next index last scopes g.counting at st scope_before within_next row_next from_one below_five;
        same = rw q (scan_next bytes at t st n here was_read next e ∙ g.same);
        filling = λ sound. rw q (turn_staged (g.filling sound) staged_here);
      })
