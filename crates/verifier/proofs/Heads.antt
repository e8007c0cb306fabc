-- A variable, and a sub-scope: what is refused, and what holds after them.
--     head_turn                                            what both have in common
--     variable_room, variable-turn                         kind 2
--     sub_room, sub-refused, sub-turn                      kind 3
--     sub_missing, sub-block-below, weight-room, sub_read  the same, as the code takes it
-- Assumes nothing.
use Prim.Native.Nat.{ℕ, suc, ◌+◌, ◌-◌, ◌*◌, ◌%◌, ◌<◌, ◌≤◌}
use mathlib.Core.Path.{◌≡◌, refl, sym, ap, ◌∙◌}
use mathlib.Core.Bool.{true, false, not, false≢true}
use mathlib.Core.List.{List, [], ◌∷◌, ◌++◌}
use mathlib.Core.Logic.{⊎_elim}
use native.Mathlib.Omega.{arith}
use lib.ListN.{length, get_or, take, drop, set, length-set}
use lib.Seq.{get_or-set_same, get_or-set_other, take-suc}
use lib.Dec.{ltb}
use borrow.Author.Tests.{lt-ltb, ltb-true, ltb-false, not-false}
use Rattle.std.specs.Prelude.{None, Some}
use Rattle.laws.proofs.Booleans.{decide}
use Rattle.book.specs.Scopes.{sum}
use Rattle.book.specs.Syntax.{variable_of}
use Rattle.book.specs.declared.Variable.{Variable}
use Rattle.machine.specs.Blocks.{Block, Parsed, stage_of, has_block}
use Rattle.machine.specs.Acceptance.{counted, weight_in, accepted}
use Rattle.directory.specs.Layout.{place_in, block_weight, block_in, type_in}
use Rattle.directory.specs.Tabled.{block_at}
use Rattle.verifier.specs.Pass.{count_of, faulty_at, variable_read, sub_scope_read, Quiet, earlier, ahead, Head, Noted, Busy, Reading, VariableRoom, block_of, SubRoom, SubRead}
use Rattle.verifier.specs.declared.Progress.{Progress}
use Rattle.verifier.proofs.Reading.{ahead_at, front_two, front_three, length_below}
use Rattle.verifier.proofs.Blocks.{refused, block_fits, formed}
use Rattle.verifier.proofs.Ring.{quiet_next, marks_quiet}
use Rattle.verifier.proofs.Turns.{More, drop_more, next_at, is_clean, next_inside, sound_next, was_open}
use Rattle.book.specs.declared.ValueType.TheVariants.{YesNo}
use native.Mathlib.Nat.{eq-or-lt_of_le}
use native.Mathlib.Numerals.{add-one}
use Rattle.book.proofs.Searches.{any_false}
use Rattle.verifier.proofs.Entries.{closed_same, row_room, sized_same}

-- sums
sum_more : (f : ℕ → ℕ) (xs : List ℕ) (x : ℕ) → sum f (xs ++ (x ∷ [])) ≡ sum f xs + f x
unfolding sum
sum_more f [] x = omega arith
sum_more f (y ∷ xs) x = let h = sum_more f xs x in omega arith

-- A record of the present block's head

module _ (code : List ℕ) (at : ℕ) (u : Progress) (directory ring : List ℕ)
    (r : Reading code at u directory ring) (here : at < length code) (fine : faulty_at code at u ≡ false) where
  abbrev next : ℕ
  next = next_at code at

  abbrev b : Block
  b = block_at code u.blocks

  abbrev first : ℕ
  first = get_or (drop (at + 1) code) 0 0

  module _ (low : 2 ≤ stage_of (get_or code at 0)) (high : stage_of (get_or code at 0) ≤ 3) where
    early : (1 ≤ u.stage) × (u.stage < 4)
    early = let o = was_open code at u directory ring r here fine low in (o.0, omega arith)

    busy : Busy code at u directory ring
    busy = r.busy early.0

    quiet : Quiet ring next
    quiet = let n = length_below (get_or code at 0) in quiet_next ring at next (omega arith) (omega arith) (busy.quiet early.1)

    body_left : (ahead code at).opened.body ≡ (ahead code next).opened.body → (ahead code next).opened.body ≡ b.body
    body_left e =
        let s = (busy.still early.1).1 in
        let z : at - u.begin ≡ 0 = omega arith in
        sym e ∙ rw z at busy.head.body

    -- s, vs, ss, w: the stage, the variables, the sub-scopes and the weight after it; it notes x at i
    abbrev after : ℕ → ℕ → ℕ → ℕ → Progress
    after s vs ss w = record {
      stage = s;
      variables = vs;
      subs = ss;
      blocks = u.blocks;
      scope = u.scope;
      begin = next;
      weight = w;
      reach = u.reach;
    }

    head_turn : (s vs ss w i x : ℕ) → 1 ≤ s → s ≤ 3 → vs ≤ 32 → ss ≤ 8 → counted (stage_of (get_or code at 0)) (count_of u) ≡ count_of (after s vs ss w)
        → u.blocks * 45 + 32 ≤ i → (ahead code at).opened.body ≡ (ahead code next).opened.body → Head code next (after s vs ss w)
        → Noted code (after s vs ss w) (set directory i x)
        → Reading code next (after s vs ss w) (set directory i x) ring
    head_turn s vs ss w i x s1 s3 hv hs count above same head noted =
        let z = (busy.still early.1).0 in
        record {
          sized = sized_same code directory (set directory i x) ring ring (length-set directory i x) refl r.sized;
          limited = record { stage = omega arith; variables = hv; subs = hs };
          inside = next_inside code at u directory ring r here fine;
          sound = rw count at (sound_next code at u directory ring r here fine);
          closed =
              closed_same code u.blocks directory (set directory i x) r.closed
              (λ j l. get_or-set_other directory i j x 0 (λ q. omega arith));
          idle = λ q. absurd (omega arith);
          busy =
              λ _. record {
                head = head;
                noted = noted;
                marks = marks_quiet (earlier code u.blocks) b (ahead code next).opened.body next u.reach ring quiet z (body_left same);
                quiet = λ _. quiet;
                still = λ _. (z, refl);
              };
        }

  -- kind 2
  module _ (two : stage_of (get_or code at 0) ≡ 2) where
    low2 : 2 ≤ stage_of (get_or code at 0)
    low2 = rw two (omega arith)

    high2 : stage_of (get_or code at 0) ≤ 3
    high2 = rw two (omega arith)

    busy2 : Busy code at u directory ring
    busy2 = busy low2 high2

    front2 : ahead code at
        ≡ record {
          opened = record {
            scope = 0;
            variables = variable_of (drop (at + 1) code) ∷ (ahead code next).opened.variables;
            sub_scopes
                = (ahead code next).opened.sub_scopes;
            body = (ahead code next).opened.body;
          };
          blocks = (ahead code next).blocks;
        }
    front2 = ahead_at code at here ∙ front_two (get_or code at 0) (drop (at + 1) code) (ahead code next) two

    same2 : (ahead code at).opened.body ≡ (ahead code next).opened.body
    same2 = ap (λ (p : Parsed). p.opened.body) front2

    more2 : More b.variables u.variables (variable_of (drop (at + 1) code)) (ahead code next).opened.variables (record { holds = YesNo })
    more2 =
        drop_more b.variables u.variables (variable_of (drop (at + 1) code)) (ahead code next).opened.variables (record { holds = YesNo })
        (busy2.head.variables_left ∙ ap (λ (p : Parsed). p.opened.variables) front2)

    few2 : u.variables < 32
    unfolding counted
    few2 = let z = rw two at (is_clean code at u directory ring r here fine).variables in omega arith

    pub variable_room : VariableRoom u directory
    variable_room =
        record { blocks = busy2.head.room; variables = few2; row = row_room code at u directory ring r.sized r.closed busy2.head }

    row2 : u.blocks * 45 + 77 ≤ length directory
    row2 = row_room code at u directory ring r.sized r.closed busy2.head

    other2 : (i : ℕ) → i < u.blocks * 45 + 45 + u.variables → get_or (set directory (u.blocks * 45 + 45 + u.variables) first) i 0 ≡ get_or directory i 0
    other2 i h = get_or-set_other directory (u.blocks * 45 + 45 + u.variables) i first 0 (λ z. omega arith)

    noted2 : first < 256 → Noted code (variable_read u next) (set directory (u.blocks * 45 + 45 + u.variables) first)
    unfolding type_in block_in
    noted2 byte =
        record {
          types =
              λ v h.
              ⊎_elim
              (λ (q : v ≡ u.variables).
              let e : first % 256 ≡ first = omega arith in
              rw (
                q,
                get_or-set_same directory (u.blocks * 45 + 45 + u.variables) first 0 (let x = few2 in let y = row2 in omega arith),
                e,
              ) (sym (ap (λ (x : Variable). x.holds) more2.here)))
              (λ (q : v < u.variables). rw (other2 (u.blocks * 45 + 45 + v) (omega arith)) (busy2.noted.types v q))
              (eq-or-lt_of_le {n = v} {m = u.variables} (omega arith));
          earlier = λ k h. rw (other2 (u.blocks * 45 + 37 + k) (let x = r.limited.subs in omega arith)) (busy2.noted.earlier k h);
          subs = λ k h. rw (other2 (u.blocks * 45 + 37 + k) (let x = r.limited.subs in omega arith)) (busy2.noted.subs k h);
        }

    head2 : Head code next (variable_read u next)
    head2 =
        let h = busy2.head in
        record {
          present = h.present;
          room = h.room;
          later = h.later ∙ ap (λ (p : Parsed). p.blocks) front2;
          variables_read = let z = more2.inside in omega arith;
          variables_left = more2.later;
          subs_read = h.subs_read;
          subs_left = h.subs_left ∙ ap (λ (p : Parsed). p.opened.sub_scopes) front2;
          scope = h.scope;
          scope_small = h.scope_small;
          fresh = h.fresh;
          begun = omega arith;
          body = let z : next - next ≡ 0 = omega arith in rw z (body_left low2 high2 same2);
          known = h.known;
          weight = h.weight;
          weight_few = h.weight_few;
        }

    pub variable_turn : first < 256 → Reading code next (variable_read u next) (set directory (u.blocks * 45 + 45 + u.variables) first) ring
    unfolding counted
    variable_turn byte =
        let f = few2 in
        head_turn low2 high2 2 (u.variables + 1) u.subs u.weight (u.blocks * 45 + 45 + u.variables) first (omega arith) (omega arith)
        (omega arith) r.limited.subs (rw two) (omega arith) same2 head2 (noted2 byte)

  -- kind 3
  module _ (three : stage_of (get_or code at 0) ≡ 3) where
    low3 : 2 ≤ stage_of (get_or code at 0)
    low3 = rw three (omega arith)

    high3 : stage_of (get_or code at 0) ≤ 3
    high3 = rw three (omega arith)

    busy3 : Busy code at u directory ring
    busy3 = busy low3 high3

    front3 : ahead code at
        ≡ record {
          opened = record {
            scope = 0;
            variables = (ahead code next).opened.variables;
            sub_scopes = first ∷ (ahead code next).opened.sub_scopes;
            body = (ahead code next).opened.body;
          };
          blocks = (ahead code next).blocks;
        }
    front3 = ahead_at code at here ∙ front_three (get_or code at 0) (drop (at + 1) code) (ahead code next) three

    same3 : (ahead code at).opened.body ≡ (ahead code next).opened.body
    same3 = ap (λ (p : Parsed). p.opened.body) front3

    more3 : More b.sub_scopes u.subs first (ahead code next).opened.sub_scopes 0
    more3 =
        drop_more b.sub_scopes u.subs first (ahead code next).opened.sub_scopes 0
        (busy3.head.subs_left ∙ ap (λ (p : Parsed). p.opened.sub_scopes) front3)

    few3 : u.subs < 8
    unfolding counted
    few3 = let z = rw three at (is_clean code at u directory ring r here fine).sub_scopes in omega arith

    -- the block of a scope that has one, and the number of a scope's place
    abbrev block : ℕ
    block = block_of directory first

    place_bound : place_in directory first ≤ u.blocks
    place_bound =
        ⊎_elim
        (λ (q : ltb 0 (place_in directory first) ≡ true). (r.closed.present first (ltb-true 0 (place_in directory first) q)).0)
        (λ (q : ltb 0 (place_in directory first) ≡ false). let z = ltb-false 0 (place_in directory first) q in omega arith)
        (decide (ltb 0 (place_in directory first)))

    light3 : 0 < place_in directory first → block_weight directory block ≤ 4096
    light3 h = let b = place_bound in r.closed.light block (omega arith)

    pub sub_room : SubRoom first u directory
    sub_room =
        record {
          blocks = busy3.head.room;
          subs = few3;
          row = row_room code at u directory ring r.sized r.closed busy3.head;
          place = let b = place_bound in let y = busy3.head.room in omega arith;
          weight = λ h. let x = few3 in let y = busy3.head.weight_few in let z = light3 h in omega arith;
        }

    -- no block of that scope stands before
    pub sub_refused : place_in directory first ≡ 0 → accepted code ≡ false
    sub_refused q =
        refused code
        (λ a.
        let f = formed (earlier code u.blocks) b (block_fits code u.blocks busy3.head.present a) in
        let n = any_false (λ i. not (has_block (earlier code u.blocks) i)) b.sub_scopes f.known u.subs more3.inside 0 in
        let h : has_block (earlier code u.blocks) first ≡ true = not-false (has_block (earlier code u.blocks) first) (rw more3.here at n) in
        false≢true (sym (r.closed.known first ∙ rw q) ∙ h))

    module _ (there : place_in directory first ≡ 0 → ⊥) where
      row3 : u.blocks * 45 + 77 ≤ length directory
      row3 = row_room code at u directory ring r.sized r.closed busy3.head

      earlier3 : block < u.blocks
      earlier3 = let b = place_bound in omega arith

      scope3 : (block_at code block).scope ≡ first
      scope3 = (r.closed.present first (omega arith)).1

      other3 : (i : ℕ) → (i ≡ u.blocks * 45 + 37 + u.subs → ⊥)
          → get_or (set directory (u.blocks * 45 + 37 + u.subs) block) i 0 ≡ get_or directory i 0
      other3 i ne = get_or-set_other directory (u.blocks * 45 + 37 + u.subs) i block 0 ne

      here3 : get_or (set directory (u.blocks * 45 + 37 + u.subs) block) (u.blocks * 45 + 37 + u.subs) 0 ≡ block
      here3 = get_or-set_same directory (u.blocks * 45 + 37 + u.subs) block 0 (let x = few3 in let y = row3 in omega arith)

      noted3 : Noted code (sub_scope_read u (block_weight directory block) next) (set directory (u.blocks * 45 + 37 + u.subs) block)
      unfolding type_in block_in
      noted3 =
          record {
            types = λ v h. rw (other3 (u.blocks * 45 + 45 + v) (λ z. let x = few3 in omega arith)) (busy3.noted.types v h);
            earlier =
                λ k h.
                ⊎_elim
                (λ (q : k ≡ u.subs). rw (q, here3) earlier3)
                (λ (q : k < u.subs). rw (other3 (u.blocks * 45 + 37 + k) (λ z. omega arith)) (busy3.noted.earlier k q))
                (eq-or-lt_of_le {n = k} {m = u.subs} (omega arith));
            subs =
                λ k h.
                ⊎_elim
                (λ (q : k ≡ u.subs). rw (q, here3) (scope3 ∙ sym more3.here))
                (λ (q : k < u.subs). rw (other3 (u.blocks * 45 + 37 + k) (λ z. omega arith)) (busy3.noted.subs k q))
                (eq-or-lt_of_le {n = k} {m = u.subs} (omega arith));
          }

      known3 : (k : ℕ) → k < u.subs + 1 → has_block (earlier code u.blocks) (get_or b.sub_scopes k 0) ≡ true
      known3 k h =
          ⊎_elim
          (λ (q : k ≡ u.subs). rw (q, more3.here) (r.closed.known first ∙ lt-ltb 0 (place_in directory first) (omega arith)))
          (λ (q : k < u.subs). busy3.head.known k q)
          (eq-or-lt_of_le {n = k} {m = u.subs} (omega arith))

      weighed3 : weight_in (earlier code u.blocks) first ≡ block_weight directory block
      weighed3 = ap (weight_in (earlier code u.blocks)) (sym scope3) ∙ r.closed.weighed block earlier3

      weight3 : u.weight + block_weight directory block ≡ suc (sum (weight_in (earlier code u.blocks)) (take (u.subs + 1) b.sub_scopes))
      weight3 =
          let s = sum_more (weight_in (earlier code u.blocks)) (take u.subs b.sub_scopes) first in
          let t : take (u.subs + 1) b.sub_scopes ≡ take u.subs b.sub_scopes ++ (first ∷ []) =
          ap (λ (n : ℕ). take n b.sub_scopes) (add-one u.subs) ∙ take-suc b.sub_scopes u.subs 0 more3.inside
          ∙ ap (λ (x : ℕ). take u.subs b.sub_scopes ++ (x ∷ [])) more3.here in
          let w = busy3.head.weight in
          let x = weighed3 in
          rw t (omega arith)

      head3 : Head code next (sub_scope_read u (block_weight directory block) next)
      head3 =
          let h = busy3.head in
          record {
            present = h.present;
            room = h.room;
            later = h.later ∙ ap (λ (p : Parsed). p.blocks) front3;
            variables_read = h.variables_read;
            variables_left = h.variables_left ∙ ap (λ (p : Parsed). p.opened.variables) front3;
            subs_read = let z = more3.inside in omega arith;
            subs_left = more3.later;
            scope = h.scope;
            scope_small = h.scope_small;
            fresh = h.fresh;
            begun = omega arith;
            body = let z : next - next ≡ 0 = omega arith in rw z (body_left low3 high3 same3);
            known = known3;
            weight = weight3;
            weight_few = let y = h.weight_few in let z = light3 (omega arith) in omega arith;
          }

      pub sub_turn : Reading code next (sub_scope_read u (block_weight directory (block_of directory first)) next)
          (set directory (u.blocks * 45 + 37 + u.subs) (block_of directory first)) ring
      unfolding counted
      sub_turn =
          let f = few3 in
          head_turn low3 high3 3 u.variables (u.subs + 1) (u.weight + block_weight directory block) (u.blocks * 45 + 37 + u.subs) block
          (omega arith) (omega arith) r.limited.variables (omega arith) (rw three) (omega arith) same3 head3 noted3

-- What the code reads

pub sub_missing : (scope next : ℕ) (u : Progress) (directory : List ℕ) → (0 < place_in directory scope → ⊥) → SubRead scope next u directory directory None
sub_missing scope next u directory h = record { missing = λ _. refl; read = λ n. absurd (n (omega (arith, h))) }

module _ (scope next : ℕ) (u : Progress) (directory : List ℕ) (p : ℕ) (there : (0 < place_in directory scope) × (p ≡ block_of directory scope)) where
  -- the block is one of 32
  pub sub_block_below : SubRoom scope u directory → p < 32
  sub_block_below room = let z = room.place in omega arith

  module _ (w : ℕ) (ew : w ≡ block_weight directory p) where
    weight_is : w ≡ block_weight directory (block_of directory scope)
    weight_is = ew ∙ ap (block_weight directory) there.1

    pub weight_room_lem : SubRoom scope u directory → u.weight + w ≤ 40000
    weight_room_lem room = rw weight_is (room.weight there.0)

    pub sub_read : SubRead scope next u directory (set directory (u.blocks * 45 + 37 + u.subs) p) (Some (next, sub_scope_read u w next))
    sub_read =
        record {
          missing = λ z. absurd (omega arith);
          read =
              λ _. (
                ap (λ (y : ℕ). Some (next, sub_scope_read u y next)) weight_is,
                ap (set directory (u.blocks * 45 + 37 + u.subs)) there.1,
              );
        }
