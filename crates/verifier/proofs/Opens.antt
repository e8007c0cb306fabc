-- The start of the pass, the beginning of a block, and the end of the pass.
--     scope_refused, repeat-refused, open_turn, open-stepped    a block begins
--     begin_leaves, begin-stepped, left-refused, left-closed    the same, as the code takes it
--     makes_empty, start-reading, empty-start                   the start
--     stepped_refused, stepped-next                             the loop
--     end_leaves, end-judged                                    the end
-- Assumes nothing.
use Prim.Native.Nat.{ℕ, zero, suc, ◌+◌, ◌-◌, ◌%◌, ◌<◌, ◌≤◌}
use mathlib.Core.Path.{◌≡◌, refl, sym, ap, ◌∙◌}
use mathlib.Core.Bool.{true, false, not, false≢true}
use mathlib.Core.List.{List, ◌∷◌}
use mathlib.Core.Logic.{⊎_elim}
use native.Mathlib.Omega.{arith}
use lib.ListN.{length, get_or, drop, replicate, length-replicate, drop_of_length-le}
use lib.Dec.{eqb, ltb}
use borrow.Author.Tests.{lt-ltb, ltb-true, ltb-false, eqb-true, eqb-false, ne_eqb}
use Rattle.std.specs.Prelude.{Option, ℕ, Some, None, SomeIff, is_some}
use Rattle.laws.proofs.Booleans.{decide}
use Rattle.book.specs.Lists.{any}
use Rattle.book.specs.Scopes.{sum}
use Rattle.machine.specs.Blocks.{Block, Parsed, empty_block, stage_of, parse, has_block}
use Rattle.machine.specs.Acceptance.{start, counted, sound, all_well_formed, accepted}
use Rattle.directory.specs.Layout.{place_in}
use Rattle.directory.specs.Tabled.{block_at, Tabled, block_count, Room}
use Rattle.verifier.specs.Pass.{count_of, faulty_at, block_read, mark, Quiet, earlier, ahead, Reading, nothing_read, filled, Leaving, AllClosed, Beginning, opening, Empty, Step, Stepped, Left, Judged}
use Rattle.verifier.specs.declared.Progress.{Progress}
use Rattle.verifier.proofs.Reading.{ahead_at, front_one, ahead_end, length_below}
use Rattle.verifier.proofs.Blocks.{refused, block_fits, Formed, formed, all_accepted}
use Rattle.verifier.proofs.Ring.{quiet_next, marks_quiet}
use Rattle.verifier.proofs.Turns.{More, drop_more, drop_end, next_at, next_inside, sound_next}
use Rattle.verifier.proofs.Entries.{filled_room, filled_bound}
use Rattle.laws.proofs.Zeros.{zeros}
use native.Mathlib.Numerals.{add-one}

-- at a record of kind 1 the present block ends
pub begin_leaves : (code : List ℕ) (at next scope : ℕ) (u : Progress) (directory ring : List ℕ)
    → Beginning code at next scope u directory ring → Leaving code at u directory ring
begin_leaves code at next scope u directory ring g =
    record {
      reading = g.reading;
      ended = ap (λ (p : Parsed). p.opened) (ahead_at code at g.here
          ∙ front_one (get_or code at 0) (drop (at + 1) code) (ahead code (next_at code at)) g.stage);
    }

-- a block begins
module _ (code : List ℕ) (at : ℕ) (u : Progress) (directory₀ ring₀ : List ℕ)
    (r : Reading code at u directory₀ ring₀) (here : at < length code) (fine : faulty_at code at u ≡ false)
    (one : stage_of (get_or code at 0) ≡ 1)
    (m : ℕ) (directory ring : List ℕ) (c : AllClosed code at m directory ring) where
  abbrev next : ℕ
  next = next_at code at

  abbrev s : ℕ
  s = get_or (drop (at + 1) code) 0 0

  new : Block
  new = record {
    scope = s;
    variables = (ahead code next).opened.variables;
    sub_scopes = (ahead code next).opened.sub_scopes;
    body = (ahead code next).opened.body;
  }

  front : ahead code at ≡ record { opened = empty_block; blocks = new ∷ (ahead code next).blocks }
  unfolding new
  front = ahead_at code at here ∙ front_one (get_or code at 0) (drop (at + 1) code) (ahead code next) one

  more : More (parse code 0).blocks m new (ahead code next).blocks empty_block
  more =
      drop_more (parse code 0).blocks m new (ahead code next).blocks empty_block
      (c.idle.later ∙ ap (λ (p : Parsed). p.blocks) front)

  block_is : block_at code m ≡ new
  unfolding block_at
  block_is = more.here

  scope_is_lem : (block_at code m).scope ≡ s
  unfolding new
  scope_is_lem = ap (λ (x : Block). x.scope) block_is

  formed_here : accepted code ≡ true → Formed (earlier code m) (block_at code m)
  formed_here a = formed (earlier code m) (block_at code m) (block_fits code m more.inside a)

  pub scope_refused : 31 < s → accepted code ≡ false
  scope_refused h = refused code (λ a. let z = (formed_here a).scope in let y = scope_is_lem in omega arith)

  pub repeat_refused : (place_in directory s ≡ 0 → ⊥) → accepted code ≡ false
  repeat_refused h =
      refused code
      (λ a.
      let z : has_block (earlier code m) s ≡ false = ap (has_block (earlier code m)) (sym scope_is_lem) ∙ (formed_here a).fresh in
      false≢true (sym z ∙ c.closed.known s ∙ lt-ltb 0 (place_in directory s) (omega arith)))

  module _ (small : s ≤ 31) (free : place_in directory s ≡ 0) where
    room : m < 32
    room =
        let z = filled_room directory s 32 (omega arith) free in
        let y = c.closed.used in
        omega arith

    quiet : Quiet ring next
    quiet = let n = length_below (get_or code at 0) in quiet_next ring at next (omega arith) (omega arith) c.idle.quiet

    body_is : (ahead code next).opened.body ≡ (block_at code m).body
    unfolding new
    body_is = sym (ap (λ (x : Block). x.body) block_is)

    pub open_turn : Reading code next (block_read m s next) directory ring
    unfolding counted new sum
    open_turn =
        record {
          sized = c.sized;
          limited = record { stage = omega arith; variables = omega arith; subs = omega arith };
          inside = next_inside code at u directory₀ ring₀ r here fine;
          sound = rw one at (sound_next code at u directory₀ ring₀ r here fine);
          closed = c.closed;
          idle = λ z. absurd (omega arith);
          busy =
              λ _. record {
                head =
                    record {
                      present = more.inside;
                      room = room;
                      later = ap (λ (n : ℕ). drop n (parse code 0).blocks) (sym (add-one m)) ∙ more.later;
                      variables_read = omega arith;
                      variables_left = ap (λ (x : Block). x.variables) block_is;
                      subs_read = omega arith;
                      subs_left = ap (λ (x : Block). x.sub_scopes) block_is;
                      scope = sym scope_is_lem;
                      scope_small = omega arith;
                      fresh = c.closed.known s ∙ rw free;
                      begun = omega arith;
                      body = let z : next - next ≡ 0 = omega arith in rw z body_is;
                      known = λ k h. absurd (omega arith);
                      weight = refl;
                      weight_few = omega arith;
                    };
                noted = record { types = λ v h. absurd (omega arith); earlier = λ k h. absurd (omega arith); subs = λ k h. absurd (omega arith) };
                marks = marks_quiet (earlier code m) (block_at code m) (ahead code next).opened.body next 0 ring quiet refl body_is;
                quiet = λ _. quiet;
                still = λ _. (refl, refl);
              };
        }

  pub open_stepped : Stepped code at directory ring (opening s next m directory)
  unfolding opening
  open_stepped =
      ⊎_elim
      (λ (q : ltb 31 s ≡ true). rw q (scope_refused (ltb-true 31 s q)))
      (λ (q : ltb 31 s ≡ false).
      ⊎_elim
      (λ (p : eqb (place_in directory s) 0 ≡ true). rw (q, p) (omega arith, open_turn (ltb-false 31 s q) (eqb-true (place_in directory s) 0 p)))
      (λ (p : eqb (place_in directory s) 0 ≡ false). rw (q, p) (repeat_refused (eqb-false (place_in directory s) 0 p)))
      (decide (eqb (place_in directory s) 0)))
      (decide (ltb 31 s))

pub begin_stepped : (code : List ℕ) (at next scope : ℕ) (u : Progress) (directory₀ ring₀ : List ℕ)
    → Beginning code at next scope u directory₀ ring₀
    → (m : ℕ) (directory ring : List ℕ) → AllClosed code at m directory ring
    → (r : Step) → r ≡ opening scope next m directory → Stepped code at directory ring r
begin_stepped code at next scope u directory₀ ring₀ g m directory ring c r e =
    rw (e, g.scope_is, g.next_is)
    (open_stepped code at u directory₀ ring₀ g.reading g.here g.fine g.stage m directory
    ring c)

-- a refused end
pub left_refused : (code : List ℕ) (at : ℕ) (directory ring : List ℕ) (x : Option ℕ) → x ≡ None
    → Left code at directory ring x → accepted code ≡ false
left_refused code at directory ring x e l = rw e at l

pub left_closed : (code : List ℕ) (at m : ℕ) (directory ring : List ℕ) (x : Option ℕ) → x ≡ Some m
    → Left code at directory ring x → AllClosed code at m directory ring
left_closed code at m directory ring x e l = rw e at l

-- The start

-- a directory and a ring that are lent
pub makes_empty : (code directory : List ℕ) (n : ℕ) → Room code directory × ((i : ℕ) → place_in directory i ≡ 0)
    → ((d : ℕ) → d ≤ length code → d % 65536 < n) → Empty code directory (replicate n 0)
makes_empty code directory n r room =
    record { room = r.0; no_places = r.1; no_marks = zeros n; ring_room = λ d h. rw (length-replicate {A = ℕ} n 0) (room d h) }

none_filled : (directory : List ℕ) → ((i : ℕ) → place_in directory i ≡ 0) → (n : ℕ) → filled directory n ≡ 0
unfolding filled
none_filled directory none zero = refl
none_filled directory none (suc n) = let h = none_filled directory none n in rw (none n, h)

pub start_reading : (code directory ring : List ℕ) → Empty code directory ring
    → Reading code 0 nothing_read directory ring
unfolding earlier all_well_formed has_block any ahead mark
start_reading code directory ring e =
    record {
      sized = record { room = e.room; ring_room = e.ring_room };
      limited = record { stage = omega arith; variables = omega arith; subs = omega arith };
      inside = omega arith;
      sound = refl;
      closed =
          record {
            within = omega arith;
            well_formed = refl;
            entered = λ q h. absurd (omega arith);
            found = λ q h. absurd (omega arith);
            present = λ i h. let z = e.no_places i in absurd (omega arith);
            used = none_filled directory e.no_places 32;
            small = λ q h. absurd (omega arith);
            known = λ i. sym (rw (e.no_places i));
            weighed = λ q h. absurd (omega arith);
            light = λ q h. absurd (omega arith);
            declared = λ q h. absurd (omega arith);
          };
      idle = λ _. record { later = refl; quiet = λ d q. let z = e.no_marks (d % 65536) in let y = q.set in omega arith };
      busy = λ h. absurd (omega arith);
    }

-- The end

pub end_leaves : (code : List ℕ) (at : ℕ) (u : Progress) (directory ring : List ℕ)
    → Reading code at u directory ring → length code ≤ at → Leaving code at u directory ring
end_leaves code at u directory ring r h =
    record { reading = r; ended = ap (λ (p : Parsed). p.opened) (ahead_end code at h) }

module _ (code : List ℕ) (at m : ℕ) (u : Progress) (directory ring : List ℕ) (h : length code ≤ at)
    (s : sound (drop at code) 0 (count_of u) ≡ sound code 0 start) (c : AllClosed code at m directory ring) where
  all_blocks : length (parse code 0).blocks ≤ m
  all_blocks = drop_end (parse code 0).blocks m (c.idle.later ∙ ap (λ (p : Parsed). p.blocks) (ahead_end code at h))

  sound_all : sound code 0 start ≡ true
  unfolding sound
  sound_all = sym s ∙ rw (drop_of_length-le code h)

  pub end_accepted : accepted code ≡ true
  end_accepted = all_accepted code m all_blocks sound_all c.closed.well_formed

  pub end_tabled : Tabled code directory m
  unfolding block_count
  end_tabled =
      let w = c.closed.within in
      let a = all_blocks in
      let f = filled_bound directory 32 in
      let z = c.closed.used in
      record {
        number = omega arith;
        few = omega arith;
        blocks = c.closed.entered;
        found = c.closed.found;
        present = c.closed.present;
      }

-- The loop

pub stepped_refused : (code : List ℕ) (at : ℕ) (directory ring : List ℕ) (x : Step) → x ≡ None
    → Stepped code at directory ring x → accepted code ≡ false
stepped_refused code at directory ring x e s = rw e at s

pub stepped_next : (code : List ℕ) (at : ℕ) (directory ring : List ℕ) (x : Step) (next : ℕ) (u : Progress) → x ≡ Some (next, u)
    → Stepped code at directory ring x → (at < next) × Reading code next u directory ring
stepped_next code at directory ring x next u e s = rw e at s

-- all are 0 before the first record
pub all_zero : {u : Progress} → (u.stage ≡ 0) × ((u.variables ≡ 0) × ((u.subs ≡ 0) × ((u.blocks ≡ 0) × ((u.scope ≡ 0) × ((u.begin ≡ 0) × ((u.weight ≡ 0) × (u.reach ≡ 0)))))))
    → u ≡ nothing_read
all_zero {u} h =
    let e : u ≡ record { stage = u.stage; variables = u.variables; subs = u.subs; blocks = u.blocks; scope = u.scope; begin = u.begin; weight = u.weight; reach = u.reach } = refl in
    e ∙ rw (h.0, h.1.0, h.1.1.0, h.1.1.1.0, h.1.1.1.1.0, h.1.1.1.1.1.0, h.1.1.1.1.1.1.0, h.1.1.1.1.1.1.1)

-- whether a scope has a block, by its place
pub is_placed : (x : Option ℕ) (n : ℕ) → SomeIff x (0 < n) (n - 1) → is_some x ≡ not (eqb n 0)
is_placed None n h = let z : n ≡ 0 = omega (arith, h) in rw z
is_placed (Some p) n h = rw (ne_eqb n 0 (λ z. omega (arith, h.0)))

pub empty_start : (code directory ring : List ℕ) (u : Progress) → Empty code directory ring
    → u ≡ nothing_read
    → Reading code 0 u directory ring
empty_start code directory ring u e eu = rw eu (start_reading code directory ring e)

pub end_judged : (code : List ℕ) (at : ℕ) (u : Progress) (directory₀ ring₀ : List ℕ)
    → Reading code at u directory₀ ring₀ → length code ≤ at
    → (directory ring : List ℕ) (x : Option ℕ) → Left code at directory ring x → Judged code directory x
end_judged code at u directory₀ ring₀ r h directory ring None c = c
end_judged code at u directory₀ ring₀ r h directory ring (Some m) c = (
  end_accepted code at m u directory ring h r.sound c,
  end_tabled code at m u directory ring h r.sound c,
)
