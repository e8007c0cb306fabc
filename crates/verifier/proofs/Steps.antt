-- An instruction: what is refused, and what holds after it.
--     instruction_turn                                    what holds after it
--     flaw_refused                                        an instruction with a flaw
--     next_room, makes-instructing, instruction-stepped,
--     landed_refused, landed-heading                      the ways of a record, as the code takes them
-- Assumes nothing.
use Prim.Native.Nat.{ℕ, suc, ◌+◌, ◌-◌, ◌%◌, ◌<◌, ◌≤◌}
use mathlib.Core.Path.{◌≡◌, refl, sym, ap, ◌∙◌}
use mathlib.Core.Bool.{Bool, true, false, ◌&&◌, ◌||◌, false≢true}
use mathlib.Core.List.{List, ◌∷◌, ◌++◌, append_assoc}
use mathlib.Core.Logic.{⊎_elim}
use native.Mathlib.Omega.{arith}
use lib.ListN.{length, get_or, take, drop, set, length-set, get_or-append}
use lib.Seq.{drop-drop, take-add, length-take-le, get_or-take}
use lib.Dec.{eqb, ltb}
use borrow.Author.Tests.{lt-ltb, ltb-true}
use Rattle.std.specs.Prelude.{Some}
use Rattle.laws.proofs.Booleans.{decide, both}
use Rattle.machine.specs.Blocks.{Block, Parsed, body_length, stage_of, variables_of}
use Rattle.machine.specs.Instructions.{instruction_of}
use Rattle.machine.specs.Acceptance.{counted, lands, fits, accepted}
use Rattle.verifier.specs.Instructions.{form_of, named, distance_of, reach_after, ring_after}
use Rattle.directory.specs.Layout.{block_in, size_in}
use Rattle.directory.specs.Tabled.{block_at}
use Rattle.verifier.specs.Pass.{count_of, faulty_at, names_at, instruction_read, mark, Marks, earlier, ahead, Busy, Reading, Stepped, Hit, Flaw, Fit, AtInstruction, AtHeading, Landed, Instructing, Instructed}
use Rattle.verifier.specs.declared.Progress.{Progress}
use Rattle.verifier.proofs.Reading.{drop_here, ahead_at, ahead_short, length_below, front_four, NoHeads, no_heads}
use Rattle.verifier.proofs.Blocks.{refused, sound_code, block_fits, Formed, formed}
use Rattle.verifier.proofs.Fitting.{fits_parts, local}
use Rattle.verifier.proofs.Ring.{lands_short, back_fits, back_inside, moved_on, marks_next}
use Rattle.verifier.proofs.Entries.{sized_same}
use Rattle.verifier.proofs.Turns.{drop_end, next_at, is_clean, next_inside, sound_next, was_open, fine_of}
use Rattle.verifier.specs.declared.Landing.{Landing}
use Rattle.verifier.specs.declared.Landing.TheVariants.{Ahead}
use Rattle.verifier.specs.declared.Landing.TheVariants as landing

-- Names

named_more : (f a b v s c v' s' c' : ℕ) → v ≤ v' → s ≤ s' → (a < s → c ≡ c') → named f a b v s c ≡ true → named f a b v' s' c' ≡ true
unfolding named
named_more f a b v s c v' s' c' hv hs hc e =
    ⊎_elim
    (λ (q : eqb f 2 ≡ true). rw q (rw q at e))
    (λ (q : eqb f 2 ≡ false).
    ⊎_elim
    (λ (q1 : (eqb f 4 || eqb f 8) ≡ true). let t = ltb-true a v (rw (q, q1) at e) in rw (q, q1, lt-ltb a v' (omega arith)))
    (λ (q1 : (eqb f 4 || eqb f 8) ≡ false).
    ⊎_elim
    (λ (q2 : eqb f 5 ≡ true).
    let t = both (ltb a s) (ltb b c) (rw (q, q1, q2) at e) in
    let ta = ltb-true a s t.0 in
    rw (q, q1, q2, lt-ltb a s' (omega arith), ← hc ta) t.1)
    (λ (q2 : eqb f 5 ≡ false).
    ⊎_elim
    (λ (q3 : eqb f 6 ≡ true). let t = ltb-true a s (rw (q, q1, q2, q3) at e) in rw (q, q1, q2, q3, lt-ltb a s' (omega arith)))
    (λ (q3 : eqb f 6 ≡ false). rw (q, q1, q2, q3))
    (decide (eqb f 6)))
    (decide (eqb f 5)))
    (decide (eqb f 4 || eqb f 8)))
    (decide (eqb f 2))

after_length : (ring : List ℕ) (at next d : ℕ) → length (ring_after ring at next d) ≡ length ring
unfolding ring_after
after_length ring at next d =
    ⊎_elim
    (λ (q : eqb d 0 ≡ true). rw q (length-set ring (at % 65536) 0))
    (λ (q : eqb d 0 ≡ false). rw q (length-set (set ring (at % 65536) 0) ((next + d) % 65536) 1 ∙ length-set ring (at % 65536) 0))
    (decide (eqb d 0))

-- An instruction at a position

module _ (code : List ℕ) (at : ℕ) (u : Progress) (directory ring : List ℕ)
    (r : Reading code at u directory ring) (here : at < length code) (fine : faulty_at code at u ≡ false)
    (four : stage_of (get_or code at 0) ≡ 4) where
  k : ℕ
  k = get_or code at 0

  rest : List ℕ
  rest = drop (at + 1) code

  bs : List ℕ
  unfolding k rest
  bs = take (body_length k) rest

  e : List Block
  e = earlier code u.blocks

  b : Block
  b = block_at code u.blocks

  opened : 1 ≤ u.stage
  opened = (was_open code at u directory ring r here fine (rw four (omega arith))).0

  busy : Busy code at u directory ring
  busy = r.busy opened

  front : ahead code at
      ≡ record {
        opened = record {
          scope = 0;
          variables = (ahead code (next_at code at)).opened.variables;
          sub_scopes = (ahead code (next_at code at)).opened.sub_scopes;
          body = k ∷ bs ++ (ahead code (next_at code at)).opened.body;
        };
        blocks = (ahead code (next_at code at)).blocks;
      }
  unfolding k rest bs
  front = ahead_at code at here ∙ front_four (get_or code at 0) (drop (at + 1) code) (ahead code (next_at code at)) four

  left : List ℕ
  left = (ahead code (next_at code at)).opened.body

  body_is : (ahead code at).opened.body ≡ k ∷ bs ++ left
  unfolding left
  body_is = ap (λ (p : Parsed). p.opened.body) front

  whole : length bs ≡ body_length k
  unfolding bs k rest
  whole = length-take-le (body_length (get_or code at 0)) (drop (at + 1) code)
      (is_clean code at u directory ring r here fine).whole

  marks : Marks e b (k ∷ bs ++ left) at u.reach ring
  unfolding e b
  marks = rw body_is at busy.marks

  same_instruction : instruction_of k (bs ++ left) ≡ instruction_of k rest
  unfolding k bs rest
  same_instruction =
      local (get_or code at 0) four (bs ++ left) rest
      (λ i h. get_or-append bs left 0 i (let w = whole in omega arith) ∙ get_or-take (body_length (get_or code at 0)) (drop (at + 1) code) i 0 h)

  -- what the directory says of the sub-scope's variables
  called : ℕ → ℕ
  called a = size_in directory u.blocks a

  called_is : (a : ℕ) → a < u.subs → called a ≡ length (variables_of e (get_or b.sub_scopes a 0))
  unfolding called size_in e b
  called_is a h =
      let p = block_in directory u.blocks a in
      let l = busy.noted.earlier a h in
      (r.closed.entered p l).declares.number
      ∙ ap length (sym (r.closed.declared p l))
      ∙ ap (λ (i : ℕ). length (variables_of (earlier code u.blocks) i)) (busy.noted.subs a h)

  names : ℕ → ℕ → ℕ → Bool
  names v s c = named (form_of k) (get_or code (at + 1) 0) (get_or code (at + 2) 0) v s c

  fit_is : fits e b (instruction_of k (bs ++ left)) left
      ≡ (names (length b.variables) (length b.sub_scopes) (length (variables_of e (get_or b.sub_scopes (get_or code (at + 1) 0) 0)))
      && lands left 0 (distance_of (form_of k) code at))
  unfolding names k rest
  fit_is = rw same_instruction (fits_parts e b (get_or code at 0) four code at left (is_clean code at u directory ring r here fine).valid)

  accepted_fit : accepted code ≡ true → Formed e b
  unfolding e b
  accepted_fit a = formed (earlier code u.blocks) (block_at code u.blocks) (block_fits code u.blocks busy.head.present a)

  no_more : accepted code ≡ true → NoHeads (ahead code (next_at code at))
  unfolding ahead counted
  no_more a =
      no_heads (drop (next_at code at) code) 0 (counted (stage_of (get_or code at 0)) (count_of u))
      (sound_next code at u directory ring r here fine ∙ sound_code code a)
      (rw four (omega arith))

  all_variables : accepted code ≡ true → length b.variables ≤ u.variables
  unfolding b
  all_variables a =
      drop_end (block_at code u.blocks).variables u.variables
      (busy.head.variables_left ∙ ap (λ (p : Parsed). p.opened.variables) front ∙ (no_more a).variables)

  all_subs : accepted code ≡ true → length b.sub_scopes ≤ u.subs
  unfolding b
  all_subs a =
      drop_end (block_at code u.blocks).sub_scopes u.subs
      (busy.head.subs_left ∙ ap (λ (p : Parsed). p.opened.sub_scopes) front ∙ (no_more a).sub_scopes)

  parts_hold : accepted code ≡ true
      → (names (length b.variables) (length b.sub_scopes) (length (variables_of e (get_or b.sub_scopes (get_or code (at + 1) 0) 0))) ≡ true)
      × (lands left 0 (distance_of (form_of k) code at) ≡ true)
  parts_hold a =
      both (names (length b.variables) (length b.sub_scopes) (length (variables_of e (get_or b.sub_scopes (get_or code (at + 1) 0) 0))))
      (lands left 0 (distance_of (form_of k) code at))
      (sym fit_is ∙ back_fits k bs left whole e b at u.reach ring marks (accepted_fit a).fit)

  -- what is refused
  names_fit : accepted code ≡ true → names_at (form_of (get_or code at 0)) code at directory u ≡ true
  unfolding names_at names called k
  names_fit a =
      named_more (form_of k) (get_or code (at + 1) 0) (get_or code (at + 2) 0) (length b.variables) (length b.sub_scopes)
      (length (variables_of e (get_or b.sub_scopes (get_or code (at + 1) 0) 0))) u.variables u.subs (called (get_or code (at + 1) 0)) (all_variables a)
      (all_subs a) (λ h. sym (called_is (get_or code (at + 1) 0) (let s = all_subs a in omega arith))) (parts_hold a).0

  not_inside : (d : ℕ) → at + 1 ≤ d → d < next_at code at → 0 < mark ring d → accepted code ≡ true → ⊥
  unfolding k
  not_inside d h l s a =
      let w = whole in
      let n = length_below (get_or code at 0) in
      back_inside k bs left whole e b at u.reach ring marks d h (omega arith) (omega arith) s (accepted_fit a).fit

  not_far : accepted code ≡ true → next_at code at + distance_of (form_of (get_or code at 0)) code at ≤ length code
  unfolding k left
  not_far a =
      let s = lands_short left 0 (distance_of (form_of k) code at) (parts_hold a).1 in
      let o = ahead_short code (next_at code at) in
      let w = next_inside code at u directory ring r here fine in
      omega arith

  not_flawed : (n d : ℕ) (there : Bool) → n ≡ body_length (get_or code at 0) → d ≡ distance_of (form_of (get_or code at 0)) code at
      → there ≡ names_at (form_of (get_or code at 0)) code at directory u → Flaw code at n ring there d → accepted code ≡ true → ⊥
  not_flawed n d there en ed et flaw a =
      ⊎_elim
      (λ (q : length code ≤ at + n). let w = next_inside code at u directory ring r here fine in omega arith)
      (⊎_elim
      (λ (q : Hit at n ring). not_inside q.0 q.1 (let z = q.2 in omega arith) q.3 a)
      (⊎_elim
      (λ (q : there ≡ false). false≢true (sym q ∙ et ∙ names_fit a))
      (λ (q : length code < at + 1 + n + d). let f = not_far a in omega arith)))
      flaw

  -- what holds after it
  module _ (d : ℕ) (ed : d ≡ distance_of (form_of (get_or code at 0)) code at)
      (fit : Fit code at (body_length (get_or code at 0)) ring (names_at (form_of (get_or code at 0)) code at directory u) d) where
    fit_lands : fits e b (instruction_of k (bs ++ left)) left ≡ lands left 0 d
    unfolding names_at names called k b
    fit_lands =
        let t = named_more (form_of k) (get_or code (at + 1) 0) (get_or code (at + 2) 0) u.variables u.subs (called (get_or code (at + 1) 0))
        (length b.variables)
        (length b.sub_scopes) (length (variables_of e (get_or b.sub_scopes (get_or code (at + 1) 0) 0))) busy.head.variables_read
        busy.head.subs_read (λ h. called_is (get_or code (at + 1) 0) h) fit.names in
        fit_is ∙ rw (t, ed)

    abbrev ring' : List ℕ
    ring' = ring_after ring at (next_at code at) d

    marks_on : Marks e b left (next_at code at) (reach_after u.reach (next_at code at) d) ring'
    unfolding k
    marks_on =
        let w = whole in
        let n = length_below (get_or code at 0) in
        marks_next k bs left whole e b at (next_at code at) u.reach d ring ring'
        (moved_on ring at (next_at code at) d
        (r.sized.ring_room at (omega arith), r.sized.ring_room (next_at code at + d) fit.near) (omega arith) (omega arith) fit.small fit.clear)
        (omega arith) marks fit.clear fit_lands

    body_on : take (next_at code at - u.begin) (drop u.begin code) ++ left ≡ b.body
    unfolding k rest bs b
    body_on =
        let h = busy.head.begun in
        let n : next_at code at - u.begin ≡ (at - u.begin) + suc (body_length (get_or code at 0)) = omega arith in
        let p : u.begin + (at - u.begin) ≡ at = omega arith in
        let q : drop (at - u.begin) (drop u.begin code) ≡ get_or code at 0 ∷ drop (at + 1) code =
        drop-drop (at - u.begin) u.begin code ∙ ap (λ (i : ℕ). drop i code) p ∙ drop_here code at here in
        rw (
          n,
          take-add (at - u.begin) (suc (body_length (get_or code at 0))) (drop u.begin code),
          q,
          append_assoc
              (take (at - u.begin) (drop u.begin code)) (k ∷ bs) left,
        )
        (ap (λ (l : List ℕ). take (at - u.begin) (drop u.begin code) ++ l) (sym body_is) ∙ busy.head.body)

    pub instruction_turn : Reading code (next_at code at) (instruction_read u (reach_after u.reach (next_at code at) d)) directory
        (ring_after ring at (next_at code at) d)
    unfolding counted e b left
    instruction_turn =
        let h = busy.head in
        record {
          sized = sized_same code directory directory ring ring' refl (after_length ring at (next_at code at) d) r.sized;
          limited = record { stage = omega arith; variables = r.limited.variables; subs = r.limited.subs };
          inside = next_inside code at u directory ring r here fine;
          sound = rw four at (sound_next code at u directory ring r here fine);
          closed = r.closed;
          idle = λ z. absurd (omega arith);
          busy =
              λ _. record {
                head =
                    record {
                      present = h.present;
                      room = h.room;
                      later = h.later ∙ ap (λ (p : Parsed). p.blocks) front;
                      variables_read = h.variables_read;
                      variables_left = h.variables_left ∙ ap (λ (p : Parsed). p.opened.variables) front;
                      subs_read = h.subs_read;
                      subs_left = h.subs_left ∙ ap (λ (p : Parsed). p.opened.sub_scopes) front;
                      scope = h.scope;
                      scope_small = h.scope_small;
                      fresh = h.fresh;
                      begun = let z = h.begun in omega arith;
                      body = body_on;
                      known = h.known;
                      weight = h.weight;
                      weight_few = h.weight_few;
                    };
                noted = record { types = busy.noted.types; earlier = busy.noted.earlier; subs = busy.noted.subs };
                marks = marks_on;
                quiet = λ z. absurd (omega arith);
                still = λ z. absurd (omega arith);
              };
        }

-- What the code takes

module _ (code : List ℕ) (at : ℕ) (u : Progress) (directory ring : List ℕ) (r : Reading code at u directory ring) (here : at < length code) where
  pub flaw_refused : stage_of (get_or code at 0) ≡ 4 → (n d : ℕ) (there : Bool) → n ≡ body_length (get_or code at 0)
      → d ≡ distance_of (form_of (get_or code at 0)) code at → there ≡ names_at (form_of (get_or code at 0)) code at directory u
      → Flaw code at n ring there d → accepted code ≡ false
  flaw_refused four n d there en ed et flaw =
      refused code (λ a. not_flawed code at u directory ring r here (fine_of code at u here r.sound a) four n d there en ed et flaw a)

  module _ (n : ℕ) (en : n ≡ body_length (get_or code at 0)) (d : ℕ) (x : Landing) (ex : x ≡ Ahead d) (l : Landed code at u directory ring x) where
    at_instruction : AtInstruction code at u directory ring n d
    unfolding Landed
    at_instruction = rw en (rw ex at l)

    pub next_room : at + 1 + n ≤ length code
    next_room = let f = at_instruction.fit.near in omega arith

    pub makes_instructing : length code < 18446744073709551616 → Instructing at (at + 1 + n) d ring
    makes_instructing room =
        let f = at_instruction.fit.near in
        record { here = r.sized.ring_room at (omega arith); landing = r.sized.ring_room (at + 1 + n + d) f; small = omega arith }

    pub instruction_stepped : (ring' : List ℕ) (v : Progress) → Instructed at (at + 1 + n) d u ring ring' v
        → Stepped code at directory ring' (Some (at + 1 + n, v))
    instruction_stepped ring' v i =
        let o = at_instruction in
        let t = instruction_turn code at u directory ring r here o.fine o.stage d o.distance_is (rw o.length_is at o.fit) in
        rw (i.0, i.1) (omega arith, rw o.length_is t)

  pub landed_refused : (x : Landing) → x ≡ landing.Refused → Landed code at u directory ring x → accepted code ≡ false
  unfolding Landed
  landed_refused x e l = rw e at l

  pub landed_heading : (x : Landing) → x ≡ landing.Heading → Landed code at u directory ring x → AtHeading code at u directory ring
  unfolding Landed
  landed_heading x e l = record { reading = r; here = here; no_instruction = rw e at l }
