-- The body of an instruction, and the record at a position by it.
--     body_short, body-looked                   the ways through `body_passes`
--     stops, nameless, far, bare, lands-at
--                                               the ways through the functions of bodies
--     called_out, called-block, called-in       the names of a sub-scope and its variable
--     body_room, called-room                    what these functions ask
--     no_stage, landed-by                       what they say of the record at a position, by its form
--     landed_none, landed-one, ..               by the length of its body
-- Assumes nothing.
use Prim.Native.Nat.{ℕ, ◌+◌, ◌-◌, ◌<◌, ◌≤◌}
use mathlib.Core.Path.{◌≡◌, refl, sym, ap, ◌∙◌}
use mathlib.Core.Bool.{Bool, true, false, ◌||◌, false≢true}
use mathlib.Core.List.{List}
use mathlib.Core.Logic.{inl, inr, ⊎_elim}
use native.Mathlib.Omega.{arith}
use lib.ListN.{length, get_or, drop, length-drop}
use lib.Seq.{get_or-drop}
use lib.Dec.{eqb, ltb}
use borrow.Author.Tests.{lt-ltb, le-ltb, ne_eqb}
use Rattle.laws.proofs.Booleans.{decide}
use Rattle.machine.specs.Blocks.{body_length, stage_of}
use Rattle.directory.specs.Layout.{variables_in, block_in, size_in}
use Rattle.verifier.specs.Instructions.{form_of, form_by, limit_by, length_of, named, distance_at, distance_of}
use Rattle.verifier.specs.Pass.{faulty_at, names_at, Called, called_at, Passed, Reading, BodyRoom, Hit, BodyPassed, Fit, Bodied, Landed}
use Rattle.verifier.specs.declared.Landing.{Landing}
use Rattle.verifier.specs.declared.Landing.TheVariants.{Ahead}
use Rattle.verifier.specs.declared.Landing.TheVariants as landing
use Rattle.verifier.specs.declared.Progress.{Progress}
use Rattle.verifier.proofs.Faults.{fault_free}
use Rattle.verifier.proofs.Fitting.{form_length, form_by_lem, form_valid}
use Rattle.verifier.proofs.Steps.{flaw_refused}

-- Whether a body passes

module _ (code : List ℕ) (at n : ℕ) (ring : List ℕ) where
  pub body_short : length code - at ≤ n → BodyPassed code at n ring false
  body_short h =
      record { whole = λ e. absurd (false≢true e); clear = λ e. absurd (false≢true e); stopped = λ _. inl (omega arith) }

  pub body_looked : n < length code - at → (r : Bool) → Passed ring (at + 1) (at + 1 + n) r → BodyPassed code at n ring r
  body_looked h r p = record { whole = λ _. omega arith; clear = p.clear; stopped = λ e. inr (p.hit e) }

  -- the functions of bodies
  module _ (r : Bool) (p : BodyPassed code at n ring r) (there : Bool) (d : ℕ) where
    pub stops : r ≡ false → Bodied code at n ring there d landing.Refused
    unfolding Bodied
    stops e = ⊎_elim (λ (q : length code ≤ at + n). inl q) (λ (q : Hit at n ring). inr (inl q)) (p.stopped e)

    pub lands_at : r ≡ true → there ≡ true → (e : ℕ) → e ≡ d → d < 65536 → at + 1 + n + d ≤ length code → Bodied code at n ring there d (Ahead e)
    unfolding Bodied
    lands_at t h e ee small near = (ee, record { clear = p.clear t; names = h; near = near; small = small })

  pub nameless : (there : Bool) (d : ℕ) → there ≡ false → Bodied code at n ring there d landing.Refused
  unfolding Bodied
  nameless there d e = inr (inr (inl e))

  pub far : (there : Bool) (d : ℕ) → length code < at + 1 + n + d → Bodied code at n ring there d landing.Refused
  unfolding Bodied
  far there d h = inr (inr (inr h))

-- no body
pub bare : (code : List ℕ) (at : ℕ) (ring : List ℕ) → at < length code → Bodied code at 0 ring true 0 (Ahead 0)
unfolding Bodied
bare code at ring h =
    (refl, record { clear = λ p a b. absurd (omega arith); names = refl; near = omega arith; small = omega arith })

-- A sub-scope and its variable

module _ (code : List ℕ) (at : ℕ) (directory : List ℕ) (u : Progress) (k : ℕ) (ek : k ≡ get_or code (at + 1) 0) where
  pub called_out : u.subs ≤ k → called_at code at directory u ≡ false
  unfolding called_at
  called_out h = rw (← ek, le-ltb k u.subs h)

  module _ (l : k < u.subs) where
    pub called_in : (p x y : ℕ) → p ≡ block_in directory u.blocks k → y ≡ get_or code (at + 2) 0 → x ≡ variables_in directory p
        → called_at code at directory u ≡ ltb y x
    unfolding called_at size_in
    called_in p x y ep ey ex = rw (← ek, lt-ltb k u.subs l, ex, ep, ey) refl

pub called_block : (u : Progress) (directory : List ℕ) (k p : ℕ) → Called u directory → k < u.subs → p ≡ block_in directory u.blocks k → p < 32
called_block u directory k p c l ep = rw ep (c.subs k l)

-- The record at a position

module _ (code : List ℕ) (at : ℕ) (u : Progress) (directory ring : List ℕ) (here : at < length code) (r : Reading code at u directory ring) where
  pub body_room : (n : ℕ) → n ≤ 4 → BodyRoom code at n ring
  body_room n h = record { here = here; short = h; ring_room = r.sized.ring_room }

  pub called_room_lem : (u.stage ≡ 0 → ⊥) → Called u directory
  called_room_lem h =
      let o = r.busy (omega arith) in
      let y = o.head.room in
      record { blocks = y; few = r.limited.subs; subs = λ k l. let z = o.noted.earlier k l in omega arith }

  pub no_stage : (stage_of (get_or code at 0) ≡ 4 → ⊥) → Landed code at u directory ring landing.Heading
  unfolding Landed
  no_stage n = λ e. absurd (n e)

  module _ (opened : u.stage ≡ 0 → ⊥) (four : 4 ≡ stage_of (get_or code at 0)) (form : ℕ) (ef : form ≡ form_of (get_or code at 0))
      (n : ℕ) (there : Bool) (d : ℕ) (en : n ≡ length_of form) (et : there ≡ names_at form code at directory u) (ed : d ≡ distance_of form code at) where
    length_is_lem : n ≡ body_length (get_or code at 0)
    length_is_lem = en ∙ ap length_of ef ∙ sym (form_length (get_or code at 0) (sym four))

    names_are : there ≡ names_at (form_of (get_or code at 0)) code at directory u
    names_are = et ∙ ap (λ (f : ℕ). names_at f code at directory u) ef

    distance_is_lem : d ≡ distance_of (form_of (get_or code at 0)) code at
    distance_is_lem = ed ∙ ap (λ (f : ℕ). distance_of f code at) ef

    fine : Fit code at n ring there d → faulty_at code at u ≡ false
    unfolding names_at
    fine f =
        let w = f.near in
        let l = length_is_lem in
        let a : get_or code (at + 1) 0 ≡ get_or (drop (at + 1) code) 0 0 =
        let z : at + 1 ≡ at + 1 + 0 = omega arith in ap (λ (i : ℕ). get_or code i 0) z ∙ sym (get_or-drop (at + 1) code 0 0) in
        fault_free code at u r.limited (omega arith) (sym four) (rw length-drop (omega arith))
        (form_valid (get_or code at 0) (sym four) (drop (at + 1) code) (get_or code (at + 1) 0) (get_or code (at + 2) 0) u.variables u.subs
        (size_in directory u.blocks (get_or code (at + 1) 0)) a (sym names_are ∙ f.names))

    pub landed_by : (x : Landing) → Bodied code at n ring there d x → Landed code at u directory ring x
    unfolding Bodied Landed
    landed_by landing.Heading h = absurd h
    landed_by landing.Refused h = flaw_refused code at u directory ring r here (sym four) n d there length_is_lem distance_is_lem names_are h
    landed_by (Ahead e) h =
        rw (h.0, ← length_is_lem)
        (record { fine = fine h.1; stage = sym four; length_is = length_is_lem; distance_is = distance_is_lem; fit = rw (← names_are) h.1 })

-- by the length of the body
module _ (code : List ℕ) (at : ℕ) (u : Progress) (directory ring : List ℕ) (here : at < length code) (r : Reading code at u directory ring)
    (opened : u.stage ≡ 0 → ⊥) (four : stage_of (get_or code at 0) ≡ 4) (x : Landing) where
  abbrev k : ℕ
  k = get_or code at 0

  by_length : (n form : ℕ) → n ≡ body_length k → form ≡ form_by k n → form ≡ form_of k
  by_length n form e f = f ∙ ap (form_by k) e ∙ form_by_lem k four

  pub landed_none : body_length k ≡ 0 → Bodied code at 0 ring true 0 x → Landed code at u directory ring x
  unfolding form_by length_of names_at named distance_of
  landed_none e = landed_by code at u directory ring here r opened (sym four) 1 (by_length 0 1 (sym e) refl) 0 true 0 refl refl refl x

  pub landed_number : (body_length k ≡ 0 → ⊥) → (body_length k ≡ 1 → ⊥) → (body_length k ≡ 2 → ⊥) → (body_length k ≡ 3 → ⊥)
      → Bodied code at 4 ring true 0 x → Landed code at u directory ring x
  unfolding form_by length_of names_at named distance_of
  landed_number a b c d =
      let n = body_length k in
      landed_by code at u directory ring here r opened (sym four) 3
      (by_length n 3 refl (rw (ne_eqb n 0 a, ne_eqb n 1 b, ne_eqb n 2 c, ne_eqb n 3 d))) 4 true 0 refl refl refl x

  pub landed_given : body_length k ≡ 3 → Bodied code at 3 ring (ltb (get_or code (at + 1) 0) u.variables) (distance_at code (at + 3)) x
      → Landed code at u directory ring x
  unfolding form_by length_of names_at named distance_of
  landed_given e = landed_by code at u directory ring here r opened (sym four) 8 (by_length 3 8 (sym e) refl) 3 _ _ refl refl refl x

  pub landed_names : body_length k ≡ 2 → (eqb k 7 || eqb k 42) ≡ true → Bodied code at 2 ring (called_at code at directory u) 0 x
      → Landed code at u directory ring x
  unfolding form_by length_of names_at named distance_of called_at
  landed_names e q = landed_by code at u directory ring here r opened (sym four) 5 (by_length 2 5 (sym e) (rw q)) 2 _ 0 refl refl refl x

  pub landed_jump : body_length k ≡ 2 → (eqb k 7 || eqb k 42) ≡ false → Bodied code at 2 ring true (distance_at code (at + 2)) x
      → Landed code at u directory ring x
  unfolding form_by length_of names_at named distance_of
  landed_jump e q = landed_by code at u directory ring here r opened (sym four) 7 (by_length 2 7 (sym e) (rw q)) 2 true _ refl refl refl x

  pub landed_one : body_length k ≡ 1 → {limit : ℕ} → limit ≡ limit_by k u.variables u.subs
      → Bodied code at 1 ring (ltb (get_or code (at + 1) 0) limit) 0 x → Landed code at u directory ring x
  unfolding form_by length_of names_at named distance_of limit_by
  landed_one e l =
      ⊎_elim
      (λ (q : eqb k 4 ≡ true).
      landed_by code at u directory ring here r opened (sym four) 2 (by_length 1 2 (sym e) (rw q)) 1 _ 0 refl (rw (l, q)) refl x)
      (λ (q : eqb k 4 ≡ false).
      ⊎_elim
      (λ (p : eqb k 43 ≡ true).
      landed_by code at u directory ring here r opened (sym four) 6 (by_length 1 6 (sym e) (rw (q, p))) 1 _ 0 refl (rw (l, q, p)) refl x)
      (λ (p : eqb k 43 ≡ false).
      landed_by code at u directory ring here r opened (sym four) 4 (by_length 1 4 (sym e) (rw (q, p))) 1 _ 0 refl (rw (l, q, p)) refl x)
      (decide (eqb k 43)))
      (decide (eqb k 4))
