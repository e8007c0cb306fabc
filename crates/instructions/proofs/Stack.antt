-- Laws of the stack slice.
--     entries_length      as many entries as the height
--     entries_set         a write above the height changes nothing
--     entries_put         a write at the height is the new top
--     entries_top         the top entry, and those below
-- Assumes nothing.
use Prim.Native.Nat.{ℕ, zero, suc, ◌+◌, ◌-◌, ◌*◌, ◌<◌, ◌≤◌}
use mathlib.Core.Path.{◌≡◌, refl, ap, sym, ◌∙◌}
use mathlib.Core.Bool.{Bool, true, false, not, cond, true≢false}
use mathlib.Core.List.{List, ◌∷◌}
use native.Mathlib.Omega.{arith}
use native.Mathlib.Numerals.{add-one}
use lib.ListN.{length, get_or, set}
use lib.Seq.{get_or-set_same, get_or-set_other}
use borrow.Author.Tests.{lt-ltb, le-ltb, ne_eqb, not-true, not-false}
use mir.Syntax.{w32}
use mir.Val.{SFits}
use lib.ListN.{length-set}
use Rattle.std.specs.Prelude.{Result, Ok, Err, Option, None, Some}
use Rattle.calculus.specs.Values.{number_of, truth_of}
use Rattle.calculus.specs.Operators.{unary_of, binary_of}
use Rattle.calculus.specs.declared.Value.{Value}
use Rattle.answers.specs.declared.Cause.{Cause}
use Rattle.answers.specs.declared.Cause.TheVariants.{Conflict}
use Rattle.calculus.specs.declared.Joined.{Joined}
use Rattle.calculus.specs.declared.Joined.TheVariants.{Nothing, One, Many}
use Rattle.calculus.specs.declared.Unary.{Unary}
use Rattle.calculus.specs.declared.Binary.{Binary}
use Rattle.cells.specs.Codec.{many_cell, value_cell, value_of}
use Rattle.cells.specs.Cells.{held}
use Rattle.cells.specs.Joining.{joined_of, join_cell}
use Rattle.cells.proofs.Codec.{value_decoded, value_high, value_low}
use Rattle.cells.proofs.Variables.{given_cell}
use Rattle.cells.proofs.Joining.{join_decoded}
use Rattle.book.specs.Syntax.{same_type}
use Rattle.book.specs.Typing.{unary_type, operand_type}
use Rattle.book.specs.declared.ValueType.{ValueType}
use Rattle.book.specs.declared.ValueType.TheVariants.{YesNo}
use Rattle.lists.specs.Inputs.{is_given}
use Rattle.lists.specs.Writing.{value_type}
use Rattle.evaluation.specs.Run.{ended}
use Rattle.machine.specs.Instructions.{Instruction}
use Rattle.machine.specs.Machine.{Memory, Try, Next, stop, ran, stuck, taking, pushed, answered, Surroundings, effect}
use Rattle.instructions.specs.declared.Stop.TheVariants as halts
use Rattle.instructions.specs.Views.{entries, opened}
use Rattle.instructions.specs.Effects.{Room, Moves, Encodes, Takes, suitable}

pub entries_length : (st : List ℕ) (h : ℕ) → length (entries st h) ≡ h
unfolding entries
entries_length st zero = refl
entries_length st (suc h) = ap suc (entries_length st h)

pub entries_set : (st : List ℕ) (h i v : ℕ) → h ≤ i → entries (set st i v) h ≡ entries st h
unfolding entries
entries_set st zero i v le = refl
entries_set st (suc h) i v le = rw (get_or-set_other st i h v 0 (omega arith), entries_set st h i v (omega arith))

pub entries_put : (st : List ℕ) (h v : ℕ) → h < length st → entries (set st h v) (h + 1) ≡ joined_of v ∷ entries st h
unfolding entries
entries_put st h v lt = rw (add-one h) (rw (get_or-set_same st h v 0 lt, entries_set st h h v (omega arith)))

pub entries_top : (st : List ℕ) (h : ℕ) → 0 < h → entries st h ≡ joined_of (get_or st (h - 1) 0) ∷ entries st (h - 1)
unfolding entries
entries_top st h p = let e : h ≡ suc (h - 1) = omega arith in ap (entries st) e

-- Values as entries

pub value_entry : (c : ℕ) → (c ≡ 0 → ⊥) → c < many_cell → joined_of c ≡ One (value_of c)
unfolding joined_of
value_entry c p q = rw (ne_eqb c 0 p, lt-ltb c many_cell q)

pub nothing_entry : {c : ℕ} → c ≡ 0 → joined_of c ≡ Nothing
unfolding joined_of
nothing_entry e = rw e

pub many_entry : (c : ℕ) → many_cell ≤ c → joined_of c ≡ Many
unfolding joined_of
many_entry c p = rw (ne_eqb c 0 (λ e. absurd (omega arith)), le-ltb c many_cell p)

pub encodes : (v : Value) → SFits w32 (number_of v) → Encodes v (value_cell v)
encodes v f =
    let l = value_high v in
    record {
      cell = given_cell v f;
      entry = value_entry (value_cell v) (λ e. absurd (omega arith)) (value_low v f) ∙ ap One (value_decoded v f);
    }

-- The top

absent_not : {v : Value} → None ≡ Some v → ⊥
absent_not e = true≢false (ap (λ (g : Option Value). is_given g) (sym e))

same_value : {v w : Value} → Some v ≡ Some w → v ≡ w
same_value e = ap held e

module _ (st : List ℕ) (h : ℕ) where
  no_value_lem : ((f : Value → List Joined → Next) → taking (entries st h) f ≡ stop stuck) → Takes None st h
  no_value_lem k = record { none = λ e. k; some = λ v e. absurd (absent_not e) }

  pub take_empty : h ≡ 0 → Takes None st h
  unfolding entries
  take_empty e = no_value_lem (λ f. rw e)

  pub take_nothing : 0 < h → get_or st (h - 1) 0 ≡ 0 → Takes None st h
  take_nothing p e = no_value_lem (λ f. rw (entries_top st h p, nothing_entry e))

  pub take_many : 0 < h → many_cell ≤ get_or st (h - 1) 0 → Takes None st h
  take_many p e = no_value_lem (λ f. rw (entries_top st h p, many_entry (get_or st (h - 1) 0) e))

  pub take_value : 0 < h → (get_or st (h - 1) 0 ≡ 0 → ⊥) → get_or st (h - 1) 0 < many_cell → Takes (Some (value_of (get_or st (h - 1) 0))) st h
  take_value p q r =
      record {
        none = λ e. absurd (absent_not (sym e));
        some = λ v e. (entries_top st h p ∙ rw (value_entry (get_or st (h - 1) 0) q r, same_value e), p);
      }

-- Pushing

pub room : {h t : ℕ} {st tr : List ℕ} → (h ≤ length st) × (h ≤ 1024) → (t ≤ 512) × (t * 2 ≤ length tr) → Room h t st tr
room p q = record { height = p.1; stack = p.0; tries = q.0; pairs = q.1 }

pub push_full : (st : List ℕ) (h e : ℕ) → 1024 ≤ h → (ts : List Try) (m : Memory) → pushed (joined_of e) (entries st h) ts m ≡ stop stuck
push_full st h e p ts m = rw (entries_length st h, le-ltb h 1024 p)

put_room : (st : List ℕ) (h e t : ℕ) {tr : List ℕ} → h < 1024 → h < length st → (t ≤ 512) × (t * 2 ≤ length tr) → Room (h + 1) t (set st h e) tr
put_room st h e t p q r = let l = length-set st h e in record { height = omega arith; stack = omega arith; tries = r.0; pairs = r.1 }

pub push_go : (st : List ℕ) (h e n t : ℕ) → h < 1024 → h < length st → (tr : List ℕ) (m : Memory) → Room h t st tr
    → Moves (Ok (record { passed = n; height = h + 1; tries = t })) n (set st h e) tr m (pushed (joined_of e) (entries st h) (opened tr t) m)
push_go st h e n t p q tr m r =
    let z : n - n ≡ 0 = omega arith in
    (rw (entries_length st h, lt-ltb h 1024 p, entries_put st h e q, z), omega arith, put_room st h e t p q (r.tries, r.pairs))

pub answer_go : (st : List ℕ) (h c t : ℕ) {o : Result Value Cause} {v : Value} → o ≡ Ok v → Encodes v c → (h < length st) × (h < 1024)
    → (tr : List ℕ) (m : Memory) → (t ≤ 512) × (t * 2 ≤ length tr)
    → Moves (Ok (record { passed = 0; height = h + 1; tries = t })) 0 (set st h c) tr m (answered o (entries st h) (opened tr t) m)
answer_go st h c t e k p tr m q =
    (rw (e, entries_put st h c p.0, k.entry), omega arith, put_room st h c t p.1 p.0 q)

pub answer_ends : (st : List ℕ) (h t : ℕ) {o : Result Value Cause} {c : Cause} → o ≡ Err c
    → (tr : List ℕ) (m : Memory) → (t ≤ 512) × (t * 2 ≤ length tr) → Moves (Err (halts.Ended c)) 0 st tr m (answered o (entries st h) (opened tr t) m)
answer_ends st h t e tr m q = rw e

-- Operators

unsuited : (a b : Bool) (x : Next) → cond a b false ≡ false → cond a (cond b x (stop stuck)) (stop stuck) ≡ stop stuck
unsuited true true x f = absurd (true≢false f)
unsuited true false x f = refl
unsuited false b x f = refl

suited : (a b : Bool) (x : Next) → cond a b false ≡ true → cond a (cond b x (stop stuck)) (stop stuck) ≡ x
suited true true x f = refl
suited true false x f = absurd (true≢false (sym f))
suited false b x f = absurd (true≢false (sym f))

module _ {u t : ValueType} {r : Bool} (op : Binary) (v w : Value) (e : u ≡ value_type v) (f : t ≡ operand_type op u) (g : r ≡ same_type t (value_type v)) where
  pub suits_not : not r ≡ true → false ≡ suitable op v w
  suits_not n = let a : t ≡ operand_type op (value_type v) = f ∙ ap (operand_type op) e in rw (← a, ← g, not-true r n)

  pub suits_both : {q : Bool} → not r ≡ false → q ≡ same_type t (value_type w) → q ≡ suitable op v w
  suits_both n h = let a : t ≡ operand_type op (value_type v) = f ∙ ap (operand_type op) e in rw (← a, ← g, not-false r n) h

module _ {st : List ℕ} {h : ℕ} {g : Option Value} (k : Takes g st h) (env : Surroundings) (left : ℕ) (ts : List Try) (m : Memory) where
  module _ (op : Unary) where
    pub unary_none : g ≡ None → effect env (Instruction.unary op) left (entries st h) ts m ≡ stop stuck
    unfolding effect
    unary_none e = k.none e _

    module _ {v : Value} (e : g ≡ Some v) {t : ValueType} {r : Bool} (a : t ≡ unary_type op) (b : r ≡ same_type t (value_type v)) where
      pub unary_wrong : not r ≡ true → effect env (Instruction.unary op) left (entries st h) ts m ≡ stop stuck
      unfolding effect
      unary_wrong n = rw ((k.some v e).0, ← a, ← b, not-true r n)

      pub unary_right : not r ≡ false
          → effect env (Instruction.unary op) left (entries st h) ts m ≡ answered (unary_of op v) (entries st (h - 1)) ts m
      unfolding effect
      unary_right n = rw ((k.some v e).0, ← a, ← b, not-false r n)

  module _ (op : Binary) where
    pub binary_none : g ≡ None → effect env (Instruction.binary op) left (entries st h) ts m ≡ stop stuck
    unfolding effect
    binary_none e = k.none e _

    module _ {w : Value} (e : g ≡ Some w) {g₂ : Option Value} (k₂ : Takes g₂ st (h - 1)) where
      pub binary_one : g₂ ≡ None → effect env (Instruction.binary op) left (entries st h) ts m ≡ stop stuck
      unfolding effect
      binary_one e₂ = rw (k.some w e).0 (k₂.none e₂ _)

      module _ {v : Value} (e₂ : g₂ ≡ Some v) where
        pub binary_wrong : suitable op v w ≡ false → effect env (Instruction.binary op) left (entries st h) ts m ≡ stop stuck
        unfolding effect
        binary_wrong f =
            rw ((k.some w e).0, (k₂.some v e₂).0)
            (unsuited (same_type (operand_type op (value_type v)) (value_type v)) (same_type (operand_type op (value_type v)) (value_type w)) _ f)

        pub binary_right : suitable op v w ≡ true
            → effect env (Instruction.binary op) left (entries st h) ts m ≡ answered (binary_of op v w) (entries st (h - 1 - 1)) ts m
        unfolding effect
        binary_right f =
            rw ((k.some w e).0, (k₂.some v e₂).0)
            (suited (same_type (operand_type op (value_type v)) (value_type v)) (same_type (operand_type op (value_type v)) (value_type w)) _ f)

-- Joining

entries_two : (st : List ℕ) (h : ℕ) → 2 ≤ h
    → entries st h ≡ joined_of (get_or st (h - 1) 0) ∷ (joined_of (get_or st (h - 2) 0) ∷ entries st (h - 2))
entries_two st h p =
    let e : h - 1 - 1 ≡ h - 2 = omega arith in
    entries_top st h (omega arith) ∙ ap (◌∷◌ (joined_of (get_or st (h - 1) 0))) (rw (← e) (entries_top st (h - 1) (omega arith)))

module _ (env : Surroundings) (left : ℕ) (m : Memory) where
  pub join_low : (st : List ℕ) (h : ℕ) (ts : List Try) → h < 2 → effect env Instruction.join left (entries st h) ts m ≡ stop stuck
  unfolding effect entries
  join_low st zero ts p = refl
  join_low st (suc zero) ts p = refl
  join_low st (suc (suc h)) ts p = absurd (omega arith)

  pub join_go : (st : List ℕ) (h e t : ℕ) → 2 ≤ h → (h ≤ length st) × (h ≤ 1024)
      → e ≡ join_cell (get_or st (h - 2) 0) (get_or st (h - 1) 0)
      → (tr : List ℕ) → (t ≤ 512) × (t * 2 ≤ length tr)
      → Moves (Ok (record { passed = 0; height = h - 1; tries = t })) 0 (set st (h - 2) e) tr m (effect env Instruction.join left (entries st h) (opened tr t) m)
  unfolding effect
  join_go st h e t p q k tr r =
      let l = length-set st (h - 2) e in
      let z : h - 1 ≡ h - 2 + 1 = omega arith in
      let b : h - 2 < length st = omega arith in
      let put : entries (set st (h - 2) e) (h - 1) ≡ joined_of e ∷ entries st (h - 2) = ap (entries (set st (h - 2) e)) z ∙ entries_put st (h - 2) e b in
      (rw (entries_two st h p, put, k, join_decoded (get_or st (h - 2) 0) (get_or st (h - 1) 0)), omega arith, record { height = omega arith; stack = omega arith; tries = r.0; pairs = r.1 })

  -- Jumps

  module _ {st : List ℕ} {h : ℕ} {g : Option Value} (k : Takes g st h) (d t : ℕ) (p : (h ≤ length st) × (h ≤ 1024) × (d < 65536))
      (tr : List ℕ) (q : (t ≤ 512) × (t * 2 ≤ length tr)) where
    pub branch_none : g ≡ None → effect env (Instruction.jump_if_no d) left (entries st h) (opened tr t) m ≡ stop stuck
    unfolding effect
    branch_none e = k.none e _

    module _ {v : Value} (e : g ≡ Some v) {r : Bool} (a : r ≡ same_type YesNo (value_type v)) where
      pub branch_other : not r ≡ true → effect env (Instruction.jump_if_no d) left (entries st h) (opened tr t) m ≡ stop stuck
      unfolding effect
      branch_other n = rw ((k.some v e).0, ← a, not-true r n)

      module _ (n : not r ≡ false) {y : Bool} (b : y ≡ truth_of v) where
        below : Room (h - 1) t st tr
        below = record { height = omega arith; stack = omega arith; tries = q.0; pairs = q.1 }

        pub branch_yes : y ≡ true → Moves (Ok (record { passed = 2; height = h - 1; tries = t })) 2 st tr m (effect env (Instruction.jump_if_no d) left (entries st h) (opened tr t) m)
        unfolding effect
        branch_yes f = (rw ((k.some v e).0, ← a, not-false r n, ← b, f), omega arith, below)

        pub branch_no : y ≡ false → Moves (Ok (record { passed = 2 + d; height = h - 1; tries = t })) 2 st tr m (effect env (Instruction.jump_if_no d) left (entries st h) (opened tr t) m)
        unfolding effect
        branch_no f = let z : 2 + d - 2 ≡ d = omega arith in (rw ((k.some v e).0, ← a, not-false r n, ← b, f, z), omega arith, below)

  module _ (st : List ℕ) (h d t : ℕ) (p : (h ≤ length st) × (h ≤ 1024) × (d < 65536)) where
    pub settle_empty : (ts : List Try) → h ≡ 0 → effect env (Instruction.settle d) left (entries st h) ts m ≡ stop stuck
    unfolding effect entries
    settle_empty ts e = rw e

    pub settle_many : (ts : List Try) → 0 < h → many_cell ≤ get_or st (h - 1) 0
        → effect env (Instruction.settle d) left (entries st h) ts m ≡ stop (ran (ended Conflict m.count))
    unfolding effect
    settle_many ts l e = rw (entries_top st h l, many_entry (get_or st (h - 1) 0) e)

    module _ (tr : List ℕ) (q : (t ≤ 512) × (t * 2 ≤ length tr)) (l : 0 < h) where
      pub settle_nothing : get_or st (h - 1) 0 ≡ 0
          → Moves (Ok (record { passed = 2; height = h - 1; tries = t })) 2 st tr m (effect env (Instruction.settle d) left (entries st h) (opened tr t) m)
      unfolding effect
      settle_nothing e =
          (rw (entries_top st h l, nothing_entry e), omega arith, record { height = omega arith; stack = omega arith; tries = q.0; pairs = q.1 })

      pub settle_value : (get_or st (h - 1) 0 ≡ 0 → ⊥) → get_or st (h - 1) 0 < many_cell
          → Moves (Ok (record { passed = 2 + d; height = h; tries = t })) 2 st tr m (effect env (Instruction.settle d) left (entries st h) (opened tr t) m)
      unfolding effect
      settle_value e f =
          let z : 2 + d - 2 ≡ d = omega arith in
          let top : entries st h ≡ One (value_of (get_or st (h - 1) 0)) ∷ entries st (h - 1) =
          entries_top st h l ∙ rw (value_entry (get_or st (h - 1) 0) e f) in
          (rw (top, z), omega arith, record { height = p.1; stack = p.0; tries = q.0; pairs = q.1 })
