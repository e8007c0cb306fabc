-- Laws of an input list read into cells.
--     can_give, fine       what holds of a variable that can be given, and of a record that is not bad
--     past, within         the tests of a variable, by type bytes and cells
--     tests                the tests of a record, those that need no variable first
--     start, turn, stop    reading goes on: at first, after a good record, at the list's end
--     room, cell           a good record is whole, and its variable has a cell
--     fault                a bad record makes the list bad
-- Assumes nothing.
use Prim.Native.Nat.{ℕ, zero, suc, ◌+◌, ◌≤◌, ◌<◌}
use mathlib.Core.Path.{◌≡◌, refl, sym, ap, ◌∙◌}
use mathlib.Core.Bool.{Bool, true, false, not, cond, ◌&&◌, ◌||◌}
use mathlib.Core.List.{List, [], ◌∷◌, map}
use mathlib.Core.Logic.{⊎_elim}
use native.Mathlib.Omega.{arith}
use native.Mathlib.Numerals.{add-one}
use lib.ListN.{length, get_or, set, drop, replicate, length-drop, length-set, length-map, get_or-map, drop_of_length-le}
use lib.Seq.{drop-cons, drop-drop, get_or-set_same, get_or-set_other}
use lib.Dec.{eqb, ltb}
use mir.Syntax.{w32}
use mir.Val.{SFits, to_z}
use borrow.Author.Tests.{lt-ltb, le-ltb, ltb-true, ltb-false, eqb-true, eqb-false, not-false}
use Rattle.std.specs.Prelude.{Option, None, Some}
use Rattle.calculus.specs.Values.{number_of}
use Rattle.slices.specs.Bytes.{big_endian, number_at}
use Rattle.laws.proofs.Booleans.{decide, neither}
use Rattle.laws.proofs.Zeros.{zeros}
use Rattle.cells.specs.Codec.{value_cell, AllKept}
use Rattle.cells.specs.Cells.{given_of, given_at}
use Rattle.cells.proofs.Variables.{given_cell, kept_nothing, kept_stored}
use Rattle.book.specs.Syntax.{same_type, type_of}
use Rattle.book.specs.declared.ValueType.{ValueType}
use Rattle.book.specs.declared.ValueType.TheVariants.{YesNo}
use Rattle.book.specs.declared.Variable.{Variable}
use Rattle.lists.specs.Inputs.{bad, input_length, input_type, input_value, is_given, cannot_give, bad_record, inputs_from, inputs}
use Rattle.lists.specs.Reading.{malformed, typed, Taken}
use Rattle.lists.proofs.Types.{typed_count, typed_at}
use Rattle.calculus.specs.declared.Value.{Value}

-- A variable that can be given, and a record that is not bad

pub record Free (variables : List Variable) (given : List (Option Value)) (t : ValueType) (v : ℕ) : Type 0 where
  pub known : v < length variables
  pub typed : same_type t (get_or variables v (record { holds = YesNo })).holds ≡ true
  pub fresh : is_given (get_or given v None) ≡ false

pub can_give : (variables : List Variable) (given : List (Option Value)) (t : ValueType) (v : ℕ) → cannot_give variables given t v ≡ false → Free variables given t v
unfolding cannot_give
can_give variables given t v e =
    let unknown = not (ltb v (length variables)) in
    let mismatch = not (same_type t (get_or variables v (record { holds = YesNo })).holds) in
    let repeated = is_given (get_or given v None) in
    let a = neither unknown (mismatch || repeated) e in
    let b = neither mismatch repeated a.1 in
    record {
      known = ltb-true v (length variables) (not-false (ltb v (length variables)) a.0);
      typed = not-false (same_type t (get_or variables v (record { holds = YesNo })).holds) b.0;
      fresh = b.1;
    }

pub record Fine (variables : List Variable) (given : List (Option Value)) (k : ℕ) (rest : List ℕ) : Type 0 where
  pub whole : input_length k ≤ length rest
  pub free : Free variables given (input_type k) (get_or rest 0 0)

pub fine : (variables : List Variable) (given : List (Option Value)) (k : ℕ) (rest : List ℕ) → bad_record variables given k rest ≡ false → Fine variables given k rest
unfolding bad_record
fine variables given k rest e =
    let cannot = cannot_give variables given (input_type k) (get_or rest 0 0) in
    let invalid = eqb k 1 && ltb 1 (get_or rest 1 0) in
    let cut = ltb (length rest) (input_length k) in
    let a = neither (eqb (input_length k) 0) (cut || (invalid || cannot)) e in
    let b = neither cut (invalid || cannot) a.1 in
    record {
      whole = ltb-false (length rest) (input_length k) b.0;
      free = can_give variables given (input_type k) (get_or rest 0 0) (neither invalid cannot b.1).1;
    }

-- a record's number is one of 32 bits
number_fits : (n : ℕ) → SFits w32 (to_z w32 n)
number_fits n = ⊎_elim (λ q. record { sfits = rw q (ltb-true n 2147483648 q) }) (λ q. record { sfits = rw q (omega (arith, ltb-false n 2147483648 q)) }) (decide (ltb n 2147483648))

value_fits : (k : ℕ) (rest : List ℕ) → SFits w32 (number_of (input_value k rest))
unfolding number_at
value_fits k rest =
    ⊎_elim (λ q. rw q (record { sfits = omega arith })) (λ q. rw q (number_fits (big_endian 4 rest 1))) (decide (eqb k 1))

-- Cells and what they hold

abbrev pub Decoded : List ℕ → List (Option Value) → Type 0
Decoded cells gs = (v : ℕ) → given_at cells v ≡ get_or gs v None

pub held_at : (cells : List ℕ) (v : ℕ) → get_or (map given_of cells) v None ≡ given_at cells v
unfolding given_at given_of
held_at cells v = get_or-map given_of cells v 0

-- the tests of a variable, by type bytes and cells
module _ (types cells : List ℕ) (t : ValueType) (v : ℕ) where
  pub past : length types ≤ v → true ≡ cannot_give (typed types) (map given_of cells) t v
  unfolding cannot_give
  past h = rw (typed_count types, le-ltb v (length types) h)

  pub within : v < length types
      → cannot_give (typed types) (map given_of cells) t v ≡ (not (same_type t (type_of (get_or types v 0))) || is_given (given_at cells v))
  unfolding cannot_give
  within h = rw (typed_count types, lt-ltb v (length types) h, typed_at types v h, held_at cells v)

-- the tests of a record, those that need no variable first
pub tests : (variables : List Variable) (given : List (Option Value)) (k : ℕ) (rest : List ℕ)
    → bad_record variables given k rest ≡ (malformed k rest || cannot_give variables given (input_type k) (get_or rest 0 0))
unfolding bad_record malformed
tests variables given k rest =
    regroup (eqb (input_length k) 0) (ltb (length rest) (input_length k)) (eqb k 1 && ltb 1 (get_or rest 1 0)) _
  where
    regroup : (a b c d : Bool) → (a || (b || (c || d))) ≡ ((a || (b || c)) || d)
    regroup true b c d = refl
    regroup false true c d = refl
    regroup false false c d = refl

same_record : (variables : List Variable) (cells : List ℕ) (gs : List (Option Value)) (k : ℕ) (rest : List ℕ) → Decoded cells gs
    → bad_record variables gs k rest ≡ bad_record variables (map given_of cells) k rest
unfolding bad_record cannot_give
same_record variables cells gs k rest d = rw (held_at cells (get_or rest 0 0), d (get_or rest 0 0))

stored : (cells : List ℕ) (gs : List (Option Value)) (v c : ℕ) (g : Option Value) → v < length cells → v < length gs → given_of c ≡ g → Decoded cells gs
    → Decoded (set cells v c) (set gs v g)
unfolding given_at
stored cells gs v c g h l e d w =
    ⊎_elim
    (λ q.
    let same : w ≡ v = eqb-true w v q in
    rw (same, get_or-set_same cells v c 0 h, get_or-set_same gs v g None l) e)
    (λ q.
    let other : w ≡ v → ⊥ = eqb-false w v q in
    rw (get_or-set_other cells v w c 0 other, get_or-set_other gs v w g None other) (d w))
    (decide (eqb w v))

-- Reading on

skip : (variables : List Variable) (n : ℕ) (l : List ℕ) (gs : List (Option Value)) → n ≤ length l → inputs_from variables l n gs ≡ inputs_from variables (drop n l) 0 gs
unfolding inputs_from
skip variables zero l gs h = refl
skip variables (suc n) [] gs h = absurd (omega arith)
skip variables (suc n) (x ∷ l) gs h = skip variables n l gs (omega arith)

-- the list up to a position is read, and the cells hold what it gives
pub record Read (variables : List Variable) (bytes cells : List ℕ) (at : ℕ) : Type 0 where
  pub givens : List (Option Value)
  pub rest : inputs_from variables (drop at bytes) 0 givens ≡ inputs variables bytes
  pub number : length givens ≡ length variables
  pub decoded : Decoded cells givens
  pub kept : AllKept cells
  pub inside : at ≤ length bytes
  pub size : length cells ≡ 32

pub start : (variables : List Variable) (bytes : List ℕ) {cells : List ℕ} → cells ≡ replicate 32 0 → Read variables bytes cells 0
unfolding inputs given_at given_of
start variables bytes e =
    record {
      givens = map (λ v. None) variables;
      rest = refl;
      number = length-map variables (λ v. None);
      decoded = λ v. rw (e, zeros 32 v) (sym (get_or-map (λ (x : Variable). None) variables v (record { holds = YesNo })));
      kept = λ v. rw (e, zeros 32 v) kept_nothing;
      inside = omega arith;
      size = rw e refl;
    }

module _ {variables : List Variable} {bytes cells : List ℕ} {at : ℕ} (r : Read variables bytes cells at) where
  pub stop : length bytes ≤ at → Taken variables bytes cells
  unfolding inputs_from
  stop h =
      record {
        givens = r.givens;
        list = sym r.rest ∙ rw (drop_of_length-le bytes h);
        number = r.number;
        decoded = r.decoded;
        kept = r.kept;
      }

  module _ (within : at < length bytes) where
    step : inputs_from variables (drop at bytes) 0 r.givens
        ≡ cond (bad_record variables (map given_of cells) (get_or bytes at 0) (drop (at + 1) bytes)) bad
        (inputs_from variables (drop (at + 1) bytes) (input_length (get_or bytes at 0))
        (set r.givens (get_or (drop (at + 1) bytes) 0 0) (Some (input_value (get_or bytes at 0) (drop (at + 1) bytes)))))
    unfolding inputs_from
    step = rw (drop-cons bytes at 0 within, add-one at, same_record variables cells r.givens (get_or bytes at 0) (drop (suc at) bytes) r.decoded)

    pub fault : bad_record variables (map given_of cells) (get_or bytes at 0) (drop (at + 1) bytes) ≡ true → inputs variables bytes ≡ bad
    fault e = sym r.rest ∙ step ∙ rw e

    module _ (few : length variables ≤ 32) (e : bad_record variables (map given_of cells) (get_or bytes at 0) (drop (at + 1) bytes) ≡ false) where
      f : Fine variables (map given_of cells) (get_or bytes at 0) (drop (at + 1) bytes)
      f = fine variables (map given_of cells) (get_or bytes at 0) (drop (at + 1) bytes) e

      pub room : at + 1 + input_length (get_or bytes at 0) ≤ length bytes
      room = let w = f.whole in let l = length-drop (at + 1) bytes in omega arith

      pub cell : get_or (drop (at + 1) bytes) 0 0 < length cells
      cell = let k = f.free.known in let s = r.size in omega arith

      pub turn :
          Read variables bytes
          (set cells (get_or (drop (at + 1) bytes) 0 0) (value_cell (input_value (get_or bytes at 0) (drop (at + 1) bytes))))
          (at + 1 + input_length (get_or bytes at 0))
      turn =
          let k = get_or bytes at 0 in
          let rest = drop (at + 1) bytes in
          let v = get_or rest 0 0 in
          let c = value_cell (input_value k rest) in
          let g = Some (input_value k rest) in
          let here : v < length r.givens = rw r.number f.free.known in
          record {
            givens = set r.givens v g;
            rest =
                ap (λ (l : List ℕ). inputs_from variables l 0 (set r.givens v g)) (sym (drop-drop (input_length k) (at + 1) bytes))
                ∙ sym (skip variables (input_length k) rest (set r.givens v g) f.whole)
                ∙ sym (step ∙ rw e)
                ∙ r.rest;
            number = length-set r.givens v g ∙ r.number;
            decoded = stored cells r.givens v c g cell here (given_cell (input_value k rest) (value_fits k rest)) r.decoded;
            kept = kept_stored cells v (input_value k rest) (value_fits k rest) r.kept;
            inside = room;
            size = length-set cells v c ∙ r.size;
          }
