-- What a good list gives.
--     good_number  a good list says of each variable whether it is given
--     good_typed   what is given has its variable's type
--     good_short   a good list has at most 6 bytes a variable
--     good_more    a good list with more bytes behind it: they are read on with what it gives
-- Assumes nothing.
use Prim.Native.Nat.{ℕ, zero, suc, ◌+◌, ◌*◌, ◌≤◌, ◌<◌}
use mathlib.Core.Path.{◌≡◌, refl, sym, ap, ◌∙◌}
use mathlib.Core.Bool.{Bool, true, false, false≢true, cond}
use mathlib.Core.List.{List, [], ◌∷◌, ◌++◌, map}
use mathlib.Core.Logic.{⊎_elim}
use native.Mathlib.Omega.{arith}
use lib.ListN.{length, get_or, set, length-append, length-set, length-map, get_or-append, get_or-map}
use lib.Seq.{get_or-set_same, get_or-set_other}
use lib.Dec.{eqb, ltb}
use borrow.Author.Tests.{le-ltb, eqb-true, eqb-false}
use Rattle.std.specs.Prelude.{Option, None, Some}
use Rattle.calculus.specs.declared.Value.{Value}
use Rattle.slices.specs.Bytes.{big_endian, number_at}
use Rattle.laws.proofs.Booleans.{decide, neither}
use Rattle.book.specs.declared.ValueType.{ValueType}
use Rattle.book.specs.declared.ValueType.TheVariants.{YesNo}
use Rattle.book.specs.declared.Variable.{Variable}
use Rattle.book.proofs.Same.{same_type_lem}
use Rattle.lists.specs.Inputs.{Inputs, bad, good, input_length, input_type, input_value, is_given, cannot_give, bad_record, inputs_from, inputs}
use Rattle.lists.specs.Writing.{value_type}
use Rattle.lists.proofs.Reading.{Fine, fine}

-- Types

abbrev type_at : List Variable → ℕ → ValueType
type_at variables v = (get_or variables v (record { holds = YesNo })).holds

-- what is given has its variable's type
record Suited (variables : List Variable) (gs : List (Option Value)) : Type 0 where
  number : length gs ≡ length variables
  typed : (v : ℕ) (x : Value) → get_or gs v None ≡ Some x → value_type x ≡ type_at variables v

value_type_lem : (k : ℕ) (rest : List ℕ) → value_type (input_value k rest) ≡ input_type k
value_type_lem k rest = ⊎_elim (λ q. rw q) (λ q. rw q) (decide (eqb k 1))

-- the variables before any record
none_given : (variables : List Variable) → Suited variables (map (λ v. None) variables)
none_given variables =
    record {
      number = length-map variables (λ v. None);
      typed =
          λ v x e.
          let none : None ≡ Some x = sym (get_or-map (λ (y : Variable). None) variables v (record { holds = YesNo })) ∙ e in
          cc;
    }

-- one record more
one_given : (variables : List Variable) (gs : List (Option Value)) (k : ℕ) (rest : List ℕ) → Fine variables gs k rest → Suited variables gs
    → Suited variables (set gs (get_or rest 0 0) (Some (input_value k rest)))
one_given variables gs k rest f h =
    let u = get_or rest 0 0 in
    let g = Some (input_value k rest) in
    record {
      number = length-set gs u g ∙ h.number;
      typed =
          λ v x e.
          ⊎_elim
          (λ q.
          let same : v ≡ u = eqb-true v u q in
          let here : get_or (set gs u g) u None ≡ g = get_or-set_same gs u g None (rw h.number f.free.known) in
          let p : get_or (set gs u g) u None ≡ Some x = ap (λ (w : ℕ). get_or (set gs u g) w None) (sym same) ∙ e in
          let y : input_value k rest ≡ x = cc in
          rw (same, ← y) (value_type_lem k rest ∙ same_type_lem (input_type k) (type_at variables u) f.free.typed))
          (λ q. h.typed v x (sym (get_or-set_other gs u v g None (eqb-false v u q)) ∙ e))
          (decide (eqb v u));
    }

-- a record: the rest of the list after it, where the list is good
module _ (variables : List Variable) (k : ℕ) (rest : List ℕ) (gs end : List (Option Value)) where
  abbrev after : Inputs
  after = inputs_from variables rest (input_length k) (set gs (get_or rest 0 0) (Some (input_value k rest)))

  passed : cond (bad_record variables gs k rest) bad after ≡ good end → (Fine variables gs k rest) × (after ≡ good end)
  passed e =
      ⊎_elim
      (λ q. let b = rw q at e in cc)
      (λ q. (fine variables gs k rest q, rw q at e))
      (decide (bad_record variables gs k rest))

suited_from : (variables : List Variable) (bytes : List ℕ) (n : ℕ) (gs end : List (Option Value)) → Suited variables gs → inputs_from variables bytes n gs ≡ good end
    → Suited variables end
unfolding inputs_from
suited_from variables [] n gs end h e = let p : gs ≡ end = cc in rw (← p) h
suited_from variables (k ∷ rest) zero gs end h e =
    let p = passed variables k rest gs end e in
    suited_from variables rest (input_length k) (set gs (get_or rest 0 0) (Some (input_value k rest))) end (one_given variables gs k rest p.0 h) p.1
suited_from variables (b ∷ rest) (suc n) gs end h e = suited_from variables rest n gs end h e

-- Length

-- how many variables are not given
unset : List (Option Value) → ℕ
unset [] = 0
unset (None ∷ gs) = suc (unset gs)
unset (Some x ∷ gs) = unset gs

unset_all : (variables : List Variable) → unset (map (λ v. None) variables) ≡ length variables
unfolding unset
unset_all [] = refl
unset_all (v ∷ vs) = ap suc (unset_all vs)

unset_less : (gs : List (Option Value)) (v : ℕ) (x : Value) → v < length gs → is_given (get_or gs v None) ≡ false → unset gs ≡ suc (unset (set gs v (Some x)))
unfolding unset
unset_less [] v x h e = absurd (omega arith)
unset_less (None ∷ gs) zero x h e = refl
unset_less (Some y ∷ gs) zero x h e = absurd (false≢true (sym e))
unset_less (None ∷ gs) (suc v) x h e = ap suc (unset_less gs v x (omega arith) e)
unset_less (Some y ∷ gs) (suc v) x h e = unset_less gs v x (omega arith) e

length_small : (k : ℕ) → input_length k ≤ 5
length_small k = small (eqb k 1) (eqb k 2)
  where
    small : (a b : Bool) → cond a 2 (cond b 5 0) ≤ 5
    small true b = omega arith
    small false true = omega arith
    small false false = omega arith

short_from : (variables : List Variable) (bytes : List ℕ) (n : ℕ) (gs end : List (Option Value)) → length gs ≡ length variables
    → inputs_from variables bytes n gs ≡ good end → length bytes ≤ n + 6 * unset gs
unfolding inputs_from
short_from variables [] n gs end l e = omega arith
short_from variables (k ∷ rest) zero gs end l e =
    let p = passed variables k rest gs end e in
    let v = get_or rest 0 0 in
    let x = input_value k rest in
    let here : v < length gs = rw l p.0.free.known in
    let less = unset_less gs v x here p.0.free.fresh in
    let more = short_from variables rest (input_length k) (set gs v (Some x)) end (length-set gs v (Some x) ∙ l) p.1 in
    let s = length_small k in
    omega arith
short_from variables (b ∷ rest) (suc n) gs end l e = let more = short_from variables rest n gs end l e in omega arith

module _ (variables : List Variable) (bytes : List ℕ) (gs : List (Option Value)) (e : inputs variables bytes ≡ good gs) where
  suited : Suited variables gs
  unfolding inputs
  suited = suited_from variables bytes 0 (map (λ v. None) variables) gs (none_given variables) e

  pub good_number : length gs ≡ length variables
  good_number = suited.number

  pub good_typed : (v : ℕ) (x : Value) → get_or gs v None ≡ Some x → value_type x ≡ (get_or variables v (record { holds = YesNo })).holds
  good_typed = suited.typed

  pub good_short : length bytes ≤ 6 * length variables
  unfolding inputs
  good_short =
      let s = short_from variables bytes 0 (map (λ v. None) variables) gs (length-map variables (λ v. None)) e in
      let u = unset_all variables in
      omega arith

-- More bytes behind a list

-- a record that is not bad is whole: what stands behind it changes nothing of it
module _ (variables : List Variable) (gs : List (Option Value)) (k : ℕ) (rest more : List ℕ) (e : bad_record variables gs k rest ≡ false) where
  kind_known : eqb (input_length k) 0 ≡ false
  unfolding bad_record
  kind_known = (neither (eqb (input_length k) 0) _ e).0

  within : (i : ℕ) → i < input_length k → get_or (rest ++ more) i 0 ≡ get_or rest i 0
  within i l = get_or-append rest more 0 i (omega (arith, l, (fine variables gs k rest e).whole))

  long : 2 ≤ input_length k
  long = two (eqb k 1) (eqb k 2) kind_known
    where
      two : (a b : Bool) → eqb (cond a 2 (cond b 5 0)) 0 ≡ false → 2 ≤ cond a 2 (cond b 5 0)
      two true b h = omega arith
      two false true h = omega arith
      two false false h = absurd (false≢true (sym h))

  record_more : bad_record variables gs k (rest ++ more) ≡ false
  unfolding bad_record cannot_give
  record_more =
      let whole = (fine variables gs k rest e).whole in
      let cut : ltb (length (rest ++ more)) (input_length k) ≡ false =
      le-ltb (length (rest ++ more)) (input_length k) (omega (arith, whole, length-append rest more)) in
      let a = (neither (eqb (input_length k) 0) _ e).1 in
      let b = (neither (ltb (length rest) (input_length k)) _ a).1 in
      rw (kind_known, cut, within 0 (omega (arith, long)), within 1 (omega (arith, long))) b

  value_more : input_value k (rest ++ more) ≡ input_value k rest
  unfolding number_at big_endian
  value_more =
      ⊎_elim
      (λ (q : eqb k 1 ≡ true). rw (q, within 1 (omega (arith, long))))
      (λ (q : eqb k 1 ≡ false).
      ⊎_elim
      (λ (h : eqb k 2 ≡ true).
      let five : input_length k ≡ 5 = rw (q, h) in
      rw (q, within 1 (omega (arith, five)), within 2 (omega (arith, five)), within 3 (omega (arith, five)), within 4 (omega (arith, five))))
      (λ (h : eqb k 2 ≡ false). let none : input_length k ≡ 0 = rw (q, h) in absurd (omega (arith, long, none)))
      (decide (eqb k 2)))
      (decide (eqb k 1))

  target_more : get_or (rest ++ more) 0 0 ≡ get_or rest 0 0
  target_more = within 0 (omega (arith, long))

more_from : (variables : List Variable) (bytes more : List ℕ) (n : ℕ) (gs end : List (Option Value)) → n ≤ length bytes
    → inputs_from variables bytes n gs ≡ good end → inputs_from variables (bytes ++ more) n gs ≡ inputs_from variables more 0 end
unfolding inputs_from
more_from variables [] more zero gs end l e = let p : gs ≡ end = cc in rw p
more_from variables [] more (suc n) gs end l e = absurd (omega arith)
more_from variables (k ∷ rest) more zero gs end l e =
    ⊎_elim
    (λ (q : bad_record variables gs k rest ≡ true). let b = rw q at e in cc)
    (λ (q : bad_record variables gs k rest ≡ false).
    let r = more_from variables rest more (input_length k) (set gs (get_or rest 0 0) (Some (input_value k rest))) end (fine variables gs k rest q).whole (rw q at e) in
    rw (record_more variables gs k rest more q, value_more variables gs k rest more q, target_more variables gs k rest more q) r)
    (decide (bad_record variables gs k rest))
more_from variables (b ∷ rest) more (suc n) gs end l e = more_from variables rest more n gs end (omega arith) e

pub good_more : (variables : List Variable) (bytes more : List ℕ) (gs : List (Option Value)) → inputs variables bytes ≡ good gs
    → inputs variables (bytes ++ more) ≡ inputs_from variables more 0 gs
unfolding inputs
good_more variables bytes more gs e = more_from variables bytes more 0 (map (λ v. None) variables) gs (omega arith) e
