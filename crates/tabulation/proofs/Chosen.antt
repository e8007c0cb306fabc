-- Chosen variables, and their order.
--     order_repeated        in order none stands twice
--     order_among           in order stand the chosen ones that the scope has
--     order_ascending       each is lower than those after it
--     handed_in_any_order   two lists with the same members have one order
--     chosen_few            of a list that is not refused: at most 12
--     chosen_fit            each is a yes/no variable of the scope that the fixed list does not give
--     chosen_count          in order stand as many
--     order_fit             and none of them is unfit
-- Assumes nothing.
use Prim.Native.Nat.{ℕ, zero, suc, ◌+◌, ◌≤◌, ◌<◌}
use mathlib.Core.Path.{◌≡◌, refl, sym, ap, ◌∙◌}
use mathlib.Core.Bool.{Bool, true, false, not, ◌&&◌, ◌||◌, false≢true, or-true}
use mathlib.Core.List.{List, [], ◌∷◌}
use mathlib.Core.Logic.{⊎_elim}
use native.Mathlib.Omega.{arith}
use lib.ListN.{length, get_or}
use lib.Dec.{eqb, ltb}
use borrow.Author.Tests.{ltb-true, ltb-false, lt-ltb, eqb-true, eqb-false, eq-eqb, ne_eqb, not-false}
use Rattle.std.specs.Prelude.{Option}
use Rattle.laws.proofs.Booleans.{decide, both, or_cases, neither, both_ways, untrue}
use Rattle.book.specs.Lists.{any}
use Rattle.order.proofs.Among.{among_at}
use Rattle.book.specs.declared.ValueType.TheVariants.{YesNo}
use Rattle.book.specs.declared.Variable.{Variable}
use Rattle.lists.proofs.Reading.{Free, can_give}
use Rattle.order.specs.Order.{among}
use Rattle.book.specs.Sharing.{repeats}
use Rattle.tabulation.specs.Chosen.{unfit, bad_choice, chosen_from, in_order}
use Rattle.calculus.specs.declared.Value.{Value}

-- Members

-- what no member has, a member has not
among_lacks : (p : ℕ → Bool) (vs : List ℕ) (v : ℕ) → any p vs ≡ false → among vs v ≡ true → p v ≡ false
unfolding any among
among_lacks p [] v none here = absurd (false≢true here)
among_lacks p (w ∷ vs) v none here =
    let n = neither (p w) (any p vs) none in
    ⊎_elim
    (λ (q : eqb v w ≡ true). ap p (eqb-true v w q) ∙ n.0)
    (λ (q : among vs v ≡ true). among_lacks p vs v n.1 q)
    (or_cases (eqb v w) (among vs v) here)

-- The order

module _ (chosen : List ℕ) where
  -- each number in order is chosen and in the span of the variables
  order_within : (v : ℕ) (xs : List Variable) (w : ℕ) → among (chosen_from chosen v xs) w ≡ true → (among chosen w ≡ true) × (v ≤ w) × (w < v + length xs)
  unfolding among any chosen_from
  order_within v [] w here = absurd (false≢true here)
  order_within v (x ∷ xs) w here =
      let rest : among (chosen_from chosen (suc v) xs) w ≡ true → (among chosen w ≡ true) × (v ≤ w) × (w < v + suc (length xs)) =
      λ e. let r = order_within (suc v) xs w e in (r.0, omega (arith, r.1), omega (arith, r.2)) in
      ⊎_elim
      (λ (q : among chosen v ≡ true).
      let h : (eqb w v || among (chosen_from chosen (suc v) xs) w) ≡ true = rw q at here in
      ⊎_elim
      (λ (e : eqb w v ≡ true). let s : w ≡ v = eqb-true w v e in (rw s q, omega arith, omega arith))
      rest
      (or_cases (eqb w v) (among (chosen_from chosen (suc v) xs) w) h))
      (λ (q : among chosen v ≡ false). rest (rw q at here))
      (decide (among chosen v))

  -- and each chosen one in the span is in order
  order_has : (v : ℕ) (xs : List Variable) (w : ℕ) → among chosen w ≡ true → v ≤ w → w < v + length xs → among (chosen_from chosen v xs) w ≡ true
  unfolding among any chosen_from
  order_has v [] w c l h = absurd (omega arith)
  order_has v (x ∷ xs) w c l h =
      ⊎_elim
      (λ (e : eqb w v ≡ true). let s : w ≡ v = eqb-true w v e in let q : among chosen v ≡ true = ap (among chosen) (sym s) ∙ c in rw (q, e))
      (λ (e : eqb w v ≡ false).
      let r = order_has (suc v) xs w c (omega (arith, l, eqb-false w v e)) (omega arith) in
      ⊎_elim (λ (q : among chosen v ≡ true). rw (q, r) (or-true (eqb w v))) (λ (q : among chosen v ≡ false). rw (q, r)) (decide (among chosen v)))
      (decide (eqb w v))

  -- none below v is among those from v on
  order_later : (v : ℕ) (xs : List Variable) (w : ℕ) → w < v → among (chosen_from chosen v xs) w ≡ false
  order_later v xs w l = untrue (among (chosen_from chosen v xs) w) (λ e. let r = order_within v xs w e in omega (arith, r.1))

  once_from : (v : ℕ) (xs : List Variable) → repeats (chosen_from chosen v xs) ≡ false
  unfolding repeats chosen_from
  once_from v [] = refl
  once_from v (x ∷ xs) =
      let rest = once_from (suc v) xs in
      ⊎_elim
      (λ (q : among chosen v ≡ true). rw (q, order_later (suc v) xs v (omega arith), rest))
      (λ (q : among chosen v ≡ false). rw (q, rest))
      (decide (among chosen v))

  lacks_from : (p : ℕ → Bool) → any p chosen ≡ false → (v : ℕ) (xs : List Variable) → any p (chosen_from chosen v xs) ≡ false
  unfolding any chosen_from
  lacks_from p none v [] = refl
  lacks_from p none v (x ∷ xs) =
      let rest = lacks_from p none (suc v) xs in
      ⊎_elim
      (λ (q : among chosen v ≡ true). rw (q, among_lacks p chosen v none q, rest))
      (λ (q : among chosen v ≡ false). rw (q, rest))
      (decide (among chosen v))

  pub order_repeated : (variables : List Variable) → repeats (in_order chosen variables) ≡ false
  order_repeated variables = once_from 0 variables

  pub order_among : (variables : List Variable) (v : ℕ) → among (in_order chosen variables) v ≡ (among chosen v && ltb v (length variables))
  order_among variables v =
      both_ways (among (in_order chosen variables) v) (among chosen v && ltb v (length variables))
      (λ e.
      let r = order_within 0 variables v e in
      rw (r.0, lt-ltb v (length variables) (omega (arith, r.2))))
      (λ e.
      let b = both (among chosen v) (ltb v (length variables)) e in
      order_has 0 variables v b.0 (omega arith) (omega (arith, ltb-true v (length variables) b.1)))

  -- what stands at a place is v at least
  at_least : (v : ℕ) (xs : List Variable) (j : ℕ) → j < length (chosen_from chosen v xs) → v ≤ get_or (chosen_from chosen v xs) j 0
  at_least v xs j l = (order_within v xs (get_or (chosen_from chosen v xs) j 0) (among_at (chosen_from chosen v xs) j l)).1

  ascending_from : (v : ℕ) (xs : List Variable) (i j : ℕ) → i < j → j < length (chosen_from chosen v xs)
      → get_or (chosen_from chosen v xs) i 0 < get_or (chosen_from chosen v xs) j 0
  unfolding chosen_from
  ascending_from v [] i j l h = absurd (omega arith)
  ascending_from v (x ∷ xs) i j l h =
      let rest = ascending_from (suc v) xs in
      ⊎_elim
      (λ (q : among chosen v ≡ true). rw q (first rest i j l (rw q at h)))
      (λ (q : among chosen v ≡ false). rw q (rest i j l (rw q at h)))
      (decide (among chosen v))
    where
      later : List ℕ
      later = chosen_from chosen (suc v) xs

      first : ((i j : ℕ) → i < j → j < length later → get_or later i 0 < get_or later j 0)
          → (i j : ℕ) → i < j → j < suc (length later) → get_or (v ∷ later) i 0 < get_or (v ∷ later) j 0
      first rest i zero l h = absurd (omega arith)
      first rest zero (suc j) l h = at_least (suc v) xs j (omega arith)
      first rest (suc i) (suc j) l h = rest i j (omega arith) (omega arith)

  -- "The lowest-numbered chosen variable" comes first
  pub order_ascending : (variables : List Variable) (i j : ℕ) → i < j → j < length (in_order chosen variables)
      → get_or (in_order chosen variables) i 0 < get_or (in_order chosen variables) j 0
  order_ascending variables = ascending_from 0 variables

-- Two lists

same_from : (a b : List ℕ) (v : ℕ) (xs : List Variable) → ((w : ℕ) → v ≤ w → among a w ≡ among b w) → chosen_from a v xs ≡ chosen_from b v xs
unfolding chosen_from
same_from a b v [] h = refl
same_from a b v (x ∷ xs) h = rw (h v (omega arith), same_from a b (suc v) xs (λ w l. h w (omega arith)))

pub handed_in_any_order : (variables : List Variable) (a b : List ℕ) → ((v : ℕ) → among a v ≡ among b v) → in_order a variables ≡ in_order b variables
handed_in_any_order variables a b h = same_from a b 0 variables (λ w l. h w)

-- How many

module _ (c : ℕ) (cs : List ℕ) where
  other_one : (w : ℕ) → (w ≡ c → ⊥) → among (c ∷ cs) w ≡ among cs w
  unfolding among any
  other_one w n = rw (ne_eqb w c n)

  this_one : among (c ∷ cs) c ≡ true
  unfolding among any
  this_one = rw (eq-eqb c c refl)

  -- one chosen variable more
  one_more : (v : ℕ) (xs : List Variable) → among cs c ≡ false → v ≤ c → c < v + length xs
      → length (chosen_from (c ∷ cs) v xs) ≡ suc (length (chosen_from cs v xs))
  unfolding chosen_from
  one_more v [] new l h = absurd (omega arith)
  one_more v (x ∷ xs) new l h =
      ⊎_elim
      (λ (e : eqb v c ≡ true).
      let s : v ≡ c = eqb-true v c e in
      let here : among (c ∷ cs) v ≡ true = rw s this_one in
      let old : among cs v ≡ false = rw s new in
      rw (here, old, same_from (c ∷ cs) cs (suc v) xs (λ w k. other_one w (λ z. omega arith))))
      (λ (e : eqb v c ≡ false).
      let n : v ≡ c → ⊥ = eqb-false v c e in
      let r = one_more (suc v) xs new (omega arith) (omega arith) in
      ⊎_elim
      (λ (q : among cs v ≡ true). rw (other_one v n, q) (ap suc r))
      (λ (q : among cs v ≡ false). rw (other_one v n, q) r)
      (decide (among cs v)))
      (decide (eqb v c))

none_chosen : (v : ℕ) (xs : List Variable) → chosen_from [] v xs ≡ []
unfolding chosen_from among any
none_chosen v [] = refl
none_chosen v (x ∷ xs) = none_chosen (suc v) xs

count_order : (variables : List Variable) (chosen : List ℕ) → repeats chosen ≡ false → any (λ v. not (ltb v (length variables))) chosen ≡ false
    → length (in_order chosen variables) ≡ length chosen
unfolding repeats any
count_order variables [] once known = ap length (none_chosen 0 variables)
count_order variables (c ∷ cs) once known =
    let o = neither (among cs c) (repeats cs) once in
    let k = neither (not (ltb c (length variables))) (any (λ v. not (ltb v (length variables))) cs) known in
    let here = ltb-true c (length variables) (not-false (ltb c (length variables)) k.0) in
    one_more c cs 0 variables o.0 (omega arith) (omega (arith, here)) ∙ ap suc (count_order variables cs o.1 k.1)

-- Lists that are not refused

known_from : (variables : List Variable) (fixed : List (Option Value)) (chosen : List ℕ) → any (unfit variables fixed) chosen ≡ false
    → any (λ v. not (ltb v (length variables))) chosen ≡ false
unfolding any
known_from variables fixed [] e = refl
known_from variables fixed (c ∷ cs) e =
    let n = neither (unfit variables fixed c) (any (unfit variables fixed) cs) e in
    rw (lt-ltb c (length variables) (can_give variables fixed YesNo c n.0).known, known_from variables fixed cs n.1)

module _ (variables : List Variable) (fixed : List (Option Value)) (chosen : List ℕ) (ok : bad_choice variables fixed chosen ≡ false) where
  tests : (ltb 12 (length chosen) ≡ false) × (repeats chosen ≡ false) × (any (unfit variables fixed) chosen ≡ false)
  unfolding bad_choice
  tests =
      let a = neither (ltb 12 (length chosen)) (repeats chosen || any (unfit variables fixed) chosen) ok in
      let b = neither (repeats chosen) (any (unfit variables fixed) chosen) a.1 in
      (a.0, b.0, b.1)

  pub chosen_few : length chosen ≤ 12
  chosen_few = ltb-false 12 (length chosen) tests.0

  pub chosen_fit : (v : ℕ) → among chosen v ≡ true → Free variables fixed YesNo v
  chosen_fit v here = can_give variables fixed YesNo v (among_lacks (unfit variables fixed) chosen v tests.2 here)

  pub chosen_count : length (in_order chosen variables) ≡ length chosen
  chosen_count = count_order variables chosen tests.1 (known_from variables fixed chosen tests.2)

  pub order_fit : any (unfit variables fixed) (in_order chosen variables) ≡ false
  order_fit = lacks_from chosen (unfit variables fixed) tests.2 0 variables
