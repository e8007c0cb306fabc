-- Cells written, and lists read from cells.
--     valued, ends_by                     what a cell is of, by one comparison
--     stored                              a value put into a cell is held there
--     givens_at_lem, givens-list              what is given, as a list
--     values_at, values-held              the values that cells hold, as a list
--     kept_none, kept-taken, ..           cells that are nothing or a value's stay so
--     pasted_length, pasted-in, ..        cells of which a part is put in place of another
-- Assumes nothing.
use Prim.Native.Nat.{ℕ, zero, suc, ◌+◌, ◌-◌, ◌<◌, ◌≤◌}
use mathlib.Core.Path.{◌≡◌, refl, sym, ap, ◌∙◌}
use mathlib.Core.Bool.{false}
use mathlib.Core.List.{List, [], ◌∷◌, ◌++◌, map}
use native.Mathlib.Omega.{arith}
use lib.ListN.{length, get_or, set, take, drop, replicate, length-set, length-append, length-drop, get_or-append}
use lib.Seq.{get_or-set_same, get_or-set_other, get_or-append-add, length-take-le, get_or-take, get_or-drop}
use Rattle.std.specs.Prelude.{Result, Ok, Err, Option, None, Some}
use Rattle.calculus.specs.declared.Value.{Value}
use Rattle.calculus.specs.declared.Value.TheVariants.{Truth}
use Rattle.cells.specs.Codec.{empty_cell, cell_of, cause_of, Codes, Kept, AllKept}
use Rattle.cells.specs.Cells.{given_of, given_at, held}
use Rattle.cells.proofs.Codec.{cause_decoded, no_end, no_value_lem}
use Rattle.cells.proofs.Variables.{given_cell, kept_nothing, kept_value}
use Rattle.lists.specs.Writing.{values_from}
use Rattle.scopes.specs.Steps.{givens_from}
use Rattle.answers.specs.declared.Cause.{Cause}

-- a value is in a cell, and the others are as they were
pub record Stored (before : List ℕ) (at : ℕ) (v : Value) (after : List ℕ) : Type 0 where
  pub size : length after ≡ length before
  pub here : given_at after at ≡ Some v
  pub there : (x : ℕ) → (x ≡ at → ⊥) → given_at after x ≡ given_at before x

-- a cell below every end is a value's
pub record Valued (c : ℕ) (o : Result Value Cause) : Type 0 where
  pub value : Value
  pub gives : o ≡ Ok value
  pub held : given_of c ≡ Some value
  pub kept : Kept c

pub valued : (o : Result Value Cause) (c : ℕ) → Codes c o → c < empty_cell → Valued c o
unfolding cell_of
valued (Ok v) c h l = record { value = v; gives = refl; held = ap given_of h.is ∙ given_cell v h.fits; kept = kept_value c v h }
valued (Err k) c h l = no_value_lem k c h l

pub ends_by : (o : Result Value Cause) (c : ℕ) → Codes c o → empty_cell ≤ c → o ≡ Err (cause_of c)
unfolding cell_of
ends_by (Ok v) c h l = no_end v c h l
ends_by (Err k) c h l = ap Err (sym (ap cause_of h.is ∙ cause_decoded k))

pub stored : {o : Result Value Cause} (xs : List ℕ) (at c : ℕ) (v : Valued c o) → at < length xs → Stored xs at v.value (set xs at c)
unfolding given_at
stored xs at c v l =
    record {
      size = length-set xs at c;
      here = ap given_of (get_or-set_same xs at c 0 l) ∙ v.held;
      there = λ x ne. ap given_of (get_or-set_other xs at x c 0 ne);
    }

-- cells that are nothing or a value's, taken apart and put together
pub kept_none : (n : ℕ) → AllKept (replicate n 0)
kept_none zero x = kept_nothing
kept_none (suc n) zero = kept_nothing
kept_none (suc n) (suc x) = kept_none n x

pub kept_taken : (n : ℕ) (xs : List ℕ) → AllKept xs → AllKept (take n xs)
kept_taken zero xs h x = kept_nothing
kept_taken (suc n) [] h x = kept_nothing
kept_taken (suc n) (y ∷ xs) h zero = h zero
kept_taken (suc n) (y ∷ xs) h (suc x) = kept_taken n xs (λ x. h (suc x)) x

pub kept_dropped : (n : ℕ) (xs : List ℕ) → AllKept xs → AllKept (drop n xs)
kept_dropped n xs h x = rw (get_or-drop n xs x 0) (h (n + x))

kept_appended : (xs ys : List ℕ) → AllKept xs → AllKept ys → AllKept (xs ++ ys)
kept_appended [] ys h k x = k x
kept_appended (z ∷ xs) ys h k zero = h zero
kept_appended (z ∷ xs) ys h k (suc x) = kept_appended xs ys (λ x. h (suc x)) k x

-- what given cells hold, as a list
pub givens_at_lem : (cells : List ℕ) (v n x : ℕ) → x < n → get_or (givens_from cells v n) x None ≡ given_at cells (v + x)
unfolding givens_from
givens_at_lem cells v zero x l = absurd (omega arith)
givens_at_lem cells v (suc n) zero l = let e : v + 0 ≡ v = omega arith in ap (given_at cells) (sym e)
givens_at_lem cells v (suc n) (suc x) l =
    let e : suc v + x ≡ v + suc x = omega arith in
    givens_at_lem cells (suc v) n x (omega arith) ∙ ap (given_at cells) e

pub givens_list : (cells : List ℕ) (v : ℕ) (gs : List (Option Value)) → ((x : ℕ) → given_at cells (v + x) ≡ get_or gs x None) → givens_from cells v (length gs) ≡ gs
unfolding givens_from
givens_list cells v [] h = refl
givens_list cells v (g ∷ gs) h =
    let e : v + 0 ≡ v = omega arith in
    let here : given_at cells v ≡ g = ap (given_at cells) (sym e) ∙ h 0 in
    let more : (x : ℕ) → given_at cells (suc v + x) ≡ get_or gs x None = λ x. let d : suc v + x ≡ v + suc x = omega arith in ap (given_at cells) d ∙ h (suc x) in
    rw (here, givens_list cells (suc v) gs more)

-- values in cells
pub values_at : (cells : List ℕ) (v n x : ℕ) → x < n → get_or (values_from cells v n) x (Truth false) ≡ held (given_at cells (v + x))
unfolding values_from
values_at cells v zero x l = absurd (omega arith)
values_at cells v (suc n) zero l = let e : v + 0 ≡ v = omega arith in ap (λ (y : ℕ). held (given_at cells y)) (sym e)
values_at cells v (suc n) (suc x) l =
    let e : suc v + x ≡ v + suc x = omega arith in
    values_at cells (suc v) n x (omega arith) ∙ ap (λ (y : ℕ). held (given_at cells y)) e

pub values_held : (cells : List ℕ) (v : ℕ) (gs : List (Option Value))
    → ((x : ℕ) → x < length gs → given_at cells (v + x) ≡ Some (held (get_or gs x None))) → map held gs ≡ values_from cells v (length gs)
unfolding values_from
values_held cells v [] h = refl
values_held cells v (g ∷ gs) h =
    let e : v + 0 ≡ v = omega arith in
    let here : given_at cells v ≡ Some (held g) = ap (given_at cells) (sym e) ∙ h 0 (omega arith) in
    let more : (x : ℕ) → x < length gs → given_at cells (suc v + x) ≡ Some (held (get_or gs x None)) =
    λ x l. let d : suc v + x ≡ v + suc x = omega arith in ap (given_at cells) d ∙ h (suc x) (omega arith) in
    rw (here, values_held cells (suc v) gs more)

-- a part in place of another
abbrev pub pasted : List ℕ → ℕ → ℕ → List ℕ → List ℕ
pasted xs a w ys = take a xs ++ (ys ++ drop w (drop a xs))

pub kept_pasted : (xs : List ℕ) (a w : ℕ) (ys : List ℕ) → AllKept xs → AllKept ys → AllKept (pasted xs a w ys)
kept_pasted xs a w ys h k =
    kept_appended (take a xs) (ys ++ drop w (drop a xs)) (kept_taken a xs h)
    (kept_appended ys (drop w (drop a xs)) k (kept_dropped w (drop a xs) (kept_dropped a xs h)))

module _ (xs ys : List ℕ) (a w : ℕ) (size : length ys ≡ w) (room : a + w ≤ length xs) where
  front : length (take a xs) ≡ a
  front = length-take-le a xs (omega arith)

  pub pasted_length : length (pasted xs a w ys) ≡ length xs
  pasted_length =
      let d = length-drop a xs in
      let e = length-drop w (drop a xs) in
      length-append (take a xs) (ys ++ drop w (drop a xs)) ∙ rw (length-append ys (drop w (drop a xs)), front) (omega arith)

  pub pasted_in : (x : ℕ) → x < w → given_at (pasted xs a w ys) (a + x) ≡ given_at ys x
  unfolding given_at
  pasted_in x l =
      ap given_of
      (ap (λ (n : ℕ). get_or (pasted xs a w ys) (n + x) 0) (sym front)
      ∙ get_or-append-add (take a xs) (ys ++ drop w (drop a xs)) x 0
      ∙ get_or-append ys (drop w (drop a xs)) 0 x (omega arith))

  pub pasted_before : (x : ℕ) → x < a → given_at (pasted xs a w ys) x ≡ given_at xs x
  unfolding given_at
  pasted_before x l =
      ap given_of (get_or-append (take a xs) (ys ++ drop w (drop a xs)) 0 x (omega (arith, front)) ∙ get_or-take a xs x 0 l)

  pub pasted_after : (x : ℕ) → a + w ≤ x → given_at (pasted xs a w ys) x ≡ given_at xs x
  unfolding given_at
  pasted_after x l =
      let m = x - (a + w) in
      let p : x ≡ a + (w + m) = omega arith in
      let q : w + m ≡ length ys + m = omega arith in
      let f : get_or (pasted xs a w ys) x 0 ≡ get_or (drop w (drop a xs)) m 0 =
      ap (λ (n : ℕ). get_or (pasted xs a w ys) n 0) p
      ∙ ap (λ (n : ℕ). get_or (pasted xs a w ys) (n + (w + m)) 0) (sym front)
      ∙ get_or-append-add (take a xs) (ys ++ drop w (drop a xs)) (w + m) 0
      ∙ ap (λ (n : ℕ). get_or (ys ++ drop w (drop a xs)) n 0) q
      ∙ get_or-append-add ys (drop w (drop a xs)) m 0 in
      let g : get_or (drop w (drop a xs)) m 0 ≡ get_or xs x 0 =
      get_or-drop w (drop a xs) m 0 ∙ get_or-drop a xs (w + m) 0 ∙ ap (λ (n : ℕ). get_or xs n 0) (sym p) in
      ap given_of (f ∙ g)
