-- Running a block from a position on, and the positions where instructions stand.
--     exec_past, exec-at, exec-to          a run from a position: behind the end, at an instruction, after it
--     lands_part, lands_within, lands-on   where a distance lands, an instruction stands
--     fit_at                               what fits the whole fits from there on
-- Assumes nothing.
use Prim.Native.Nat.{ℕ, zero, suc, ◌+◌, ◌<◌, ◌≤◌}
use mathlib.Core.Path.{◌≡◌, refl, ap, sym, ◌∙◌}
use mathlib.Core.Bool.{true, true≢false}
use mathlib.Core.List.{List, [], ◌∷◌}
use native.Mathlib.Omega.{arith}
use lib.ListN.{length, get_or, drop, length-drop}
use lib.Seq.{drop-cons}
use Rattle.laws.proofs.Booleans.{both}
use Rattle.calculus.specs.declared.Joined.{Joined}
use Rattle.machine.specs.Instructions.{instruction_of}
use Rattle.machine.specs.Blocks.{Block, body_length}
use Rattle.machine.specs.Acceptance.{lands, fits, all_fit}
use Rattle.machine.specs.Machine.{Memory, Try, Surroundings, effect}
use Rattle.machine.specs.Run.{at_end, follow, exec}
use Rattle.machine.proofs.Steps as steps
use Rattle.machine.proofs.Steps.{exec_drop}

-- Runs

module _ (env : Surroundings) where
  pub exec_past : (l : List ℕ) (n : ℕ) (st : List Joined) (ts : List Try) (m : Memory) → length l ≤ n → exec env l n st ts m ≡ at_end m
  unfolding exec
  exec_past [] n st ts m p = refl
  exec_past (b ∷ l) zero st ts m p = absurd (omega arith)
  exec_past (b ∷ l) (suc n) st ts m p = exec_past l n st ts m (omega arith)

  pub exec_at : (l : List ℕ) (at : ℕ) (st : List Joined) (ts : List Try) (m : Memory) → at < length l
      → exec env l at st ts m
      ≡ follow (effect env (instruction_of (get_or l at 0) (drop (suc at) l)) (length (drop (body_length (get_or l at 0)) (drop (suc at) l))) st ts m)
      (λ d st₁ ts₁ m₁. exec env (drop (suc at) l) (body_length (get_or l at 0) + d) st₁ ts₁ m₁)
  unfolding exec
  exec_at l at st ts m p = exec_drop env l at st ts m ∙ rw (drop-cons l at 0 p)

  pub exec_to : (l : List ℕ) (at n : ℕ) (st : List Joined) (ts : List Try) (m : Memory)
      → exec env (drop (suc at) l) n st ts m ≡ exec env l (suc at + n) st ts m
  exec_to l at n st ts m = sym (steps.exec_past env l (suc at) n st ts m)

-- Landings

pub lands_within : (xs : List ℕ) (n d : ℕ) → lands xs n d ≡ true → d ≤ length xs
unfolding lands
lands_within [] n zero e = omega arith
lands_within [] n (suc d) e = absurd (true≢false (sym e))
lands_within (b ∷ xs) zero zero e = omega arith
lands_within (b ∷ xs) zero (suc d) e = let r = lands_within xs (body_length b) d e in omega arith
lands_within (b ∷ xs) (suc n) zero e = omega arith
lands_within (b ∷ xs) (suc n) (suc d) e = let r = lands_within xs n d e in omega arith

-- n bytes to pass, and then d more
lands_body : (xs : List ℕ) (n d : ℕ) → n ≤ length xs → lands xs n (n + d) ≡ lands (drop n xs) 0 d
unfolding lands
lands_body xs zero d p = let e : 0 + d ≡ d = omega arith in ap (lands xs 0) e
lands_body [] (suc n) d p = absurd (omega arith)
lands_body (b ∷ xs) (suc n) d p = let e : suc n + d ≡ suc (n + d) = omega arith in rw e (lands_body xs n d (omega arith))

pub lands_part : (xs : List ℕ) (n p d : ℕ) → lands xs n p ≡ true → lands (drop p xs) 0 d ≡ true → lands xs n (p + d) ≡ true
unfolding lands
lands_part [] n zero zero e f = refl
lands_part [] n zero (suc d) e f = absurd (true≢false (sym f))
lands_part [] n (suc p) d e f = absurd (true≢false (sym e))
lands_part (b ∷ xs) zero zero d e f = let z : 0 + d ≡ d = omega arith in rw z f
lands_part (b ∷ xs) zero (suc p) d e f = let z : suc p + d ≡ suc (p + d) = omega arith in rw z (lands_part xs (body_length b) p d e f)
lands_part (b ∷ xs) (suc n) zero d e f = absurd (true≢false (sym e))
lands_part (b ∷ xs) (suc n) (suc p) d e f = let z : suc p + d ≡ suc (p + d) = omega arith in rw z (lands_part xs n p d e f)

-- a position before the end is that of an instruction
-- behind an instruction, and d bytes on
pub lands_on : (body : List ℕ) (at d : ℕ) → at < length body → lands body 0 at ≡ true
    → lands (drop (body_length (get_or body at 0)) (drop (suc at) body)) 0 d ≡ true
    → suc at + (body_length (get_or body at 0) + d) < length body → lands body 0 (suc at + (body_length (get_or body at 0) + d)) ≡ true
unfolding lands
lands_on body at d p e f q =
    let k = get_or body at 0 in
    let l = body_length k in
    let g = length-drop (suc at) body in
    let room : l ≤ length (drop (suc at) body) = omega arith in
    let z : suc at + (l + d) ≡ at + suc (l + d) = omega arith in
    let here : lands (drop at body) 0 (suc (l + d)) ≡ true = rw (drop-cons body at 0 p) (lands_body (drop (suc at) body) l d room ∙ f) in
    rw z (lands_part body 0 at (suc (l + d)) e here)

module _ (earlier : List Block) (b : Block) where
  pub fit_at : (xs : List ℕ) (n p : ℕ) → all_fit earlier b xs n ≡ true → lands xs n p ≡ true → all_fit earlier b (drop p xs) 0 ≡ true
  unfolding lands all_fit
  fit_at [] n zero e f = refl
  fit_at [] n (suc p) e f = absurd (true≢false (sym f))
  fit_at (x ∷ xs) zero zero e f = e
  fit_at (x ∷ xs) zero (suc p) e f =
      fit_at xs (body_length x) p (both (fits earlier b (instruction_of x xs) (drop (body_length x) xs)) (all_fit earlier b xs (body_length x)) e).1 f
  fit_at (x ∷ xs) (suc n) zero e f = absurd (true≢false (sym f))
  fit_at (x ∷ xs) (suc n) (suc p) e f = fit_at xs n p e f

  pub fits_at : (body : List ℕ) (at : ℕ) → all_fit earlier b body 0 ≡ true → at < length body → lands body 0 at ≡ true
      → fits earlier b (instruction_of (get_or body at 0) (drop (suc at) body)) (drop (body_length (get_or body at 0)) (drop (suc at) body)) ≡ true
  unfolding all_fit
  fits_at body at e p f =
      let here = rw (drop-cons body at 0 p) at (fit_at body 0 at e f) in
      (both (fits earlier b (instruction_of (get_or body at 0) (drop (suc at) body)) (drop (body_length (get_or body at 0)) (drop (suc at) body)))
      (all_fit earlier b (drop (suc at) body) (body_length (get_or body at 0))) here).0
