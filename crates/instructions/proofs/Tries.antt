-- Laws of the slice of open tries.
-- Assumes nothing.
use Prim.Native.Nat.{ℕ, zero, suc, ◌+◌, ◌-◌, ◌*◌, ◌<◌, ◌≤◌}
use mathlib.Core.Path.{◌≡◌, refl, ap, ◌∙◌}
use mathlib.Core.Bool.{cond}
use mathlib.Core.List.{List, ◌∷◌}
use mathlib.Core.Logic.{⊎_elim}
use native.Mathlib.Omega.{arith}
use native.Mathlib.Numerals.{add-one}
use lib.ListN.{length, get_or, set, drop, length-set}
use lib.Seq.{get_or-set_same, get_or-set_other}
use lib.Dec.{leb}
use borrow.Author.Tests.{lt-ltb, le-ltb, le-leb, lt-leb, leb-true, leb-false}
use Rattle.std.specs.Prelude.{Ok, Err}
use Rattle.answers.specs.declared.Cause.TheVariants.{Empty}
use Rattle.calculus.specs.declared.Joined.{Joined}
use Rattle.laws.proofs.Booleans.{decide}
use Rattle.evaluation.specs.Run.{ended}
use Rattle.machine.specs.Machine.{Memory, go, stop, ran, stuck, raised, tried, closed}
use Rattle.instructions.specs.declared.Stop.TheVariants as halts
use Rattle.instructions.specs.Views.{entries, opened}
use Rattle.instructions.specs.Effects.{Room, Moves}
use Rattle.instructions.proofs.Stack.{entries_length}

pub opened_length : (tr : List ℕ) (t : ℕ) → length (opened tr t) ≡ t
unfolding opened
opened_length tr zero = refl
opened_length tr (suc t) = ap suc (opened_length tr t)

opened_set : (tr : List ℕ) (t i v : ℕ) → t * 2 ≤ i → opened (set tr i v) t ≡ opened tr t
unfolding opened
opened_set tr zero i v le = refl
opened_set tr (suc t) i v le =
    rw (get_or-set_other tr i (t * 2) v 0 (omega arith), get_or-set_other tr i (t * 2 + 1) v 0 (omega arith), opened_set tr t i v (omega arith))

opened_put : (tr : List ℕ) (t x h : ℕ) → t * 2 + 1 < length tr
    → opened (set (set tr (t * 2) x) (t * 2 + 1) h) (t + 1) ≡ record { lands = x; height = h } ∷ opened tr t
unfolding opened
opened_put tr t x h l =
    let a = length-set tr (t * 2) x in
    let b : t * 2 < length tr = omega arith in
    let c : t * 2 + 1 < length (set tr (t * 2) x) = omega arith in
    rw (add-one t)
    (rw (
      get_or-set_other (set tr (t * 2) x) (t * 2 + 1) (t * 2) h 0 (omega arith),
      get_or-set_same tr (t * 2) x 0 b,
      get_or-set_same (set tr (t * 2) x) (t * 2 + 1) h 0 c,
      opened_set (set tr (t * 2) x) t (t * 2 + 1) h (omega arith),
      opened_set tr t (t * 2) x (omega arith),
    ))

opened_top : (tr : List ℕ) (t : ℕ) → 0 < t → opened tr t ≡ record { lands = get_or tr ((t - 1) * 2) 0; height = get_or tr ((t - 1) * 2 + 1) 0 } ∷ opened tr (t - 1)
unfolding opened
opened_top tr t p = let e : t ≡ suc (t - 1) = omega arith in ap (opened tr) e

pub entries_drop : (st : List ℕ) (h k : ℕ) → k ≤ h → drop (h - k) (entries st h) ≡ entries st k
unfolding entries
entries_drop st zero k p = let e : k ≡ 0 = omega arith in rw e
entries_drop st (suc h) k p =
    ⊎_elim
    (λ q.
    let e : suc h - k ≡ suc (h - k) = omega (arith, leb-true k h q) in
    rw e (entries_drop st h k (leb-true k h q)))
    (λ q.
    let e : k ≡ suc h = omega (arith, leb-false k h q) in
    let z : suc h - suc h ≡ 0 = omega arith in
    rw (e, z))
    (decide (leb k h))

module _ (left : ℕ) (tr : List ℕ) (i : ℕ) (es : List Joined) (m : Memory) (p : 0 < i) where
  top : raised left es (opened tr i) m
      ≡ cond (leb (get_or tr ((i - 1) * 2) 0) left)
      (cond (leb (get_or tr ((i - 1) * 2 + 1) 0) (length es))
      (go (left - get_or tr ((i - 1) * 2) 0) (drop (length es - get_or tr ((i - 1) * 2 + 1) 0) es) (opened tr (i - 1)) m) (stop stuck))
      (raised left es (opened tr (i - 1)) m)
  unfolding raised
  top = rw (opened_top tr i p)

  pub raise_on : left < get_or tr ((i - 1) * 2) 0 → raised left es (opened tr i) m ≡ raised left es (opened tr (i - 1)) m
  raise_on q = top ∙ rw (lt-leb (get_or tr ((i - 1) * 2) 0) left q)

  pub raise_stuck : get_or tr ((i - 1) * 2) 0 ≤ left → length es < get_or tr ((i - 1) * 2 + 1) 0 → raised left es (opened tr i) m ≡ stop stuck
  raise_stuck q r = top ∙ rw (le-leb (get_or tr ((i - 1) * 2) 0) left q, lt-leb (get_or tr ((i - 1) * 2 + 1) 0) (length es) r)

  pub raise_lands : get_or tr ((i - 1) * 2) 0 ≤ left → get_or tr ((i - 1) * 2 + 1) 0 ≤ length es
      → raised left es (opened tr i) m
      ≡ go (left - get_or tr ((i - 1) * 2) 0) (drop (length es - get_or tr ((i - 1) * 2 + 1) 0) es) (opened tr (i - 1)) m
  raise_lands q r = top ∙ rw (le-leb (get_or tr ((i - 1) * 2) 0) left q, le-leb (get_or tr ((i - 1) * 2 + 1) 0) (length es) r)

pub raise_end : (left : ℕ) (tr : List ℕ) (i : ℕ) (es : List Joined) (m : Memory) → i ≡ 0 → raised left es (opened tr i) m ≡ stop (ran (ended Empty m.count))
unfolding raised opened
raise_end left tr i es m e = rw e

-- the tries from i on are passed by
pub record Passed (left : ℕ) (tr : List ℕ) (t i : ℕ) : Type 0 where
  pub below : i ≤ t
  pub rest : (es : List Joined) (m : Memory) → raised left es (opened tr t) m ≡ raised left es (opened tr i) m

module _ {left : ℕ} {tr : List ℕ} {t i : ℕ} (k : Passed left tr t i) where
  pub pass : 0 < i → left < get_or tr ((i - 1) * 2) 0 → Passed left tr t (i - 1)
  pass p q = let b = k.below in record { below = omega arith; rest = λ es m. k.rest es m ∙ raise_on left tr i es m p q }

  pub pass_end : (st : List ℕ) (h : ℕ) (m : Memory) → i ≤ 0 → Moves (Err (halts.Ended Empty)) 0 st tr m (raised left (entries st h) (opened tr t) m)
  pass_end st h m e = let z : i ≡ 0 = omega arith in k.rest (entries st h) m ∙ raise_end left tr i (entries st h) m z

  module _ (st : List ℕ) (h : ℕ) (m : Memory) (p : 0 < i) (q : get_or tr ((i - 1) * 2) 0 ≤ left) where
    pub pass_stuck : h < get_or tr ((i - 1) * 2 + 1) 0 → Moves (Err halts.Stuck) 0 st tr m (raised left (entries st h) (opened tr t) m)
    pass_stuck r = k.rest (entries st h) m ∙ raise_stuck left tr i (entries st h) m p q (rw (entries_length st h) r)

    pub pass_lands : get_or tr ((i - 1) * 2 + 1) 0 ≤ h → Room h t st tr
        → Moves (Ok (record { passed = left - get_or tr ((i - 1) * 2) 0; height = get_or tr ((i - 1) * 2 + 1) 0; tries = i - 1 })) 0 st tr m (raised left (entries st h) (opened tr t) m)
    pass_lands r o =
        let keep = get_or tr ((i - 1) * 2 + 1) 0 in
        let b = k.below in
        let n = left - get_or tr ((i - 1) * 2) 0 in
        let z : n - 0 ≡ n = omega arith in
        let es = entries_length st h in
        let f : keep ≤ length (entries st h) = rw es r in (
          k.rest (entries st h) m ∙ raise_lands left tr i (entries st h) m p q f ∙ rw (es, entries_drop st h keep r, z),
          omega arith,
          record { height = omega (arith, o.height); stack = omega (arith, o.stack); tries = omega (arith, o.tries); pairs = omega (arith, o.pairs) },
        )

module _ (tr : List ℕ) (t : ℕ) (st : List ℕ) (h : ℕ) (m : Memory) (x : ℕ) where
  pub try_full : 512 ≤ t → tried x (entries st h) (opened tr t) m ≡ stop stuck
  try_full p = rw (opened_length tr t, le-ltb t 512 p)

  pub try_go : t < 512 → t * 2 + 1 < length tr → (h ≤ length st) × (h ≤ 1024)
      → Moves (Ok (record { passed = 2; height = h; tries = t + 1 })) 2 st (set (set tr (t * 2) x) (t * 2 + 1) h) m (tried x (entries st h) (opened tr t) m)
  try_go p q r =
      let a = length-set tr (t * 2) x in
      let b = length-set (set tr (t * 2) x) (t * 2 + 1) h in (
        rw (opened_length tr t, lt-ltb t 512 p, opened_put tr t x h q, entries_length st h),
        omega arith,
        record { height = r.1; stack = r.0; tries = omega arith; pairs = omega arith },
      )

module _ (st tr : List ℕ) (h t : ℕ) (m : Memory) (o : Room h t st tr) where
  pub close_none : t ≡ 0 → Moves (Err halts.Stuck) 0 st tr m (closed (entries st h) (opened tr t) m)
  unfolding opened
  close_none e = rw e

  pub close_go : 0 < t → Moves (Ok (record { passed = 0; height = h; tries = t - 1 })) 0 st tr m (closed (entries st h) (opened tr t) m)
  close_go p = (
    rw (opened_top tr t p),
    omega arith,
    record { height = o.height; stack = o.stack; tries = omega (arith, o.tries); pairs = omega (arith, o.pairs) },
  )
