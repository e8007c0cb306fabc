-- Laws of the cells: own variables and those of sub-scopes.
--     tab_length, tab-at, tab-same, tab-set, tab-map    lists by their places
--     read_unset, read_set, read-in, ..                 what reading, storing and handing over come to
-- Assumes nothing.
use Prim.Native.Nat.{ℕ, zero, suc, ◌+◌, ◌-◌, ◌*◌, ◌%◌, ◌<◌, ◌≤◌}
use mathlib.Core.Path.{◌≡◌, refl, ap, sym, ◌∙◌}
use mathlib.Core.Bool.{Bool, true, false, not}
use mathlib.Core.List.{List, [], map}
use native.Mathlib.Omega.{arith}
use lib.ListN.{length, get_or, set}
use lib.Seq.{get_or-set_same, get_or-set_other}
use lib.Dec.{eqb}
use borrow.Author.Tests.{ne_eqb, le-ltb, not-true, not-false}
use Rattle.std.specs.Prelude.{Option, None, Some, Ok, Err}
use Rattle.calculus.specs.declared.Value.{Value}
use Rattle.calculus.specs.declared.Joined.{Joined}
use Rattle.calculus.specs.declared.Joined.TheVariants.{One}
use Rattle.cells.specs.Codec.{no_cell, zero_cell, many_cell, value_of}
use Rattle.cells.specs.Cells.{given_of, held}
use Rattle.cells.specs.Joining.{joined_of}
use Rattle.cells.proofs.Variables.{held_is}
use Rattle.book.specs.Syntax.{same_type}
use Rattle.book.specs.declared.ValueType.{ValueType}
use Rattle.lists.specs.Writing.{value_type}
use Rattle.machine.specs.Machine.{unset, stored, Callee, waiting, Memory, Try, Next, go, stop, stuck, taking, wanting, pushed, read_from, read_in, value_at, stored_to, overridden, jumped_if_given}
use Rattle.instructions.specs.declared.Stop.TheVariants as halts
use Rattle.instructions.specs.Views.{entries, opened, tab, cell_with, own_cell, givens_at, values_in, callee_at, memory}
use Rattle.instructions.specs.Effects.{Room, Encodes, Takes, InFrame, Storing, Handing}
use Rattle.instructions.proofs.Stack.{value_entry}

-- Lists by their places

pub tab_length : {A : Type 0} (f : ℕ → A) (v n : ℕ) → length (tab f v n) ≡ n
unfolding tab
tab_length f v zero = refl
tab_length f v (suc n) = ap suc (tab_length f (suc v) n)

pub tab_at : {A : Type 0} (f : ℕ → A) (v n x : ℕ) (d : A) → x < n → get_or (tab f v n) x d ≡ f (v + x)
unfolding tab
tab_at f v zero x d p = absurd (omega arith)
tab_at f v (suc n) zero d p = let e : v ≡ v + 0 = omega arith in ap f e
tab_at f v (suc n) (suc x) d p = let e : suc v + x ≡ v + suc x = omega arith in tab_at f (suc v) n x d (omega arith) ∙ ap f e

pub tab_same : {A : Type 0} (f g : ℕ → A) (v n : ℕ) → ((i : ℕ) → i < n → f (v + i) ≡ g (v + i)) → tab f v n ≡ tab g v n
unfolding tab
tab_same f g v zero k = refl
tab_same f g v (suc n) k =
    let e : v + 0 ≡ v = omega arith in
    let h : f v ≡ g v = rw e at (k 0 (omega arith)) in
    rw (h, tab_same f g (suc v) n (λ i p. let z : suc v + i ≡ v + suc i = omega arith in rw z (k (suc i) (omega arith))))

pub tab_map : {A B : Type 0} (h : A → B) (f : ℕ → A) (v n : ℕ) → map h (tab f v n) ≡ tab (λ i. h (f i)) v n
unfolding tab
tab_map h f v zero = refl
tab_map h f v (suc n) = rw (tab_map h f (suc v) n)

pub tab_set : {A : Type 0} (f g : ℕ → A) (v n x : ℕ) (y : A) → x < n → g (v + x) ≡ y → ((i : ℕ) → i < n → (i ≡ x → ⊥) → f (v + i) ≡ g (v + i))
    → set (tab f v n) x y ≡ tab g v n
unfolding tab
tab_set f g v zero x y p e k = absurd (omega arith)
tab_set f g v (suc n) zero y p e k =
    let z : v + 0 ≡ v = omega arith in
    let h : g v ≡ y = rw z at e in
    rw (h, tab_same f g (suc v) n (λ i q. let w : suc v + i ≡ v + suc i = omega arith in rw w (k (suc i) (omega arith) (λ a. absurd (omega arith)))))
tab_set f g v (suc n) (suc x) y p e k =
    let z : v + 0 ≡ v = omega arith in
    let h : f v ≡ g v = rw z at (k 0 (omega arith) (λ a. absurd (omega arith))) in
    let w : v + suc x ≡ suc v + x = omega arith in
    rw (h, tab_set f g (suc v) n x y (omega arith) (rw w at e) (λ i q r. let u : suc v + i ≡ v + suc i = omega arith in rw u (k (suc i) (omega arith) (λ a. r (omega arith)))))

-- Cells

pub absent : {c : ℕ} → c ≡ 0 → given_of c ≡ None
unfolding given_of
absent e = rw e

pub present : (c : ℕ) → (c ≡ 0 → ⊥) → given_of c ≡ Some (held (given_of c))
unfolding given_of
present c p = rw (ne_eqb c 0 p)

pub cell_zero : {c : ℕ} → c ≡ 0 → joined_of no_cell ≡ One (held (given_of c))
unfolding joined_of given_of value_of
cell_zero e = rw e

same_number : (a b : ℕ) → zero_cell ≤ a → zero_cell ≤ b → a % 4294967296 ≡ b % 4294967296 → value_of a ≡ value_of b
unfolding value_of
same_number a b p q e = rw (le-ltb a zero_cell p, le-ltb b zero_cell q, e)

pub cell_high : (c : ℕ) → many_cell ≤ c → joined_of (c % 4294967296 + zero_cell) ≡ One (held (given_of c))
cell_high c p =
    let n = c % 4294967296 in
    let l : n < 4294967296 = omega arith in
    let d = n + zero_cell in
    value_entry d (λ e. absurd (omega arith)) (omega arith) ∙ ap One (same_number d c (omega arith) (omega arith) (omega arith) ∙ sym (held_is c))

pub cell_value : (c : ℕ) → (c ≡ 0 → ⊥) → c < many_cell → joined_of c ≡ One (held (given_of c))
cell_value c p q = value_entry c p q ∙ ap One (sym (held_is c))

-- Reading

module _ (own frame : List ℕ) (x : ℕ) where
  own_unset : get_or own x 0 ≡ 0 → own_cell own frame x ≡ unset
  unfolding own_cell
  own_unset e = rw (absent e)

  own_set : (get_or own x 0 ≡ 0 → ⊥) → own_cell own frame x ≡ cell_with (eqb (get_or frame x 0) 0) (Some (held (given_of (get_or own x 0))))
  unfolding own_cell
  own_set p = ap (cell_with (eqb (get_or frame x 0) 0)) (present (get_or own x 0) p)

  pub read_unset : (es : List Joined) (ts : List Try) (m : Memory) → get_or own x 0 ≡ 0 → read_from (own_cell own frame x) es ts m ≡ stop stuck
  read_unset es ts m e = rw (own_unset e)

  pub read_set : (es : List Joined) (ts : List Try) (m : Memory) → (get_or own x 0 ≡ 0 → ⊥)
      → read_from (own_cell own frame x) es ts m ≡ pushed (One (held (given_of (get_or own x 0)))) es ts m
  read_set es ts m p = rw (own_set p) (either (eqb (get_or frame x 0) 0) (held (given_of (get_or own x 0))))
    where
      either : (b : Bool) (v : Value) → read_from (cell_with b (Some v)) es ts m ≡ pushed (One v) es ts m
      either true v = refl
      either false v = refl

  pub given_unset : (d : ℕ) (es : List Joined) (ts : List Try) (m : Memory) → get_or own x 0 ≡ 0 → jumped_if_given (own_cell own frame x) d es ts m ≡ go 0 es ts m
  given_unset d es ts m e = rw (own_unset e)

  pub given_given : (d : ℕ) (es : List Joined) (ts : List Try) (m : Memory) → (get_or own x 0 ≡ 0 → ⊥) → get_or frame x 0 ≡ 0
      → jumped_if_given (own_cell own frame x) d es ts m ≡ go d es ts m
  given_given d es ts m p e = rw (own_set p, e)

  pub given_stored : (d : ℕ) (es : List Joined) (ts : List Try) (m : Memory) → (get_or own x 0 ≡ 0 → ⊥) → (get_or frame x 0 ≡ 0 → ⊥)
      → jumped_if_given (own_cell own frame x) d es ts m ≡ go 0 es ts m
  given_stored d es ts m p q = rw (own_set p, ne_eqb (get_or frame x 0) 0 q)

  stored_twice : (v : Value) (es : List Joined) (ts : List Try) (m : Memory) → (get_or own x 0 ≡ 0 → ⊥) → stored_to (own_cell own frame x) x v es ts m ≡ stop stuck
  stored_twice v es ts m p = rw (own_set p) (either (eqb (get_or frame x 0) 0) (held (given_of (get_or own x 0))))
    where
      either : (b : Bool) (w : Value) → stored_to (cell_with b (Some w)) x v es ts m ≡ stop stuck
      either true w = refl
      either false w = refl

value_tab : (f : ℕ → Value) (v n x : ℕ) → x < n → value_at (tab f v n) x ≡ stored (f (v + x))
unfolding tab
value_tab f v zero x p = absurd (omega arith)
value_tab f v (suc n) zero p = let e : v ≡ v + 0 = omega arith in ap (λ (i : ℕ). stored (f i)) e
value_tab f v (suc n) (suc x) p = let e : suc v + x ≡ v + suc x = omega arith in value_tab f (suc v) n x (omega arith) ∙ ap (λ (i : ℕ). stored (f i)) e

module _ (frame : List ℕ) (n k x : ℕ) (es : List Joined) (ts : List Try) (m : Memory) where
  pub read_waiting : get_or frame (32 + k) 0 ≡ 0 → read_in (callee_at frame n k) x es ts m ≡ stop stuck
  unfolding callee_at
  read_waiting e = rw e

  pub read_entered : (get_or frame (32 + k) 0 ≡ 0 → ⊥) → x < n
      → read_in (callee_at frame n k) x es ts m ≡ pushed (One (held (given_of (get_or frame (40 + k * 32 + x) 0)))) es ts m
  unfolding callee_at values_in
  read_entered p l =
      let z : 0 + x ≡ x = omega arith in
      let e = value_tab (λ i. held (given_of (get_or frame (40 + k * 32 + i) 0))) 0 n x l in
      rw (ne_eqb (get_or frame (32 + k) 0) 0 p, e, z)

-- Storing

module _ {g : Option Value} {st : List ℕ} {h : ℕ} (top : Takes g st h) (wanted : ValueType) where
  pub take_none : (f : Value → List Joined → Next) → g ≡ None → taking (entries st h) (λ y st₁. wanting wanted y (f y st₁)) ≡ stop stuck
  take_none f e = top.none e _

  module _ {v : Value} (e : g ≡ Some v) {r : Bool} (a : r ≡ same_type wanted (value_type v)) (f : Value → List Joined → Next) where
    pub take_other : not r ≡ true → taking (entries st h) (λ y st₁. wanting wanted y (f y st₁)) ≡ stop stuck
    take_other n = rw ((top.some v e).0, ← a, not-true r n)

    pub take_right : not r ≡ false → taking (entries st h) (λ y st₁. wanting wanted y (f y st₁)) ≡ f v (entries st (h - 1))
    take_right n = rw ((top.some v e).0, ← a, not-false r n)

lower : {h t : ℕ} {st tr : List ℕ} → (h ≤ length st) × (h ≤ 1024) → (t ≤ 512) × (t * 2 ≤ length tr) → Room (h - 1) t st tr
lower p q = record { height = omega arith; stack = omega arith; tries = q.0; pairs = q.1 }

-- a write where no flag stands leaves the own variables as they were
own_off : (own frame : List ℕ) (at b i : ℕ) → (i ≡ at → ⊥) → own_cell own frame i ≡ own_cell own (set frame at b) i
unfolding own_cell
own_off own frame at b i w = rw (get_or-set_other frame at i b 0 w)

pub owns_off : (own frame : List ℕ) (at b v : ℕ) → v ≤ at → tab (own_cell own frame) 0 v ≡ tab (own_cell own (set frame at b)) 0 v
owns_off own frame at b v l =
    tab_same (own_cell own frame) (own_cell own (set frame at b)) 0 v (λ i p. own_off own frame at b (0 + i) (λ e. absurd (omega arith)))

-- a write where neither the mark of a sub-scope nor one of its cells stands leaves it as it was
pub callee_off : (frame : List ℕ) (at b n i : ℕ) → (32 + i ≡ at → ⊥) → ((y : ℕ) → y < n → 40 + i * 32 + y ≡ at → ⊥)
    → callee_at frame n i ≡ callee_at (set frame at b) n i
unfolding callee_at givens_at values_in
callee_off frame at b n i u k =
    let other : (y : ℕ) → y < n → get_or frame (40 + i * 32 + (0 + y)) 0 ≡ get_or (set frame at b) (40 + i * 32 + (0 + y)) 0 =
    λ y p. sym (get_or-set_other frame at (40 + i * 32 + (0 + y)) b 0 (λ q. k y p (omega arith))) in
    rw (
      get_or-set_other frame at (32 + i) b 0 u,
      tab_same (λ y. given_of (get_or frame (40 + i * 32 + y) 0)) (λ y. given_of (get_or (set frame at b) (40 + i * 32 + y) 0)) 0 n (λ y p. ap given_of (other y p)),
      tab_same (λ y. held (given_of (get_or frame (40 + i * 32 + y) 0))) (λ y. held (given_of (get_or (set frame at b) (40 + i * 32 + y) 0))) 0 n (λ y p. ap (λ (c : ℕ). held (given_of c)) (other y p)),
    )

callees_kept : (frame : List ℕ) (at b s : ℕ) (sizes : ℕ → ℕ) → at < 32
    → tab (λ i. callee_at frame (sizes i) i) 0 s ≡ tab (λ i. callee_at (set frame at b) (sizes i) i) 0 s
callees_kept frame at b s sizes l =
    tab_same (λ i. callee_at frame (sizes i) i) (λ i. callee_at (set frame at b) (sizes i) i) 0 s
    (λ i p. callee_off frame at b (sizes (0 + i)) (0 + i) (λ e. absurd (omega arith)) (λ y q e. absurd (omega arith)))

put_own : (own frame : List ℕ) (x b : ℕ) {y : Value} → Encodes y b → x < length own → x < length frame → own_cell (set own x b) (set frame x 1) x ≡ stored y
unfolding own_cell
put_own own frame x b k lo lf = rw (get_or-set_same own x b 0 lo, get_or-set_same frame x 1 0 lf, k.cell)

put_off : (own frame : List ℕ) (x b i : ℕ) → (i ≡ x → ⊥) → own_cell own frame (0 + i) ≡ own_cell (set own x b) (set frame x 1) (0 + i)
unfolding own_cell
put_off own frame x b i w =
    let z : 0 + i ≡ i = omega arith in
    rw (z, get_or-set_other own x i b 0 w, get_or-set_other frame x i 1 0 w)

module _ (wanted : ValueType) (x : ℕ) {st : List ℕ} {h : ℕ} (t : ℕ) (own frame : List ℕ) {g : Option Value} (top : Takes g st h) where
  pub store_none : g ≡ None → Storing wanted x st h t own frame (Err halts.Stuck) own frame
  store_none e = record { same = λ v s sizes tr c l q. take_none top wanted _ e }

  module _ {y : Value} (e : g ≡ Some y) {r : Bool} (a : r ≡ same_type wanted (value_type y)) where
    pub store_other : not r ≡ true → Storing wanted x st h t own frame (Err halts.Stuck) own frame
    store_other n = record { same = λ v s sizes tr c l q. take_other top wanted e a _ n }

    module _ (n : not r ≡ false) where
      pub store_twice : (get_or own x 0 ≡ 0 → ⊥) → Storing wanted x st h t own frame (Err halts.Stuck) own frame
      unfolding memory
      store_twice p =
          record {
            same = λ v s sizes tr c l q.
                let z : 0 + x ≡ x = omega arith in
                let at : get_or (tab (own_cell own frame) 0 v) x unset ≡ own_cell own frame x = tab_at (own_cell own frame) 0 v x unset l ∙ ap (own_cell own frame) z in
                take_right top wanted e a _ n
                ∙ rw at (stored_twice own frame x y (entries st (h - 1)) (opened tr t) (memory v s sizes own frame c) p);
          }

      pub store_go : {b : ℕ} → get_or own x 0 ≡ 0 → Encodes y b → (h ≤ length st) × (h ≤ 1024) → x < 32 → x < length own → x < length frame
          → Storing wanted x st h t own frame (Ok (record { passed = 1; height = h - 1; tries = t })) (set own x b) (set frame x 1)
      unfolding memory
      store_go {b} p k room few lo lf =
          record {
            same = λ v s sizes tr c l q.
                let z : 0 + x ≡ x = omega arith in
                let at : get_or (tab (own_cell own frame) 0 v) x unset ≡ unset =
                tab_at (own_cell own frame) 0 v x unset l ∙ ap (own_cell own frame) z ∙ own_unset own frame x p in
                let here : own_cell (set own x b) (set frame x 1) (0 + x) ≡ stored y = ap (own_cell (set own x b) (set frame x 1)) z ∙ put_own own frame x b k lo lf in
                let all = tab_set (own_cell own frame) (own_cell (set own x b) (set frame x 1)) 0 v x (stored y) l here (λ i u w. put_off own frame x b i w) in (
                  take_right top wanted e a (λ y st₁. stored_to (get_or (tab (own_cell own frame) 0 v) x unset) x y st₁ (opened tr t) (memory v s sizes own frame c)) n
                      ∙ rw (at, all, callees_kept frame x 1 s sizes few),
                  omega arith,
                  lower room q,
                );
          }

-- Handing over

givens_put : (frame : List ℕ) (k x n b : ℕ) {g : Option Value} → given_of b ≡ g → x < n → 40 + k * 32 + x < length frame
    → givens_at (set frame (40 + k * 32 + x) b) (40 + k * 32) n ≡ set (givens_at frame (40 + k * 32) n) x g
unfolding givens_at
givens_put frame k x n b {g} e l room =
    sym (tab_set (λ i. given_of (get_or frame (40 + k * 32 + i) 0)) (λ i. given_of (get_or (set frame (40 + k * 32 + x) b) (40 + k * 32 + i) 0)) 0 n x g l
    (let z : 0 + x ≡ x = omega arith in rw (z, get_or-set_same frame (40 + k * 32 + x) b 0 room) e)
    (λ i p w. let z : 0 + i ≡ i = omega arith in rw (z, get_or-set_other frame (40 + k * 32 + x) (40 + k * 32 + i) b 0 (λ q. w (omega arith)))))

late : (frame : List ℕ) (k x z : ℕ) (y : Value) (es : List Joined) (ts : List Try) (m : Memory) → (get_or frame (32 + k) 0 ≡ 0 → ⊥)
    → overridden (callee_at frame z k) k x y es ts m ≡ stop stuck
unfolding callee_at
late frame k x z y es ts m p = rw (ne_eqb (get_or frame (32 + k) 0) 0 p)

waits_in : (frame : List ℕ) (k z : ℕ) → get_or frame (32 + k) 0 ≡ 0 → callee_at frame z k ≡ waiting (givens_at frame (40 + k * 32) z)
unfolding callee_at
waits_in frame k z w = rw w

hand_off : (frame : List ℕ) (k x b i : ℕ) (sizes : ℕ → ℕ) → sizes i ≤ 32 → (i ≡ k → ⊥) → x < 32 → i < 8
    → callee_at frame (sizes (0 + i)) (0 + i) ≡ callee_at (set frame (40 + k * 32 + x) b) (sizes (0 + i)) (0 + i)
hand_off frame k x b i sizes few v small eight =
    let z : 0 + i ≡ i = omega arith in
    rw z (callee_off frame (40 + k * 32 + x) b (sizes i) i (λ e. absurd (omega arith)) (λ y l q. v (omega arith)))

module _ (wanted : ValueType) (k x : ℕ) {st : List ℕ} {h : ℕ} (t : ℕ) (frame : List ℕ) {g : Option Value} (top : Takes g st h) where
  pub hand_none : g ≡ None → Handing wanted k x st h t frame (Err halts.Stuck) frame
  hand_none e = record { same = λ v s sizes tr own c u o l m b q. take_none top wanted _ e }

  module _ {y : Value} (e : g ≡ Some y) {r : Bool} (a : r ≡ same_type wanted (value_type y)) where
    pub hand_other : not r ≡ true → Handing wanted k x st h t frame (Err halts.Stuck) frame
    hand_other n = record { same = λ v s sizes tr own c u o l m b q. take_other top wanted e a _ n }

    module _ (n : not r ≡ false) where
      at_k : (s : ℕ) (sizes : ℕ → ℕ) → k < s → get_or (tab (λ i. callee_at frame (sizes i) i) 0 s) k (waiting []) ≡ callee_at frame (sizes k) k
      at_k s sizes l =
          let z : 0 + k ≡ k = omega arith in
          tab_at (λ i. callee_at frame (sizes i) i) 0 s k (waiting []) l ∙ ap (λ (i : ℕ). callee_at frame (sizes i) i) z

      pub hand_late : (get_or frame (32 + k) 0 ≡ 0 → ⊥) → Handing wanted k x st h t frame (Err halts.Stuck) frame
      unfolding memory
      hand_late p =
          record {
            same = λ v s sizes tr own c u o l m b q.
                take_right top wanted e a _ n ∙ rw (at_k s sizes l) (late frame k x (sizes k) y (entries st (h - 1)) (opened tr t) (memory v s sizes own frame c) p);
          }

      module _ (w : get_or frame (32 + k) 0 ≡ 0) where
        handed : (z : ℕ) → x < z → get_or (givens_at frame (40 + k * 32) z) x None ≡ given_of (get_or frame (40 + k * 32 + x) 0)
        unfolding givens_at
        handed z l = let o : 0 + x ≡ x = omega arith in tab_at (λ i. given_of (get_or frame (40 + k * 32 + i) 0)) 0 z x None l ∙ rw o

        pub hand_twice : (get_or frame (40 + k * 32 + x) 0 ≡ 0 → ⊥) → Handing wanted k x st h t frame (Err halts.Stuck) frame
        unfolding memory
        hand_twice p =
            record {
              same = λ v s sizes tr own c u o l m b q.
                  let there : get_or (givens_at frame (40 + k * 32) (sizes k)) x None ≡ Some (held (given_of (get_or frame (40 + k * 32 + x) 0))) =
                  handed (sizes k) m ∙ present (get_or frame (40 + k * 32 + x) 0) p in
                  take_right top wanted e a _ n ∙ rw (at_k s sizes l, waits_in frame k (sizes k) w, there);
            }

        pub hand_go : {b : ℕ} → get_or frame (40 + k * 32 + x) 0 ≡ 0 → Encodes y b → (h ≤ length st) × (h ≤ 1024) → InFrame k x frame
            → Handing wanted k x st h t frame (Ok (record { passed = 2; height = h - 1; tries = t })) (set frame (40 + k * 32 + x) b)
        unfolding memory
        hand_go {b} p code room inside =
            record {
              same = λ v s sizes tr own c u eight l m few q.
                  let old : ℕ → Callee = λ i. callee_at frame (sizes i) i in
                  let new : ℕ → Callee = λ i. callee_at (set frame (40 + k * 32 + x) b) (sizes i) i in
                  let there : get_or (givens_at frame (40 + k * 32) (sizes k)) x None ≡ None = handed (sizes k) m ∙ absent p in
                  let z : 0 + k ≡ k = omega arith in
                  let o : c + 0 ≡ c = omega arith in
                  let marked : get_or (set frame (40 + k * 32 + x) b) (32 + k) 0 ≡ 0 =
                  get_or-set_other frame (40 + k * 32 + x) (32 + k) b 0 (λ f. let i = inside.sub_scope in absurd (omega arith)) ∙ w in
                  let here : new (0 + k) ≡ waiting (set (givens_at frame (40 + k * 32) (sizes k)) x (Some y)) =
                  ap new z ∙ waits_in (set frame (40 + k * 32 + x) b) k (sizes k) marked ∙ ap waiting (givens_put frame k x (sizes k) b code.cell m inside.cell) in
                  let all = tab_set old new 0 s k (waiting (set (givens_at frame (40 + k * 32) (sizes k)) x (Some y))) l here
                  (λ i y w. hand_off frame k x b i sizes (few i y) w inside.variable (omega arith)) in (
                    take_right top wanted e a (λ y st₁. overridden (get_or (tab old 0 s) k (waiting [])) k x y st₁ (opened tr t) (memory v s sizes own frame c)) n
                        ∙ rw (at_k s sizes l, waits_in frame k (sizes k) w, there, all, o, owns_off own frame (40 + k * 32 + x) b v (omega arith)),
                    omega arith,
                    lower room q,
                  );
            }
