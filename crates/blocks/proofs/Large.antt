-- Entries with slices that suffice.
--     copied_own                     what is given, copied
--     large, enough, came-to         what an entry comes to where the slices suffice
-- Assumes nothing.
use Prim.Native.Nat.{ℕ, ◌+◌, ◌<◌}
use mathlib.Core.Path.{◌≡◌, refl, sym, ◌∙◌}
use mathlib.Core.List.{List}
use native.Mathlib.Omega.{arith}
use lib.ListN.{length, replicate, length-replicate}
use lib.Seq.{ext_get_or}
use Rattle.std.specs.Prelude.{Ok, Err}
use Rattle.memo.specs.Rows.{Copied}
use Rattle.blocks.specs.declared.Halt.TheVariants.{Ended, Stuck, NoRoom}
use Rattle.blocks.specs.Entries.{Outcome, Enough, Came, CameTo}

-- all the cells are copied
pub copied_own : {given own own' : List ℕ} → length given ≡ 32 → length own ≡ 32 → Copied given 0 32 own 0 own' → own' ≡ given
copied_own {given} {own} {own'} g o c =
    let s = c.size in
    ext_get_or 0 own' given (s ∙ o ∙ sym g) (λ i q. let z : 0 + i ≡ i = omega arith in rw z at (c.inside i (omega arith)))

pub large : (p : ℕ) → p < 32 → Enough p (replicate 32768 0) (replicate 32768 0)
large p l = record { stack = rw (length-replicate {A = ℕ} 32768 0) (omega arith); tries = rw (length-replicate {A = ℕ} 32768 0) (omega arith) }

-- what an answer needs of slices so that it is what the run comes to
abbrev pub Needed : Outcome → Type 0 → Type 0
Needed (Ok n) A = Unit {0}
Needed (Err (Ended c n)) A = Unit {0}
Needed (Err Stuck) A = Unit {0}
Needed (Err NoRoom) A = A

pub enough : (a : Outcome) {A : Type 0} → A → Needed a A
enough (Ok n) x = tt
enough (Err (Ended c n)) x = tt
enough (Err Stuck) x = tt
enough (Err NoRoom) x = x

pub came_to : (a : Outcome) {code : List ℕ} {p : ℕ} {given : List ℕ} {r : Outcome} {own st tr : List ℕ} → r ≡ a → Came code p given r own st tr
    → Needed a (Enough p st tr) → CameTo code p given a own
came_to (Ok n) e k x = record { size = k.size; shows = rw e at k.shows }
came_to (Err (Ended c n)) e k x = record { size = k.size; shows = rw e at k.shows }
came_to (Err Stuck) e k x = record { size = k.size; shows = rw e at k.shows }
came_to (Err NoRoom) {code} {p} {given} {r} {own} {st} {tr} e k x =
    let short : Enough p st tr → ⊥ = rw e at k.shows in
    record { size = k.size; shows = short x }

-- where a run did not lack room, what it came to is what it should be with any slices
pub came_unless_short : (a : Outcome) {code : List ℕ} {p : ℕ} {given own st tr : List ℕ} → (a ≡ Err NoRoom → ⊥) → Came code p given a own st tr
    → CameTo code p given a own
came_unless_short (Ok n) x k = came_to (Ok n) refl k tt
came_unless_short (Err (Ended c n)) x k = came_to (Err (Ended c n)) refl k tt
came_unless_short (Err Stuck) x k = came_to (Err Stuck) refl k tt
came_unless_short (Err NoRoom) x k = absurd (x refl)
