-- The scopes of a book whose records have no fault are within the limits.
--     within          the number of scopes, and of each sort in each scope
--     items_within    the same for any sort
-- Assumes nothing.
use Prim.Native.Nat.{ℕ, zero, suc, ◌+◌, ◌≤◌}
use mathlib.Core.Path.{◌≡◌, refl, ap}
use mathlib.Core.Bool.{Bool, true, false, cond}
use mathlib.Core.List.{List, [], ◌∷◌}
use native.Mathlib.Omega.{arith}
use lib.ListN.{length}
use lib.Dec.{eqb}
use borrow.Author.Tests.{eqb-false}
use Rattle.std.specs.Prelude.{None}
use Rattle.record.specs.Kinds.{shape_in}
use Rattle.record.specs.declared.Medium.TheVariants.{Book}
use Rattle.book.specs.declared.Tally.{Tally}
use Rattle.book.specs.Syntax.{empty_scope}
use Rattle.book.specs.Records.{Met, stage_of, counted, start, records_from, records, unknown_kind}
use Rattle.book.specs.Decode.{Parsed, in_front, parse, scopes_of}
use Rattle.book.specs.References.{scope_at}
use Rattle.book.specs.Judge.{scan}
use Rattle.book.specs.Limits.{Within, InLimits}
use Rattle.book.proofs.Sound.{Clean, sounds, in_limits, start_in_limits}
use Rattle.book.proofs.Sorts.{Sort, variable, sub_scope, node, clause, number, stage, limit, count, items_of, item, Staged, begins, has, staged, count_in_limits, scopes_new, scopes_turn, count_turn, items_none, begun, scopes_behind, items_turn}
use Rattle.book.proofs.Shapes.{stage_below}

-- what is still to be read, after what was counted, keeps within the limits
record Fits (t : Tally) (p : Parsed) : Type 0 where
  opened : (s : Sort) → count s t + length (items_of s p.opened) ≤ limit s
  inner : (s : Sort) (i : ℕ) → length (items_of s (scope_at p.scopes i)) ≤ limit s
  total : t.scopes + length p.scopes ≤ 32

fits_end : (t : Tally) → InLimits t → Fits t (record { opened = empty_scope; scopes = [] })
fits_end t l =
    record {
      opened = λ s. let e = ap length (items_none s) in omega (arith, count_in_limits s t l);
      inner = λ s i. let e = ap length (items_none s) in omega arith;
      total = omega (arith, l.scopes);
    }

fits_new : (t : Tally) (m : Met) (p : Parsed) → InLimits t → stage_of m ≡ 1 → Fits (counted 1 t) p → Fits t (in_front m p)
fits_new t m p l e f =
    rw (begun m p e)
    (record {
      opened = λ s. let e = ap length (items_none s) in omega (arith, count_in_limits s t l);
      inner = in_scope;
      total = omega (arith, f.total, scopes_new t);
    })
  where
    in_scope : (s : Sort) (i : ℕ) → length (items_of s (scope_at (p.opened ∷ p.scopes) i)) ≤ limit s
    in_scope s zero = omega (arith, f.opened s)
    in_scope s (suc i) = f.inner s i

fits_turn : (t : Tally) (m : Met) (p : Parsed) (s' : Sort) → stage_of m ≡ stage s' → Fits (counted (stage s') t) p → Fits t (in_front m p)
fits_turn t m p s' e f =
    record {
      opened = λ s. here s (eqb (number s) (number s')) (count_turn s s' t) (items_turn s s' m p e);
      inner = λ s i. rw (scopes_behind s' m p e) (f.inner s i);
      total = rw (scopes_behind s' m p e) (omega (arith, f.total, scopes_turn s' t));
    }
  where
    here : (s : Sort) (b : Bool)
        → count s (counted (stage s') t) ≡ cond b (count s t + 1) (count s t)
        → items_of s (in_front m p).opened ≡ cond b (item s m ∷ items_of s p.opened) (items_of s p.opened)
        → count s t + length (items_of s (in_front m p).opened) ≤ limit s
    here s true a b = rw b (omega (arith, f.opened s))
    here s false a b = rw b (omega (arith, f.opened s))

fits_record : (m : Met) (p : Parsed) → InLimits m.before → Clean m → Staged (stage_of m) → Fits (counted (stage_of m) m.before) p → Fits m.before (in_front m p)
fits_record m p l c (begins e) f = fits_new m.before m p l e (rw e at f)
fits_record m p l c (has s e) f = fits_turn m.before m p s e (rw e at f)

fits_met : (m : Met) (more : List Met) → InLimits m.before → scan (m ∷ cond (unknown_kind m) [] more) ≡ None
    → (InLimits (counted (stage_of m) m.before) → scan more ≡ None → Fits (counted (stage_of m) m.before) (parse more))
    → Fits m.before (parse (m ∷ cond (unknown_kind m) [] more))
unfolding parse
fits_met m more l e f =
    let h = sounds m (cond (unknown_kind m) [] more) e in
    let u = in_limits (counted (stage_of m) m.before) h.clean.few in
    let q : scan more ≡ None = rw h.clean.known at h.more in
    let d = staged (stage_of m) (eqb-false (stage_of m) 0 h.clean.known) (stage_below m.kind) in
    rw h.clean.known (fits_record m (parse more) l h.clean d (f u q))

fits_records : (l : List ℕ) (n : ℕ) (t : Tally) → InLimits t → scan (records_from l n t) ≡ None → Fits t (parse (records_from l n t))
unfolding records_from parse
fits_records [] n t l e = fits_end t l
fits_records (k ∷ rest) zero t l e =
    fits_met (record { before = t; kind = k; rest = rest }) (records_from rest (shape_in Book k).length (counted (shape_in Book k).stage t)) l e
    (λ u q. fits_records rest (shape_in Book k).length (counted (shape_in Book k).stage t) u q)
fits_records (b ∷ rest) (suc n) t l e = fits_records rest n t l e

module _ (bytes : List ℕ) (sound : scan (records bytes) ≡ None) where
  fits_book : Fits start (parse (records_from bytes 0 start))
  unfolding records
  fits_book = fits_records bytes 0 start (start_in_limits start refl) sound

  -- no sort of records is more than its limit in any scope
  pub items_within : (s : Sort) (i : ℕ) → length (items_of s (scope_at (scopes_of bytes) i)) ≤ limit s
  unfolding scopes_of records
  items_within s i = fits_book.inner s i

  -- the number of scopes, and in each scope that of its variables, sub-scopes, nodes and clauses, are within the limits
  pub within : Within (scopes_of bytes)
  unfolding scopes_of records
  within =
      record {
        scopes = omega (arith, fits_book.total);
        variables = λ i. fits_book.inner variable i;
        sub_scopes = λ i. fits_book.inner sub_scope i;
        nodes = λ i. fits_book.inner node i;
        clauses = λ i. fits_book.inner clause i;
      }
