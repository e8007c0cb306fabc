-- `rows::fill_rows` meets its contract. The measure: the number of variables left.
use Prim.Native.Nat.{ℕ}
use mathlib.Core.Path.{refl, sym}
use native.Mathlib.Omega.{arith}
use lib.ListN.{length-set}
use Rattle.rows.proofs.Filling.{none_left, last_row, first_half, one_of, shorter, room, fills_first, fills_second, whole, restored}
use Rattle.rows.proofs.+fill_rows.Goals as goal

pub fill_row-requires : goal.fill_row-requires
fill_row-requires t c = none_left c.requires c.in_default.len_below

pub returns-in_default : goal.returns-in_default
returns-in_default t c = record { table_after = last_row c.requires c.in_default.len_below c.fill_row.ensures.row_after; given_unchanged = refl; known = c.fill_row.ensures.known }

pub slice_bounds-first-end-2 : goal.slice_bounds-first-end-2
slice_bounds-first-end-2 t c = sym (first_half c.args.table.now)

pub bounds-given-v : goal.bounds-given-v
bounds-given-v t c = room c.requires (one_of c.in-len1-up.len_at_least c.from-v.ensures)

pub bounds-given-v-2 : goal.bounds-given-v-2
bounds-given-v-2 t c =
    omega (arith, room c.requires (one_of c.in-len1-up.len_at_least c.from-v.ensures), c.fill_rows.auto.given, length-set {A = ℕ})

pub bounds-given-v-3 : goal.bounds-given-v-3
bounds-given-v-3 t c =
    omega (arith, room c.requires (one_of c.in-len1-up.len_at_least c.from-v.ensures), c.fill_rows.auto.given, c.fill_rows-2.auto.given, length-set {A = ℕ})

pub fill_rows-requires : goal.fill_rows-requires
fill_rows-requires t c =
    let is = one_of c.in-len1-up.len_at_least c.from-v.ensures in
    (omega (arith, c.decreases, shorter c.requires is), fills_first c.requires is refl)

pub fill_rows-requires-2 : goal.fill_rows-requires-2
fill_rows-requires-2 t c =
    let is = one_of c.in-len1-up.len_at_least c.from-v.ensures in (
      omega (arith, c.decreases, shorter c.requires is),
      fills_second c.requires is refl c.fill_rows.ensures.given_unchanged refl c.fill_rows.ensures.table_after c.fill_rows.auto.table c.fill_rows.ensures.known,
    )

pub returns : goal.returns
returns t c =
    let is = one_of c.in-len1-up.len_at_least c.from-v.ensures in
    record {
      table_after =
          whole c.requires is refl c.fill_rows.ensures.given_unchanged refl c.fill_rows.ensures.table_after c.fill_rows.auto.table c.fill_rows-2.ensures.table_after;
      given_unchanged = restored c.requires is refl c.fill_rows.ensures.given_unchanged refl c.fill_rows-2.ensures.given_unchanged refl;
      known = c.fill_rows-2.ensures.known;
    }
