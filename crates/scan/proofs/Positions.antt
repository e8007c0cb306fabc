-- Records by their positions.
--     item_here      what is found at the position of a record is what the record says, and its body is whole
-- Assumes nothing.
use Prim.Native.Nat.{ℕ, ◌+◌, ◌-◌, ◌≤◌, ◌<◌}
use mathlib.Core.Path.{◌≡◌, refl, sym}
use mathlib.Core.List.{List}
use lib.ListN.{length, get_or, drop, length-drop}
use native.Mathlib.Omega.{arith}
use borrow.Author.Tests.{eq-eqb, ltb-false}
use Rattle.record.specs.Kinds.{shape_in}
use Rattle.record.specs.declared.Medium.TheVariants.{Book}
use Rattle.book.specs.declared.Tally.{Tally}
use Rattle.book.specs.Records.{stage_of}
use Rattle.book.specs.Positions.{variable_from, sub_scope_from, node_from, clause_from, node_length, Found}
use Rattle.scan.specs.Step.{met_at}
use Rattle.book.proofs.Sound.{Clean}
use Rattle.scan.proofs.Bodies.{variable_long, sub_long, clause_long, variable_body, sub_body, node_body, clause_body}
use Rattle.book.proofs.Sorts.{Sort, variable, sub_scope, node, clause, stage, item, from, long}

module _ (bytes : List ℕ) (at : ℕ) (t : Tally) (inside : at < length bytes) (clean : Clean (met_at bytes at t)) where
  kind_here : (met_at bytes at t).kind ≡ get_or bytes at 0
  unfolding met_at
  kind_here = refl

  says : (s : Sort) → stage_of (met_at bytes at t) ≡ stage s → from s bytes at ≡ item s (met_at bytes at t)
  unfolding variable_from sub_scope_from node_from clause_from met_at
  says variable e = rw (variable_body (get_or bytes at 0) (drop (at + 1) bytes) e)
  says sub_scope e = sym (sub_body (get_or bytes at 0) (drop (at + 1) bytes) e)
  says node e = sym (node_body (drop (at + 1) bytes) (get_or bytes at 0) e)
  says clause e = sym (clause_body (get_or bytes at 0) (drop (at + 1) bytes) e)

  body_long : (s : Sort) → stage_of (met_at bytes at t) ≡ stage s → long s (get_or bytes at 0) ≡ (shape_in Book (get_or bytes at 0)).length
  unfolding met_at node_length
  body_long variable e = sym (variable_long (get_or bytes at 0) e)
  body_long sub_scope e = sym (sub_long (get_or bytes at 0) e)
  body_long node e = rw (eq-eqb (shape_in Book (get_or bytes at 0)).stage 4 e)
  body_long clause e = sym (clause_long (get_or bytes at 0) e)

  fits : (shape_in Book (get_or bytes at 0)).length ≤ length bytes - (at + 1)
  unfolding met_at
  fits = rw length-drop at (ltb-false (length (drop (at + 1) bytes)) (shape_in Book (get_or bytes at 0)).length clean.whole)

  pub item_here : (s : Sort) → stage_of (met_at bytes at t) ≡ stage s → Found (from s) (long s) bytes at (item s (met_at bytes at t))
  item_here s e =
      let l = body_long s e in
      let f = fits in
      record { is = says s e; whole = omega arith }
