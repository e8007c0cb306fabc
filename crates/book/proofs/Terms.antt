-- The term of a node among those below a limit.
--     term_past    at the limit and past it there is no node, and the term is empty
--     term_here    below it, a node's term does not depend on the limit
-- Assumes nothing.
use Prim.Native.Nat.{ℕ, zero, suc, ◌<◌, ◌≤◌}
use mathlib.Core.Path.{◌≡◌, refl}
use mathlib.Core.List.{List}
use mathlib.Core.Logic.{⊎_elim}
use native.Mathlib.Omega.{arith}
use native.Mathlib.Nat.{eq-or-lt_of_le}
use lib.ListN.{get_or}
use borrow.Author.Tests.{eq-eqb, ne_eqb}
use Rattle.calculus.specs.Terms.{error}
use Rattle.answers.specs.declared.Cause.TheVariants.{Empty}
use Rattle.book.specs.Syntax.{no_node}
use Rattle.book.specs.Trees.{node_term, term_below}
use Rattle.book.specs.declared.Node.{Node}

module _ (nodes : List Node) where
  pub term_past : (limit n : ℕ) → limit ≤ n → term_below nodes limit n ≡ error Empty
  unfolding term_below
  term_past zero n l = refl
  term_past (suc limit) n l = rw (ne_eqb n limit (omega arith)) (term_past limit n (omega arith))

  pub term_here : (limit n : ℕ) → n < limit → term_below nodes limit n ≡ node_term (term_below nodes n) (get_or nodes n no_node)
  unfolding term_below
  term_here zero n l = absurd (omega arith)
  term_here (suc limit) n l =
      ⊎_elim
      (λ (e : n ≡ limit). rw (e, eq-eqb limit limit refl))
      (λ (h : n < limit). rw (ne_eqb n limit (omega arith)) (term_here limit n h))
      (eq-or-lt_of_le {n = n} {m = limit} (omega arith))
