-- Orders that are written from a matrix.
--     fit, written           `fill_order` answers, where all fits, and what it writes
--     same_order             the order of a matrix that has the edges of f alone is that of f
--     blocks_written         so the order of a matrix of calls is that of the blocks
--     steps_written          and that of a matrix of what a scope's steps depend on is that of the steps
--     few_steps              a scope has 40 steps at most
-- Assumes nothing.
use Prim.Native.Nat.{ℕ, ◌<◌, ◌≤◌, ◌+◌, ◌*◌}
use mathlib.Core.Path.{◌≡◌, refl, sym, ap, ◌∙◌}
use mathlib.Core.Bool.{Bool, false, false≢true, ◌||◌}
use mathlib.Core.List.{List}
use mathlib.Core.Logic.{⊎_elim}
use native.Mathlib.Omega.{arith}
use lib.ListN.{length, get_or, replicate, get_or-replicate}
use borrow.Author.Tests.{ne_eqb}
use Rattle.std.specs.Prelude.{Option, Some, IsSome}
use Rattle.order.specs.Order.{order}
use Rattle.order.specs.Matrix.{linked, edge_of}
use Rattle.order.specs.Answer.{Filled}
use Rattle.laws.proofs.Booleans.{decide}
use Rattle.order.proofs.Matrix.{edge_linked}
use Rattle.order.proofs.Answer.{filled_fit}
use Rattle.order.proofs.Order.{order_congruent}
use Rattle.book.specs.Syntax.{Scope}
use Rattle.book.specs.References.{scope_at}
use Rattle.book.specs.Scopes.{calls, blocks}
use Rattle.book.specs.Steps.{depends_on, step_count, step_order}
use Rattle.book.specs.Limits.{Within}
use Rattle.steps.specs.Edges.{Whole, Marked}
use Rattle.steps.specs.Answers.{Written}

module _ (deps : List ℕ) (n : ℕ) (out to : List ℕ) (r : Option ℕ) (h : Filled deps n out r to)
    (few : n ≤ 40) (size : length deps ≡ 1640) (room : n ≤ length out) where
  pub fit : IsSome r
  fit = rw (filled_fit deps n out few (omega arith) room r to h).0

  pub written : (k : ℕ) → r ≡ Some k → Written (order (edge_of deps) n) out k to
  written k e =
      let f = filled_fit deps n out few (omega arith) room r to h in
      let same : k ≡ length (order (edge_of deps) n) = cc f.0 in
      record { count = same; bytes = f.1 }

edge_whole : (deps : List ℕ) → Whole deps → (x y : ℕ) → x < 40 → y < 40 → edge_of deps x y ≡ linked deps x y
unfolding edge_of
edge_whole deps r x y l m =
    ⊎_elim (λ q. edge_linked deps x y (r.read x y l m q)) (λ q. rw q refl) (decide (linked deps x y))

no_link : (x y : ℕ) → x < 40 → y < 40 → linked (replicate 1640 255) x y ≡ false
unfolding linked
no_link x y l m =
    let e = get_or-replicate {A = ℕ} 1640 (x * 40 + y) 255 0 (omega arith) in
    ne_eqb (get_or (replicate 1640 255) (x * 40 + y) 0) 0 (λ z. absurd (omega arith))

none_whole : Whole (replicate 1640 255)
none_whole = record { read = λ x y l m e. absurd (false≢true (sym (no_link x y l m) ∙ e)) }

module _ (deps : List ℕ) (f : ℕ → ℕ → Bool) (h : Marked (replicate 1640 255) deps f) where
  all_edges : (x y : ℕ) → x < 40 → y < 40 → edge_of deps x y ≡ f x y
  all_edges x y l m =
      edge_whole deps (h.whole none_whole) x y l m ∙ h.edges x y l m ∙ ap (λ (t : Bool). t || f x y) (no_link x y l m)

  pub same_order : (n : ℕ) → n ≤ 40 → order (edge_of deps) n ≡ order f n
  same_order n l = order_congruent (edge_of deps) f n (λ v w a b. all_edges v w (omega arith) (omega arith))

  pub order_written : (n : ℕ) (out to : List ℕ) (r : ℕ) → n ≤ 40 → Written (order (edge_of deps) n) out r to → Written (order f n) out r to
  order_written n out to r l w = rw (same_order n l) at w

pub blocks_written : (book : List Scope) (deps out to : List ℕ) (n r : ℕ) → Marked (replicate 1640 255) deps (calls book)
    → n ≡ length book → n ≤ 32 → Written (order (edge_of deps) n) out r to → Written (blocks book) out r to
unfolding blocks
blocks_written book deps out to n r h e l w = rw e at (order_written deps (calls book) h n out to r (omega arith) w)

pub steps_written : (s : Scope) (deps out to : List ℕ) (n r : ℕ) → Marked (replicate 1640 255) deps (depends_on s)
    → n ≡ step_count s → n ≤ 40 → Written (order (edge_of deps) n) out r to → Written (step_order s) out r to
unfolding step_order
steps_written s deps out to n r h e l w = rw e at (order_written deps (depends_on s) h n out to r l w)

pub few_steps : (book : List Scope) (i : ℕ) → Within book → step_count (scope_at book i) ≤ 40
unfolding step_count
few_steps book i b = omega (arith, b.variables i, b.sub_scopes i)
