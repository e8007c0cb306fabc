-- What a term reads, and environments that agree on it.
use Rattle.std.specs.Prelude.{ℕ, ◌≡◌}
use Rattle.calculus.specs.Terms.{Term, Terms, literal, own, called, error, unary, binary, choice, default, none, also}
use Rattle.calculus.specs.Evaluation.{Env}
use Rattle.book.specs.declared.Node.{Node}
use Rattle.book.specs.declared.Node.TheVariants as node

-- every own variable that a term reads has P, every variable of a sub-scope Q; "A read counts whether or not it would be reached"
unfoldable mutual
  pub EachRead : (ℕ → Type 0) → (ℕ → ℕ → Type 0) → Term → Type 0
  EachRead P Q (literal v) = Unit {0}
  EachRead P Q (own x) = P x
  EachRead P Q (called k x) = Q k x
  EachRead P Q (error c) = Unit {0}
  EachRead P Q (unary op a) = EachRead P Q a
  EachRead P Q (binary op a b) = EachRead P Q a × EachRead P Q b
  EachRead P Q (choice c a b) = EachRead P Q c × EachRead P Q a × EachRead P Q b
  EachRead P Q (default es j c) = EachReadIn P Q es × EachRead P Q j × EachRead P Q c

  pub EachReadIn : (ℕ → Type 0) → (ℕ → ℕ → Type 0) → Terms → Type 0
  EachReadIn P Q none = Unit {0}
  EachReadIn P Q (also t ts) = EachRead P Q t × EachReadIn P Q ts

-- the same of what a node itself reads
abbrev pub ReadHere : (ℕ → Type 0) → (ℕ → ℕ → Type 0) → Node → Type 0
ReadHere P Q (node.Constant b) = Unit {0}
ReadHere P Q (node.Number z) = Unit {0}
ReadHere P Q (node.Own x) = P x
ReadHere P Q (node.Called k x) = Q k x
ReadHere P Q (node.Empty t) = Unit {0}
ReadHere P Q (node.Conflict t) = Unit {0}
ReadHere P Q (node.Unary op a) = Unit {0}
ReadHere P Q (node.Binary op a b) = Unit {0}
ReadHere P Q (node.Choice c a b) = Unit {0}
ReadHere P Q (node.Default x y z j c) = Unit {0}

-- two environments hold the same where a term reads
abbrev pub Agree : Env → Env → Term → Type 0
Agree e f t = EachRead (λ x. e.own x ≡ f.own x) (λ k x. e.called k x ≡ f.called k x) t
