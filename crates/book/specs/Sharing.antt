-- Fault 7, the paper's "spliced twice": "a node named more than once".
use Rattle.std.specs.Prelude.{ℕ, Bool, false, cond, ◌||◌, List, [], ◌∷◌, ◌++◌, eqb}
use Rattle.order.specs.Order.{among}
use Rattle.book.specs.Lists.{any}
use Rattle.book.specs.Syntax.{Scope}
use Rattle.book.specs.declared.Node.{Node}
use Rattle.book.specs.declared.Node.TheVariants.{Constant, Number, Own, Called, Empty, Conflict, Unary, Binary, Choice, Default}
use Rattle.book.specs.declared.Consequence.{Consequence}
use Rattle.book.specs.declared.Consequence.TheVariants.{Of, Fixed}
use Rattle.book.specs.declared.Clause.{Clause}

-- a number in front of others, unless it is 255: none, or always
abbrev pub unless255 : ℕ → List ℕ → List ℕ
unless255 n ns = cond (eqb n 255) ns (n ∷ ns)

-- the nodes that a node names
abbrev pub operands : Node → List ℕ
operands (Constant b) = []
operands (Number z) = []
operands (Own v) = []
operands (Called s v) = []
operands (Empty t) = []
operands (Conflict t) = []
operands (Unary op a) = a ∷ []
operands (Binary op a b) = a ∷ b ∷ []
operands (Choice c a b) = c ∷ a ∷ b ∷ []
operands (Default x y z j c) = unless255 x (unless255 y (unless255 z (j ∷ c ∷ [])))

abbrev pub consequence_node : Consequence → List ℕ
consequence_node (Of n) = n ∷ []
consequence_node (Fixed b) = []

-- the nodes that a clause names
abbrev pub clause_nodes : Clause → List ℕ
clause_nodes c = unless255 c.condition (consequence_node c.consequence)

unfoldable pub gathered : {A : Type 0} → (A → List ℕ) → List A → List ℕ
gathered f [] = []
gathered f (x ∷ xs) = f x ++ gathered f xs

-- every naming of a node in a scope, dead nodes' and clauses' alike
unfoldable pub namings : Scope → List ℕ
namings s = gathered operands s.nodes ++ gathered clause_nodes s.clauses

-- some number stands twice
unfoldable pub repeats : List ℕ → Bool
repeats [] = false
repeats (x ∷ xs) = among xs x || repeats xs

unfoldable pub shares : List Scope → Bool
shares book = any (λ s. repeats (namings s)) book
