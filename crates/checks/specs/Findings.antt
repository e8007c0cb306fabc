-- What one pass finds of the faults 6, 7 and 8: 7 and 8 only where 6 is not.
use Rattle.std.specs.Prelude.{ℕ, ◌≡◌, Bool, true, false, not, ◌||◌, List, [], eqb, ltb, Option, None, Some}
use Rattle.book.specs.Lists.{any, any_from}
use Rattle.book.specs.Syntax.{Scope, same_type}
use Rattle.book.specs.References.{scope_at, names_exception, node_names, clause_names, dangles_in, dangles}
use Rattle.book.specs.Sharing.{unless255, operands, consequence_node, clause_nodes, gathered, namings, repeats, shares}
use Rattle.book.specs.Typing.{node_type, type_of_node, node_fits, consequence_type, clause_fits, mismatch_in, mismatches}
use Rattle.book.specs.declared.ValueType.{ValueType}
use Rattle.book.specs.declared.ValueType.TheVariants.{YesNo, Numeric}
use Rattle.book.specs.declared.Node.{Node}
use Rattle.book.specs.declared.Node.TheVariants as node
use Rattle.book.specs.declared.Clause.{Clause}
use Rattle.book.specs.declared.Consequence.{Consequence}
use Rattle.book.specs.declared.Consequence.TheVariants.{Of, Fixed}
use Rattle.sharing.specs.Marks.{Marking}
use Rattle.typing.specs.Types.{type_in, clause_suits}
use Rattle.checks.specs.declared.NodeFinding.{NodeFinding}
use Rattle.checks.specs.declared.ClauseFinding.{ClauseFinding}
use Rattle.checks.specs.declared.Findings.{Findings}
use Rattle.calculus.specs.declared.Unary.{Unary}
use Rattle.calculus.specs.declared.Binary.{Binary}

-- a type as a byte of the table
abbrev pub byte_of : ValueType → ℕ
byte_of YesNo = 0
byte_of Numeric = 1

-- the byte of a node of scope i, the table having those of lower nodes
unfoldable pub type_byte : List Scope → ℕ → List ℕ → Node → ℕ
type_byte book i types x = byte_of (node_type book (scope_at book i) (type_in types) x)

-- a node's operands have the types that it takes
unfoldable pub node_suits : List ℕ → Node → Bool
node_suits types x = node_fits (type_in types) x

-- of node n of scope i, with the marks and the table of those below it: what it names is marked
pub record OfNode (book : List Scope) (i n : ℕ) (marks types : List ℕ) (twice : Bool) (x : Node) (r : NodeFinding) (after : List ℕ) : Type 0 where
  pub named : r.names ≡ node_names book (scope_at book i) n x
  pub shared : Marking (operands x) marks twice r.shares after
  pub fitting : r.suits ≡ node_suits types x
  pub typed : r.byte ≡ type_byte book i types x

-- of a node that names nodes, whatever the scope
pub record OfOperands (n : ℕ) (marks types : List ℕ) (twice : Bool) (x : Node) (r : NodeFinding) (after : List ℕ) : Type 0 where
  pub told : (book : List Scope) (i : ℕ) → OfNode book i n marks types twice x r after

abbrev pub OfUnary : ℕ → List ℕ → List ℕ → Bool → Unary → ℕ → NodeFinding → List ℕ → Type 0
OfUnary n marks types twice op a = OfOperands n marks types twice (node.Unary op a)

abbrev pub OfBinary : ℕ → List ℕ → List ℕ → Bool → Binary → ℕ → ℕ → NodeFinding → List ℕ → Type 0
OfBinary n marks types twice op a b = OfOperands n marks types twice (node.Binary op a b)

abbrev pub OfChoice : ℕ → List ℕ → List ℕ → Bool → ℕ → ℕ → ℕ → NodeFinding → List ℕ → Type 0
OfChoice n marks types twice c a b = OfOperands n marks types twice (node.Choice c a b)

abbrev pub OfDefault : ℕ → List ℕ → List ℕ → Bool → ℕ → ℕ → ℕ → ℕ → ℕ → NodeFinding → List ℕ → Type 0
OfDefault n marks types twice x y z j c = OfOperands n marks types twice (node.Default x y z j c)

-- of a node that names none
unfoldable pub leaf_finding : Bool → Bool → ValueType → NodeFinding
leaf_finding names twice t = record { names = names; shares = twice; suits = true; byte = byte_of t }

-- a consequence of a scope of so many nodes names one of them, or none
unfoldable pub consequence_names : ℕ → Consequence → Bool
consequence_names nodes (Of n) = ltb n nodes
consequence_names nodes (Fixed b) = true

-- of a clause's condition, in a scope of so many nodes: what it names is marked
pub record OfCondition (nodes : ℕ) (marks types : List ℕ) (twice : Bool) (e : ℕ) (r : ClauseFinding) (after : List ℕ) : Type 0 where
  pub named : r.names ≡ names_exception nodes e
  pub shared : Marking (unless255 e []) marks twice r.shares after
  pub fitting : r.suits ≡ (eqb e 255 || same_type (type_in types e) YesNo)

-- of a clause's consequence, the target's type being t
pub record OfConsequence (nodes : ℕ) (marks types : List ℕ) (twice : Bool) (t : ValueType) (q : Consequence) (r : ClauseFinding) (after : List ℕ) : Type 0 where
  pub named : r.names ≡ consequence_names nodes q
  pub shared : Marking (consequence_node q) marks twice r.shares after
  pub fitting : r.suits ≡ same_type (consequence_type (type_in types) q) t

-- of clause n of scope i
pub record OfClause (book : List Scope) (i n : ℕ) (marks types : List ℕ) (twice : Bool) (c : Clause) (r : ClauseFinding) (after : List ℕ) : Type 0 where
  pub named : r.names ≡ clause_names book (scope_at book i) n c
  pub shared : Marking (clause_nodes c) marks twice r.shares after
  pub fitting : r.suits ≡ clause_suits book i types c

-- an answer that something dangles
abbrev pub says_dangling : Option Findings → Bool
says_dangling None = true
says_dangling (Some f) = false

-- node n of scope i, and clause n of it, names what it may not
abbrev pub wrong_node : List Scope → ℕ → ℕ → Node → Bool
wrong_node book i n x = not (node_names book (scope_at book i) n x)

abbrev pub wrong_clause : List Scope → ℕ → ℕ → Clause → Bool
wrong_clause book i n c = not (clause_names book (scope_at book i) n c)

-- some node of scope i, and some clause of it
unfoldable pub node_dangles : List Scope → ℕ → Bool
node_dangles book i = any_from (wrong_node book i) 0 (scope_at book i).nodes

unfoldable pub clause_dangles : List Scope → ℕ → Bool
clause_dangles book i = any_from (wrong_clause book i) 0 (scope_at book i).clauses

-- what the nodes of scope i name, and what its clauses name
unfoldable pub node_namings : List Scope → ℕ → List ℕ
node_namings book i = gathered operands (scope_at book i).nodes

unfoldable pub clause_namings : List Scope → ℕ → List ℕ
clause_namings book i = gathered clause_nodes (scope_at book i).clauses

-- a node of a scope is named more than once
unfoldable pub shares_in : Scope → Bool
shares_in s = repeats (namings s)

-- a node of scope i, and a clause of it, does not fit
unfoldable pub misfit_node : List Scope → ℕ → Node → Bool
misfit_node book i x = not (node_fits (type_of_node book (scope_at book i)) x)

unfoldable pub misfit_clause : List Scope → ℕ → Clause → Bool
misfit_clause book i c = not (clause_fits book (scope_at book i) (type_of_node book (scope_at book i)) c)

-- some node of scope i, and some clause of it
unfoldable pub node_misfits : List Scope → ℕ → Bool
node_misfits book i = any (misfit_node book i) (scope_at book i).nodes

unfoldable pub clause_misfits : List Scope → ℕ → Bool
clause_misfits book i = any (misfit_clause book i) (scope_at book i).clauses

-- a table that has the type of each node of scope i
pub record Typed (book : List Scope) (i : ℕ) (types : List ℕ) : Type 0 where
  pub known : type_in types ≡ type_of_node book (scope_at book i)

-- of the nodes of scope i: where none dangles, what they name is marked, and their types are in the table
pub record OfNodes (book : List Scope) (i : ℕ) (marks : List ℕ) (r : Option Findings) (after types : List ℕ) : Type 0 where
  pub dangling : says_dangling r ≡ node_dangles book i
  pub shared : (f : Findings) → r ≡ Some f → Marking (node_namings book i) marks false f.shares after
  pub mismatched : (f : Findings) → r ≡ Some f → f.mismatches ≡ node_misfits book i
  pub typed : (f : Findings) → r ≡ Some f → Typed book i types

-- of the clauses of scope i, after what was found of its nodes
pub record OfClauses (book : List Scope) (i : ℕ) (marks : List ℕ) (found : Findings) (r : Option Findings) (after : List ℕ) : Type 0 where
  pub dangling : says_dangling r ≡ clause_dangles book i
  pub shared : (f : Findings) → r ≡ Some f → Marking (clause_namings book i) marks found.shares f.shares after
  pub mismatched : (f : Findings) → r ≡ Some f → f.mismatches ≡ (found.mismatches || clause_misfits book i)

-- of scope i
pub record OfScope (book : List Scope) (i : ℕ) (r : Option Findings) : Type 0 where
  pub dangling : says_dangling r ≡ dangles_in book (scope_at book i)
  pub shared : (f : Findings) → r ≡ Some f → f.shares ≡ shares_in (scope_at book i)
  pub mismatched : (f : Findings) → r ≡ Some f → f.mismatches ≡ mismatch_in book (scope_at book i)

-- of the book
pub record OfBook (book : List Scope) (r : Option Findings) : Type 0 where
  pub dangling : says_dangling r ≡ dangles book
  pub shared : (f : Findings) → r ≡ Some f → f.shares ≡ shares book
  pub mismatched : (f : Findings) → r ≡ Some f → f.mismatches ≡ mismatches book
