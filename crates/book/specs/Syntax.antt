-- The syntax of a book: scopes, and in each its variables, sub-scopes, nodes and clauses.
-- Scopes are numbered from 0 through the book; variables, sub-scopes, nodes and clauses from 0 in their scope.
use Rattle.std.specs.Prelude.{ℕ, Bool, true, false, cond, ◌&&◌, List, [], get_or, eqb}
use Rattle.calculus.specs.declared.Unary.TheVariants.{Not, Negate}
use Rattle.calculus.specs.declared.Binary.TheVariants.{And, Add, Subtract, Equal, Less}
use Rattle.slices.specs.Bytes.{number_at}
use Rattle.book.specs.declared.ValueType.{ValueType}
use Rattle.book.specs.declared.ValueType.TheVariants.{YesNo, Numeric}
use Rattle.book.specs.declared.Variable.{Variable}
use Rattle.book.specs.declared.Node.{Node}
use Rattle.book.specs.declared.Node.TheVariants.{Constant, Number, Own, Called, Empty, Conflict, Unary, Binary, Choice, Default}
use Rattle.book.specs.declared.Consequence.{Consequence}
use Rattle.book.specs.declared.Consequence.TheVariants.{Of, Fixed}
use Rattle.book.specs.declared.Target.{Target}
use Rattle.book.specs.declared.Clause.{Clause}

pub record Scope : Type 0 where
  pub variables : List Variable
  -- each sub-scope's scope number
  pub sub_scopes : List ℕ
  pub nodes : List Node
  pub clauses : List Clause

abbrev pub empty_scope : Scope
empty_scope = record { variables = []; sub_scopes = []; nodes = []; clauses = [] }

-- "type: 1 yes/no, 2 number"
abbrev pub type_of : ℕ → ValueType
type_of b = cond (eqb b 1) YesNo Numeric

-- "type: 1 yes/no, 2 number"
abbrev pub type_byte : ValueType → ℕ
type_byte YesNo = 1
type_byte Numeric = 2

abbrev pub variable_of : List ℕ → Variable
variable_of body = record { holds = type_of (get_or body 0 0) }

-- a node by its kind and body; kinds 4 to 18
unfoldable pub node_of : ℕ → List ℕ → Node
node_of k body =
    let a = get_or body 0 0 in
    let b = get_or body 1 0 in
    let c = get_or body 2 0 in
    cond (eqb k 4) (Constant (eqb a 1))
    (cond (eqb k 5) (Number (number_at body 0))
    (cond (eqb k 6) (Own a)
    (cond (eqb k 7) (Called a b)
    (cond (eqb k 8) (Empty (type_of a))
    (cond (eqb k 9) (Conflict (type_of a))
    (cond (eqb k 10) (Unary Not a)
    (cond (eqb k 11) (Unary Negate a)
    (cond (eqb k 12) (Binary And a b)
    (cond (eqb k 13) (Binary Add a b)
    (cond (eqb k 14) (Binary Subtract a b)
    (cond (eqb k 15) (Binary Equal a b)
    (cond (eqb k 16) (Binary Less a b)
    (cond (eqb k 17) (Choice a b c)
    (Default a b c (get_or body 3 0) (get_or body 4 0)))))))))))))))

-- what stands where a scope has no node of a number
abbrev pub no_node : Node
no_node = Constant false

-- a clause by its kind and body: kind 19 a definition, 20 a rule
unfoldable pub clause_of : ℕ → List ℕ → Clause
clause_of k body =
    record {
      target = record { sub = get_or body 0 0; variable = get_or body 1 0 };
      parent = get_or body 2 0;
      condition = get_or body 3 0;
      consequence = cond (eqb k 19) (Of (get_or body 4 0)) (Fixed (eqb (get_or body 4 0) 1));
    }

-- "a parent of lower number with the same target": equal sub-scope and variable
abbrev pub same_target : Target → Target → Bool
same_target a b = eqb a.sub b.sub && eqb a.variable b.variable

abbrev pub same_type : ValueType → ValueType → Bool
same_type YesNo YesNo = true
same_type YesNo Numeric = false
same_type Numeric YesNo = false
same_type Numeric Numeric = true

-- a rule's consequence is no or yes
abbrev pub is_rule : Consequence → Bool
is_rule (Of n) = false
is_rule (Fixed b) = true
