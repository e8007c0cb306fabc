-- Fault 8, the paper's "wrong stock": "a type does not fit".
use Rattle.std.specs.Prelude.{ℕ, zero, suc, Bool, true, not, cond, ◌&&◌, ◌||◌, List, length, get_or, eqb}
use Rattle.calculus.specs.declared.Unary.{Unary}
use Rattle.calculus.specs.declared.Unary.TheVariants.{Not, Negate}
use Rattle.calculus.specs.declared.Binary.{Binary}
use Rattle.calculus.specs.declared.Binary.TheVariants.{And, Add, Subtract, Equal, Less}
use Rattle.book.specs.Lists.{any}
use Rattle.book.specs.Syntax.{Scope, no_node, same_type}
use Rattle.book.specs.References.{scope_at}
use Rattle.book.specs.declared.ValueType.{ValueType}
use Rattle.book.specs.declared.ValueType.TheVariants.{YesNo, Numeric}
use Rattle.book.specs.declared.Node.{Node}
use Rattle.book.specs.declared.Node.TheVariants as node
use Rattle.book.specs.declared.Consequence.{Consequence}
use Rattle.book.specs.declared.Consequence.TheVariants.{Of, Fixed}
use Rattle.book.specs.declared.Target.{Target}
use Rattle.book.specs.declared.Clause.{Clause}

abbrev pub type_at : Scope → ℕ → ValueType
type_at s v = (get_or s.variables v (record { holds = YesNo })).holds

-- the type of a sub-scope's variable
abbrev pub called_type_at : List Scope → Scope → ℕ → ℕ → ValueType
called_type_at book s k v = type_at (scope_at book (get_or s.sub_scopes k 0)) v

abbrev pub target_type : List Scope → Scope → Target → ValueType
target_type book s t = cond (eqb t.sub 255) (type_at s t.variable) (called_type_at book s t.sub t.variable)

-- "'Not' and 'and' take yes/no; negate, add, subtract and less take numbers"
abbrev pub unary_type : Unary → ValueType
unary_type Not = YesNo
unary_type Negate = Numeric

-- what a binary operator gives
abbrev pub binary_type : Binary → ValueType
binary_type And = YesNo
binary_type Add = Numeric
binary_type Subtract = Numeric
binary_type Equal = YesNo
binary_type Less = YesNo

-- what a binary operator takes, its left operand's type given: "equal takes two of one type"
abbrev pub operand_type : Binary → ValueType → ValueType
operand_type And left = YesNo
operand_type Add left = Numeric
operand_type Subtract left = Numeric
operand_type Equal left = left
operand_type Less left = Numeric

-- the type of a node, those of lower nodes given: an "if" has its branches' type, a default its consequence's
abbrev pub node_type : List Scope → Scope → (ℕ → ValueType) → Node → ValueType
node_type book s lower (node.Constant b) = YesNo
node_type book s lower (node.Number z) = Numeric
node_type book s lower (node.Own v) = type_at s v
node_type book s lower (node.Called k v) = called_type_at book s k v
node_type book s lower (node.Empty t) = t
node_type book s lower (node.Conflict t) = t
node_type book s lower (node.Unary op a) = unary_type op
node_type book s lower (node.Binary op a b) = binary_type op
node_type book s lower (node.Choice c a b) = lower a
node_type book s lower (node.Default x y z j c) = lower c

-- the type of node n among the nodes below a limit
unfoldable pub type_below : List Scope → Scope → ℕ → ℕ → ValueType
type_below book s zero n = YesNo
type_below book s (suc l) n =
    let lower = type_below book s l in
    cond (eqb n l) (node_type book s lower (get_or s.nodes l no_node)) (lower n)

unfoldable pub type_of_node : List Scope → Scope → ℕ → ValueType
type_of_node book s n = type_below book s (length s.nodes) n

-- "255: none", or of this type
abbrev pub exception_fits : (ℕ → ValueType) → ValueType → ℕ → Bool
exception_fits types t e = eqb e 255 || same_type (types e) t

-- "conditions and justifications are yes/no"; "the branches of an 'if' are of one type, and so are the exceptions and consequence of a default"
abbrev pub node_fits : (ℕ → ValueType) → Node → Bool
node_fits types (node.Constant b) = true
node_fits types (node.Number z) = true
node_fits types (node.Own v) = true
node_fits types (node.Called k v) = true
node_fits types (node.Empty t) = true
node_fits types (node.Conflict t) = true
node_fits types (node.Unary op a) = same_type (types a) (unary_type op)
node_fits types (node.Binary op a b) =
    same_type (types a) (operand_type op (types a)) && same_type (types b) (operand_type op (types a))
node_fits types (node.Choice c a b) = same_type (types c) YesNo && same_type (types b) (types a)
node_fits types (node.Default x y z j c) =
    exception_fits types (types c) x
    && (exception_fits types (types c) y && (exception_fits types (types c) z && same_type (types j) YesNo))

abbrev pub consequence_type : (ℕ → ValueType) → Consequence → ValueType
consequence_type types (Of n) = types n
consequence_type types (Fixed b) = YesNo

-- "a consequence has its target's type"
abbrev pub clause_fits : List Scope → Scope → (ℕ → ValueType) → Clause → Bool
clause_fits book s types c =
    (eqb c.condition 255 || same_type (types c.condition) YesNo)
    && same_type (consequence_type types c.consequence) (target_type book s c.target)

unfoldable pub mismatch_in : List Scope → Scope → Bool
mismatch_in book s =
    let types = type_of_node book s in
    any (λ x. not (node_fits types x)) s.nodes || any (λ c. not (clause_fits book s types c)) s.clauses

unfoldable pub mismatches : List Scope → Bool
mismatches book = any (mismatch_in book) book
