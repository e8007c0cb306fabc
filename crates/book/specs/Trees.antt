-- Default trees: the terms of nodes, of clauses and of targets.
use Rattle.std.specs.Prelude.{ℕ, zero, suc, Bool, true, false, cond, ◌&&◌, List, [], ◌∷◌, length, get_or, eqb}
use Rattle.calculus.specs.Terms.{Term, Terms, literal, own, called, error, unary, binary, choice, default, none, also}
use Rattle.calculus.specs.declared.Value.TheVariants.{Truth}
use Rattle.calculus.specs.declared.Value.TheVariants as value
use Rattle.answers.specs.declared.Cause.TheVariants.{Empty, Conflict}
use Rattle.book.specs.Lists.{any}
use Rattle.book.specs.Syntax.{Scope, no_node, same_target, is_rule}
use Rattle.book.specs.declared.Node.{Node}
use Rattle.book.specs.declared.Node.TheVariants as node
use Rattle.book.specs.declared.Consequence.{Consequence}
use Rattle.book.specs.declared.Consequence.TheVariants.{Of, Fixed}
use Rattle.book.specs.declared.Target.{Target}
use Rattle.book.specs.declared.Clause.{Clause}

-- an exception in front of others, unless it is "255: none"
abbrev pub exception : (ℕ → Term) → ℕ → Terms → Terms
exception lower e ts = cond (eqb e 255) ts (also (lower e) ts)

-- the term of a node, those of lower nodes given
abbrev pub node_term : (ℕ → Term) → Node → Term
node_term lower (node.Constant b) = literal (Truth b)
node_term lower (node.Number z) = literal (value.Number z)
node_term lower (node.Own v) = own v
node_term lower (node.Called k v) = called k v
node_term lower (node.Empty t) = error Empty
node_term lower (node.Conflict t) = error Conflict
node_term lower (node.Unary op a) = unary op (lower a)
node_term lower (node.Binary op a b) = binary op (lower a) (lower b)
node_term lower (node.Choice c a b) = choice (lower c) (lower a) (lower b)
node_term lower (node.Default x y z j c) =
    default (exception lower x (exception lower y (exception lower z none))) (lower j) (lower c)

-- the term of node n among the nodes below a limit; of what is not among them the term empty, which an accepted book never meets
unfoldable pub term_below : List Node → ℕ → ℕ → Term
term_below nodes zero n = error Empty
term_below nodes (suc l) n =
    let lower = term_below nodes l in
    cond (eqb n l) (node_term lower (get_or nodes l no_node)) (lower n)

unfoldable pub term_of : Scope → ℕ → Term
term_of s n = term_below s.nodes (length s.nodes) n

-- "condition (255: always)"; "'Always' is constant yes"
abbrev pub condition_term : Scope → ℕ → Term
condition_term s n = cond (eqb n 255) (literal (Truth true)) (term_of s n)

abbrev pub consequence_term : Scope → Consequence → Term
consequence_term s (Of n) = term_of s n
consequence_term s (Fixed b) = literal (Truth b)

-- clauses with the terms that are theirs, those that have p, as exceptions in their order
unfoldable pub select : (Clause → Bool) → List Clause → List Term → Terms
select p [] ts = none
select p (c ∷ cs) [] = none
select p (c ∷ cs) (t ∷ ts) =
    let more = select p cs ts in
    cond (p c) (also t more) more

-- "A clause is a default term: its exceptions are the clauses naming it as parent, in number order; then its condition and its consequence"
-- the terms of a scope's clauses from number n on; exceptions have higher numbers than their parent
unfoldable pub clause_terms : Scope → ℕ → List Clause → List Term
clause_terms s n [] = []
clause_terms s n (c ∷ cs) =
    let later = clause_terms s (suc n) cs in
    default (select (λ d. eqb d.parent n) cs later) (condition_term s c.condition) (consequence_term s c.consequence) ∷ later

abbrev pub has_target : Target → Clause → Bool
has_target t c = same_target c.target t

-- some clause has the target
abbrev pub has_clause : Scope → Target → Bool
has_clause s t = any (has_target t) s.clauses

-- "Clauses without parent are bases"
abbrev pub is_base : Target → Clause → Bool
is_base t c = has_target t c && eqb c.parent 255

unfoldable pub bases : Scope → Target → Terms
bases s t = select (is_base t) s.clauses (clause_terms s 0 s.clauses)

unfoldable pub has_rule : Scope → Target → Bool
has_rule s t = any (λ c. has_target t c && is_rule c.consequence) s.clauses

-- "For a target without rules: no clause gives the term empty; one base is the tree; several are the exceptions of a term with justification
-- yes and consequence empty."
abbrev pub without_rules : Terms → Term
without_rules none = error Empty
without_rules (also t none) = t
without_rules (also t (also u us)) = default (also t (also u us)) (literal (Truth true)) (error Empty)

-- "With rules, the bases are the exceptions of a term with justification yes and consequence no."
abbrev pub with_rules : Terms → Term
with_rules ts = default ts (literal (Truth true)) (literal (Truth false))

unfoldable pub tree : Scope → Target → Term
tree s t = cond (has_rule s t) (with_rules (bases s t)) (without_rules (bases s t))

abbrev pub own_target : ℕ → Target
own_target v = record { sub = 255; variable = v }

abbrev pub called_target : ℕ → ℕ → Target
called_target k v = record { sub = k; variable = v }
