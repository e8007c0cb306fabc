-- What chains of clauses, clauses and default trees evaluate to, over the cells of the variables.
use Rattle.std.specs.Prelude.{ℕ, ◌+◌, Bool, ◌&&◌, List, get_or, eqb, Result, Err, Ok}
use Rattle.calculus.specs.Outcomes.{choose}
use Rattle.calculus.specs.Defaults.{settle}
use Rattle.calculus.specs.Terms.{Terms}
use Rattle.calculus.specs.Evaluation.{eval, exceptions}
use Rattle.answers.specs.declared.Cause.TheVariants.{Empty}
use Rattle.calculus.specs.declared.Joined.TheVariants.{Nothing}
use Rattle.book.specs.Lists.{any}
use Rattle.book.specs.Syntax.{Scope}
use Rattle.book.specs.Decode.{scopes_of}
use Rattle.book.specs.References.{scope_at}
use Rattle.book.specs.Positions.{clause_at}
use Rattle.book.specs.Trees.{condition_term, consequence_term, select, clause_terms, has_target, tree, called_target}
use Rattle.terms.specs.Outcomes.{env_of}
use Rattle.links.specs.Links.{in_chain, Sound, Linked}
use Rattle.calculus.specs.declared.Joined.{Joined}
use Rattle.answers.specs.declared.Cause.{Cause}
use Rattle.calculus.specs.declared.Value.{Value}

-- by the links of a scope, no clause stands behind clause c in its chain, and it has no exception
abbrev pub alone : List ℕ → ℕ → Bool
alone links c = eqb (get_or links (417 + c) 0) 255 && eqb (get_or links (289 + c) 0) 255

-- the clauses of the chain that begins in cell k of scope i, as exceptions in their order
unfoldable pub chain_terms : Scope → ℕ → Terms
chain_terms s k = select (in_chain k) s.clauses (clause_terms s 0 s.clauses)

unfoldable pub chain_outcome : List ℕ → List ℕ → List ℕ → ℕ → ℕ → Result Joined Cause
chain_outcome bytes own called i k = exceptions (env_of own called) (Ok Nothing) (chain_terms (scope_at (scopes_of bytes) i) k)

-- "With none, the justification is evaluated; yes evaluates the consequence, no gives empty": of clause c
unfoldable pub rest_outcome : List ℕ → List ℕ → List ℕ → ℕ → ℕ → Result Value Cause
rest_outcome bytes own called i c =
    choose
    (eval (env_of own called) (condition_term (scope_at (scopes_of bytes) i) (clause_at (scopes_of bytes) i c).condition))
    (eval (env_of own called) (consequence_term (scope_at (scopes_of bytes) i) (clause_at (scopes_of bytes) i c).consequence))
    (Err Empty)

-- clause c, its exceptions having come to g
unfoldable pub settled_clause : List ℕ → List ℕ → List ℕ → ℕ → ℕ → Result Joined Cause → Result Value Cause
settled_clause bytes own called i c g = settle g (rest_outcome bytes own called i c)

-- the default tree of a target of scope i: a variable of sub-scope k, or an own variable where k is 255
unfoldable pub tree_outcome : List ℕ → List ℕ → List ℕ → ℕ → ℕ → ℕ → Result Value Cause
tree_outcome bytes own called i k v = eval (env_of own called) (tree (scope_at (scopes_of bytes) i) (called_target k v))

-- some clause of scope i has the target
unfoldable pub clause_for : List ℕ → ℕ → ℕ → ℕ → Bool
clause_for bytes i k v = any (has_target (called_target k v)) (scope_at (scopes_of bytes) i).clauses

-- the book is sound, and the links are those of scope i
pub record Ready (bytes index links : List ℕ) (i : ℕ) : Type 0 where
  pub sound : Sound bytes index
  pub linked : Linked bytes i links
