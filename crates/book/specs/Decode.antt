-- From records to scopes.
use Rattle.std.specs.Prelude.{ℕ, cond, List, [], ◌∷◌, get_or, eqb}
use Rattle.book.specs.Syntax.{Scope, empty_scope, variable_of, node_of, clause_of}
use Rattle.book.specs.Records.{Met, stage_of, body_of, records}

-- the scopes that begin in a run of records, and before them what belongs to a scope that began earlier
pub record Parsed : Type 0 where
  pub opened : Scope
  pub scopes : List Scope

-- a record in front of others: kind 1 begins a scope, any other belongs to the scope begun before it; one of unknown kind is passed over
unfoldable pub in_front : Met → Parsed → Parsed
in_front m p =
    let s = p.opened in
    let body = body_of m in
    cond (eqb (stage_of m) 1) (record { opened = empty_scope; scopes = s ∷ p.scopes })
    (cond (eqb (stage_of m) 2)
    (record { opened = record { variables = variable_of body ∷ s.variables; sub_scopes = s.sub_scopes; nodes = s.nodes; clauses = s.clauses }; scopes = p.scopes })
    (cond (eqb (stage_of m) 3)
    (record { opened = record { variables = s.variables; sub_scopes = get_or body 0 0 ∷ s.sub_scopes; nodes = s.nodes; clauses = s.clauses }; scopes = p.scopes })
    (cond (eqb (stage_of m) 4)
    (record { opened = record { variables = s.variables; sub_scopes = s.sub_scopes; nodes = node_of m.kind body ∷ s.nodes; clauses = s.clauses }; scopes = p.scopes })
    (cond (eqb (stage_of m) 5)
    (record { opened = record { variables = s.variables; sub_scopes = s.sub_scopes; nodes = s.nodes; clauses = clause_of m.kind body ∷ s.clauses }; scopes = p.scopes })
    p))))

unfoldable pub parse : List Met → Parsed
parse [] = record { opened = empty_scope; scopes = [] }
parse (m ∷ ms) = in_front m (parse ms)

-- the scopes of a book, in their order
unfoldable pub scopes_of : List ℕ → List Scope
scopes_of bytes = (parse (records bytes)).scopes
