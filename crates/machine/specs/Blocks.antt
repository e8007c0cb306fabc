-- The blocks of code: "kind 1 with the scope number, its kinds 2 and 3, instructions".
use Rattle.std.specs.Prelude.{ℕ, zero, suc, Bool, cond, List, [], ◌∷◌, ◌++◌, reverse, get_or, take, eqb}
use Rattle.record.specs.Kinds.{shape_in}
use Rattle.record.specs.declared.Medium.TheVariants.{Code}
use Rattle.book.specs.Lists.{any}
use Rattle.book.specs.Syntax.{variable_of}
use Rattle.book.specs.declared.Variable.{Variable}

-- "The kind alone decides how many bytes follow"
abbrev pub body_length : ℕ → ℕ
body_length k = (shape_in Code k).length

-- the stage of a kind: kind 1, kinds 2, kinds 3, then instructions, 1 to 4; 0 where the kind is unknown in code
abbrev pub stage_of : ℕ → ℕ
stage_of k = (shape_in Code k).stage

pub record Block : Type 0 where
  -- the number of the scope
  pub scope : ℕ
  pub variables : List Variable
  -- each sub-scope's scope number
  pub sub_scopes : List ℕ
  -- the bytes of the instructions
  pub body : List ℕ

abbrev pub empty_block : Block
empty_block = record { scope = 0; variables = []; sub_scopes = []; body = [] }

-- the blocks that begin in a run of records, and before them what belongs to a block that began earlier
pub record Parsed : Type 0 where
  pub opened : Block
  pub blocks : List Block

-- a record in front of others, by its kind and all bytes after it: kind 1 begins a block, any other belongs to the block begun before it;
-- one of unknown kind is passed over
unfoldable pub in_front : ℕ → List ℕ → Parsed → Parsed
in_front k rest p =
    let b = p.opened in
    cond (eqb (stage_of k) 1)
    (record { opened = empty_block; blocks = record { scope = get_or rest 0 0; variables = b.variables; sub_scopes = b.sub_scopes; body = b.body } ∷ p.blocks })
    (cond (eqb (stage_of k) 2)
    (record { opened = record { scope = 0; variables = variable_of rest ∷ b.variables; sub_scopes = b.sub_scopes; body = b.body }; blocks = p.blocks })
    (cond (eqb (stage_of k) 3)
    (record { opened = record { scope = 0; variables = b.variables; sub_scopes = get_or rest 0 0 ∷ b.sub_scopes; body = b.body }; blocks = p.blocks })
    (cond (eqb (stage_of k) 4)
    (record { opened = record { scope = 0; variables = b.variables; sub_scopes = b.sub_scopes; body = k ∷ take (body_length k) rest ++ b.body }; blocks = p.blocks })
    p)))

-- the bytes from here on, n bytes of a body left to pass
unfoldable pub parse : List ℕ → ℕ → Parsed
parse [] n = record { opened = empty_block; blocks = [] }
parse (b ∷ rest) (suc n) = parse rest n
parse (k ∷ rest) zero = in_front k rest (parse rest (body_length k))

-- the blocks of code, last block first: a block enters only blocks behind it
unfoldable pub blocks_of : List ℕ → List Block
blocks_of code = reverse (parse code 0).blocks

-- some block is that of scope i
unfoldable pub has_block : List Block → ℕ → Bool
has_block blocks i = any (λ b. eqb b.scope i) blocks

-- the variables of the block of scope i
unfoldable pub variables_of : List Block → ℕ → List Variable
variables_of [] i = []
variables_of (b ∷ earlier) i = cond (eqb b.scope i) b.variables (variables_of earlier i)
