-- Terms and books with their code, byte for byte: each holds by computing. Assumes nothing.
use Prim.Native.Nat.{ℕ}
use mathlib.Core.Path.{◌≡◌, refl}
use mathlib.Core.Bool.{false}
use mathlib.Core.List.{List, [], ◌∷◌, map}
use lib.IntN.{pos, negsuc}
use Rattle.record.specs.Kinds.{shape_in, shapes_of, kinds}
use Rattle.slices.specs.Bytes.{big_endian, bytes_of, number_at, number_bytes}
use Rattle.calculus.specs.Terms.{Term, literal, own, called, error, unary, binary, choice}
use Rattle.calculus.specs.declared.Value.TheVariants.{Truth, Number}
use Rattle.answers.specs.declared.Cause.TheVariants.{Conflict}
use Rattle.calculus.specs.declared.Unary.TheVariants.{Not, Negate}
use Rattle.calculus.specs.declared.Binary.TheVariants.{And, Add, Subtract, Equal, Less}
use Rattle.order.specs.Search.{lowest_from, lowest, none}
use Rattle.order.specs.Order.{unmet, ready, next, among, taken, order}
use Rattle.book.specs.Lists.{any}
use Rattle.book.specs.Syntax.{node_of, clause_of}
use Rattle.book.specs.Records.{counted, records_from, records}
use Rattle.book.specs.Decode.{in_front, parse, scopes_of}
use Rattle.book.specs.Trees.{term_below, term_of, select, clause_terms, bases, has_rule, tree}
use Rattle.book.specs.Scopes.{calls, blocks}
use Rattle.book.specs.Steps.{step_count, reads, step_of, clause_reads, depends_on, step_order}
use Rattle.translation.specs.Code.{size, code}
use Rattle.translation.specs.Blocks.{variable_code, overrides_code, call_code, step_code, steps_code, variables_code, sub_scopes_code, block_code, blocks_code, code_of}

-- a term with every kind of node but a default: if own 0 and not called 1 2 then −(2 − −1) else if 3 + own 4 < 5 then own 0 = no else conflict
abbrev term : Term
term =
    choice (binary And (own 0) (unary Not (called 1 2)))
    (unary Negate (binary Subtract (literal (Number (pos 2))) (literal (Number (negsuc 0)))))
    (choice (binary Less (binary Add (literal (Number (pos 3))) (own 4)) (literal (Number (pos 5))))
    (binary Equal (own 0) (literal (Truth false))) (error Conflict))

pub term_code : code term []
    ≡ 6 ∷ 0 ∷ 7 ∷ 1 ∷ 2 ∷ 10 ∷ 12
    ∷ 35 ∷ 0 ∷ 15 ∷ 5 ∷ 0 ∷ 0 ∷ 0 ∷ 2 ∷ 5 ∷ 255 ∷ 255 ∷ 255 ∷ 255 ∷ 14 ∷ 11
    ∷ 34 ∷ 0 ∷ 26 ∷ 5 ∷ 0 ∷ 0 ∷ 0 ∷ 3 ∷ 6 ∷ 4 ∷ 13 ∷ 5 ∷ 0 ∷ 0 ∷ 0 ∷ 5 ∷ 16
    ∷ 35 ∷ 0 ∷ 8 ∷ 6 ∷ 0 ∷ 4 ∷ 0 ∷ 15
    ∷ 34 ∷ 0 ∷ 1 ∷ 33
    ∷ []
unfolding code size bytes_of number_bytes number_at big_endian
term_code = refl

abbrev books : List (List ℕ)
books =
    -- a variable without clauses
    (1 ∷ 2 ∷ 1 ∷ [])
    -- a definition
    ∷ (1 ∷ 2 ∷ 1 ∷ 4 ∷ 1 ∷ 19 ∷ 255 ∷ 0 ∷ 255 ∷ 255 ∷ 0 ∷ [])
    -- a rule
    ∷ (1 ∷ 2 ∷ 1 ∷ 20 ∷ 255 ∷ 0 ∷ 255 ∷ 255 ∷ 1 ∷ [])
    -- two definitions
    ∷ (1 ∷ 2 ∷ 1 ∷ 4 ∷ 1 ∷ 4 ∷ 0 ∷ 19 ∷ 255 ∷ 0 ∷ 255 ∷ 255 ∷ 0 ∷ 19 ∷ 255 ∷ 0 ∷ 255 ∷ 255 ∷ 1 ∷ [])
    -- a definition that reads the second variable, whose step comes first
    ∷ (1 ∷ 2 ∷ 1 ∷ 2 ∷ 1 ∷ 6 ∷ 1 ∷ 19 ∷ 255 ∷ 0 ∷ 255 ∷ 255 ∷ 0 ∷ [])
    -- an override
    ∷ (1 ∷ 2 ∷ 2 ∷ 1 ∷ 3 ∷ 0 ∷ 5 ∷ 0 ∷ 0 ∷ 0 ∷ 7 ∷ 19 ∷ 0 ∷ 0 ∷ 255 ∷ 255 ∷ 0 ∷ [])
    -- an override that is empty
    ∷ (1 ∷ 2 ∷ 2 ∷ 5 ∷ 0 ∷ 0 ∷ 0 ∷ 9 ∷ 19 ∷ 255 ∷ 0 ∷ 255 ∷ 255 ∷ 0 ∷ 1 ∷ 2 ∷ 2 ∷ 3 ∷ 0 ∷ 8 ∷ 2 ∷ 7 ∷ 0 ∷ 0 ∷ 19 ∷ 0 ∷ 0 ∷ 255 ∷ 255 ∷ 0 ∷ 19 ∷ 255 ∷ 0 ∷ 255 ∷ 255 ∷ 1 ∷ [])
    -- an override by a rule, which is never empty
    ∷ (1 ∷ 2 ∷ 1 ∷ 4 ∷ 1 ∷ 19 ∷ 255 ∷ 0 ∷ 255 ∷ 255 ∷ 0 ∷ 1 ∷ 2 ∷ 1 ∷ 3 ∷ 0 ∷ 8 ∷ 1 ∷ 7 ∷ 0 ∷ 0 ∷ 20 ∷ 0 ∷ 0 ∷ 255 ∷ 0 ∷ 1 ∷ 19 ∷ 255 ∷ 0 ∷ 255 ∷ 255 ∷ 1 ∷ [])
    -- scopes that call later ones
    ∷ (1 ∷ 3 ∷ 2 ∷ 1 ∷ 1 ∷ [])
    ∷ []

abbrev codes : List (List ℕ)
codes =
    -- a variable without clauses
    (1 ∷ 0 ∷ 2 ∷ 1 ∷ 44 ∷ 0 ∷ 0 ∷ 3 ∷ 32 ∷ 41 ∷ 0 ∷ [])
    -- a definition
    ∷ (1 ∷ 0 ∷ 2 ∷ 1 ∷ 44 ∷ 0 ∷ 0 ∷ 13 ∷ 4 ∷ 1 ∷ 35 ∷ 0 ∷ 5 ∷ 4 ∷ 1 ∷ 34 ∷ 0 ∷ 1 ∷ 32 ∷ 41 ∷ 0 ∷ [])
    -- a rule
    ∷ (1 ∷ 0 ∷ 2 ∷ 1 ∷ 44 ∷ 0 ∷ 0 ∷ 37 ∷ 38 ∷ 36 ∷ 0 ∷ 15 ∷ 4 ∷ 1 ∷ 35 ∷ 0 ∷ 5 ∷ 4 ∷ 1 ∷ 34 ∷ 0 ∷ 1 ∷ 32 ∷ 37 ∷ 34 ∷ 0 ∷ 1 ∷ 38 ∷ 39 ∷ 40
    ∷ 0 ∷ 11 ∷ 4 ∷ 1 ∷ 35 ∷ 0 ∷ 5 ∷ 4 ∷ 0 ∷ 34 ∷ 0 ∷ 1 ∷ 32 ∷ 41 ∷ 0 ∷ [])
    -- two definitions
    ∷ (1 ∷ 0 ∷ 2 ∷ 1 ∷ 44 ∷ 0 ∷ 0 ∷ 56 ∷ 38 ∷ 36 ∷ 0 ∷ 15 ∷ 4 ∷ 1 ∷ 35 ∷ 0 ∷ 5 ∷ 4 ∷ 1 ∷ 34 ∷ 0 ∷ 1 ∷ 32 ∷ 37 ∷ 34 ∷ 0 ∷ 1 ∷ 38 ∷ 39 ∷ 36
    ∷ 0 ∷ 15 ∷ 4 ∷ 1 ∷ 35 ∷ 0 ∷ 5 ∷ 4 ∷ 0 ∷ 34 ∷ 0 ∷ 1 ∷ 32 ∷ 37 ∷ 34 ∷ 0 ∷ 1 ∷ 38 ∷ 39 ∷ 40 ∷ 0 ∷ 10 ∷ 4 ∷ 1 ∷ 35 ∷ 0 ∷ 4 ∷ 32 ∷ 34 ∷ 0 ∷ 1
    ∷ 32 ∷ 41 ∷ 0 ∷ [])
    -- a definition that reads the second variable, whose step comes first
    ∷ (1 ∷ 0 ∷ 2 ∷ 1 ∷ 2 ∷ 1 ∷ 44 ∷ 1 ∷ 0 ∷ 3 ∷ 32 ∷ 41 ∷ 1 ∷ 44 ∷ 0 ∷ 0 ∷ 13 ∷ 4 ∷ 1 ∷ 35 ∷ 0 ∷ 5 ∷ 6 ∷ 1 ∷ 34 ∷ 0 ∷ 1 ∷ 32 ∷ 41 ∷ 0 ∷ [])
    -- an override
    ∷ (1 ∷ 0 ∷ 2 ∷ 2 ∷ 44 ∷ 0 ∷ 0 ∷ 3 ∷ 32 ∷ 41 ∷ 0 ∷ 1 ∷ 1 ∷ 3 ∷ 0 ∷ 36 ∷ 0 ∷ 18 ∷ 4 ∷ 1 ∷ 35 ∷ 0 ∷ 8 ∷ 5 ∷ 0 ∷ 0 ∷ 0 ∷ 7 ∷ 34 ∷ 0 ∷ 1 ∷ 32
    ∷ 37 ∷ 42 ∷ 0 ∷ 0 ∷ 43 ∷ 0 ∷ [])
    -- an override that is empty
    ∷ (1 ∷ 0 ∷ 2 ∷ 2 ∷ 44 ∷ 0 ∷ 0 ∷ 16 ∷ 4 ∷ 1 ∷ 35 ∷ 0 ∷ 8 ∷ 5 ∷ 0 ∷ 0 ∷ 0 ∷ 9 ∷ 34 ∷ 0 ∷ 1 ∷ 32 ∷ 41 ∷ 0 ∷ 1 ∷ 1 ∷ 2 ∷ 2 ∷ 3 ∷ 0 ∷ 36 ∷ 0 ∷ 14 ∷ 4 ∷ 1 ∷ 35 ∷ 0 ∷ 4 ∷ 32 ∷ 34 ∷ 0 ∷ 1 ∷ 32 ∷ 37 ∷ 42 ∷ 0 ∷ 0 ∷ 43 ∷ 0 ∷ 44 ∷ 0 ∷ 0 ∷ 14 ∷ 4 ∷ 1 ∷ 35 ∷ 0 ∷ 6 ∷ 7 ∷ 0 ∷ 0 ∷ 34 ∷ 0 ∷ 1 ∷ 32 ∷ 41 ∷ 0 ∷ [])
    -- an override by a rule, which is never empty
    ∷ (1 ∷ 0 ∷ 2 ∷ 1 ∷ 44 ∷ 0 ∷ 0 ∷ 13 ∷ 4 ∷ 1 ∷ 35 ∷ 0 ∷ 5 ∷ 4 ∷ 1 ∷ 34 ∷ 0 ∷ 1 ∷ 32 ∷ 41 ∷ 0 ∷ 1 ∷ 1 ∷ 2 ∷ 1 ∷ 3 ∷ 0 ∷ 36 ∷ 0 ∷ 38 ∷ 38 ∷ 36 ∷ 0 ∷ 14 ∷ 32 ∷ 35 ∷ 0 ∷ 5 ∷ 4 ∷ 1 ∷ 34 ∷ 0 ∷ 1 ∷ 32 ∷ 37 ∷ 34 ∷ 0 ∷ 1 ∷ 38 ∷ 39 ∷ 40 ∷ 0 ∷ 11 ∷ 4 ∷ 1 ∷ 35 ∷ 0 ∷ 5 ∷ 4 ∷ 0 ∷ 34 ∷ 0 ∷ 1 ∷ 32 ∷ 37 ∷ 42 ∷ 0 ∷ 0 ∷ 43 ∷ 0 ∷ 44 ∷ 0 ∷ 0 ∷ 14 ∷ 4 ∷ 1 ∷ 35 ∷ 0 ∷ 6 ∷ 7 ∷ 0 ∷ 0 ∷ 34 ∷ 0 ∷ 1 ∷ 32 ∷ 41 ∷ 0 ∷ [])
    -- scopes that call later ones
    ∷ (1 ∷ 1 ∷ 1 ∷ 2 ∷ 1 ∷ 0 ∷ 3 ∷ 2 ∷ 43 ∷ 0 ∷ [])
    ∷ []

pub books_code : map (λ b. code_of (scopes_of b)) books ≡ codes
unfolding scopes_of parse in_front records records_from counted shape_in shapes_of kinds node_of clause_of blocks calls among order taken next lowest lowest_from ready unmet none step_order step_count depends_on step_of clause_reads reads any tree bases has_rule clause_terms select term_of term_below code_of blocks_code block_code variables_code sub_scopes_code steps_code step_code variable_code call_code overrides_code code size bytes_of number_bytes number_at big_endian
books_code = refl
