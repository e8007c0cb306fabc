-- Which code is accepted, on examples.
--     bad_codes_lem      code with one fault each
--     good_codes_lem     code without fault, close to the faults
-- Assumes nothing.
use Prim.Native.Nat.{ℕ}
use mathlib.Core.Path.{◌≡◌, refl}
use mathlib.Core.Bool.{false, not}
use mathlib.Core.List.{List, [], ◌∷◌}
use Rattle.slices.specs.Bytes.{big_endian}
use Rattle.record.specs.Kinds.{shape_in, shapes_of, kinds}
use Rattle.book.specs.Lists.{any}
use Rattle.book.specs.Records.{follows, invalid}
use Rattle.book.specs.Scopes.{sum}
use Rattle.machine.specs.Instructions.{instruction_of}
use Rattle.machine.specs.Blocks.{in_front, parse, blocks_of, has_block, variables_of}
use Rattle.machine.specs.Acceptance.{counted, faulty, sound, lands, fits, all_fit, weight_in, well_formed, all_well_formed, accepted}

-- block i, with eight sub-scopes of scope j in front of other bytes
abbrev eight : ℕ → ℕ → List ℕ → List ℕ
eight i j k = 1 ∷ i ∷ 3 ∷ j ∷ 3 ∷ j ∷ 3 ∷ j ∷ 3 ∷ j ∷ 3 ∷ j ∷ 3 ∷ j ∷ 3 ∷ j ∷ 3 ∷ j ∷ k

-- sixteen variables in front of other bytes
abbrev sixteen : List ℕ → List ℕ
sixteen k =
    2 ∷ 1 ∷ 2 ∷ 2 ∷ 2 ∷ 1 ∷ 2 ∷ 2 ∷ 2 ∷ 1 ∷ 2 ∷ 2 ∷ 2 ∷ 1 ∷ 2 ∷ 2
    ∷ 2 ∷ 1 ∷ 2 ∷ 2 ∷ 2 ∷ 1 ∷ 2 ∷ 2 ∷ 2 ∷ 1 ∷ 2 ∷ 2 ∷ 2 ∷ 1 ∷ 2 ∷ 2 ∷ k

-- blocks of the weights 1, 9, 73 and 585 in front of other bytes
abbrev heavy : List ℕ → List ℕ
heavy k = 1 ∷ 0 ∷ eight 1 0 (eight 2 1 (eight 3 2 k))

abbrev bad_codes : List (List ℕ)
bad_codes =
    -- 1, truncated: a kind 1 without its number, a number of three bytes
    (1 ∷ [])
    ∷ (1 ∷ 0 ∷ 5 ∷ 0 ∷ 0 ∷ 0 ∷ [])
    -- 2, unknown kind: 8 and 17 are known in a book only, 45 nowhere
    ∷ (1 ∷ 0 ∷ 8 ∷ 1 ∷ [])
    ∷ (1 ∷ 0 ∷ 17 ∷ [])
    ∷ (1 ∷ 0 ∷ 45 ∷ [])
    -- 3, out of order: an instruction before the first block, a variable after a sub-scope, a sub-scope after an instruction
    ∷ (33 ∷ [])
    ∷ (1 ∷ 0 ∷ 1 ∷ 1 ∷ 3 ∷ 0 ∷ 2 ∷ 1 ∷ [])
    ∷ (1 ∷ 0 ∷ 1 ∷ 1 ∷ 33 ∷ 3 ∷ 0 ∷ [])
    -- 4, a limit: a variable too many, a sub-scope too many
    ∷ (1 ∷ 0 ∷ sixteen (sixteen (2 ∷ 1 ∷ [])))
    ∷ (1 ∷ 0 ∷ eight 1 0 (3 ∷ 0 ∷ []))
    -- 5, an invalid byte: a type, a constant
    ∷ (1 ∷ 0 ∷ 2 ∷ 3 ∷ [])
    ∷ (1 ∷ 0 ∷ 4 ∷ 2 ∷ [])
    -- a scope above 31, a repeated scope
    ∷ (1 ∷ 32 ∷ [])
    ∷ (1 ∷ 7 ∷ 1 ∷ 0 ∷ 1 ∷ 7 ∷ [])
    -- a sub-scope without an earlier block: its own block, a later one, none
    ∷ (1 ∷ 0 ∷ 3 ∷ 0 ∷ [])
    ∷ (1 ∷ 0 ∷ 3 ∷ 1 ∷ 1 ∷ 1 ∷ [])
    ∷ (1 ∷ 0 ∷ 1 ∷ 1 ∷ 3 ∷ 2 ∷ [])
    -- a number naming nothing: own variables in 6, 41 and 44
    ∷ (1 ∷ 0 ∷ 2 ∷ 1 ∷ 6 ∷ 1 ∷ [])
    ∷ (1 ∷ 0 ∷ 2 ∷ 1 ∷ 41 ∷ 1 ∷ [])
    ∷ (1 ∷ 0 ∷ 2 ∷ 1 ∷ 44 ∷ 1 ∷ 0 ∷ 0 ∷ [])
    -- sub-scopes in 7, 42 and 43
    ∷ (1 ∷ 0 ∷ 2 ∷ 1 ∷ 1 ∷ 1 ∷ 3 ∷ 0 ∷ 7 ∷ 1 ∷ 0 ∷ [])
    ∷ (1 ∷ 0 ∷ 2 ∷ 1 ∷ 1 ∷ 1 ∷ 3 ∷ 0 ∷ 42 ∷ 1 ∷ 0 ∷ [])
    ∷ (1 ∷ 0 ∷ 2 ∷ 1 ∷ 1 ∷ 1 ∷ 3 ∷ 0 ∷ 43 ∷ 1 ∷ [])
    -- variables of a sub-scope in 7 and 42, where the block has one of that number
    ∷ (1 ∷ 0 ∷ 1 ∷ 1 ∷ 2 ∷ 1 ∷ 3 ∷ 0 ∷ 7 ∷ 0 ∷ 0 ∷ [])
    ∷ (1 ∷ 0 ∷ 1 ∷ 1 ∷ 2 ∷ 1 ∷ 3 ∷ 0 ∷ 42 ∷ 0 ∷ 0 ∷ [])
    -- a distance past the block's end in 34, 35, 36, 40 and 44
    ∷ (1 ∷ 0 ∷ 33 ∷ 34 ∷ 0 ∷ 5 ∷ [])
    ∷ (1 ∷ 0 ∷ 33 ∷ 35 ∷ 1 ∷ 0 ∷ [])
    ∷ (1 ∷ 0 ∷ 33 ∷ 36 ∷ 0 ∷ 1 ∷ [])
    ∷ (1 ∷ 0 ∷ 33 ∷ 40 ∷ 0 ∷ 1 ∷ [])
    ∷ (1 ∷ 0 ∷ 2 ∷ 1 ∷ 33 ∷ 44 ∷ 0 ∷ 0 ∷ 1 ∷ [])
    -- into the next block, and into a body, on its first byte and on a later one
    ∷ (1 ∷ 0 ∷ 34 ∷ 0 ∷ 2 ∷ 1 ∷ 1 ∷ 33 ∷ [])
    ∷ (1 ∷ 0 ∷ 34 ∷ 0 ∷ 1 ∷ 4 ∷ 1 ∷ [])
    ∷ (1 ∷ 0 ∷ 34 ∷ 0 ∷ 4 ∷ 5 ∷ 0 ∷ 0 ∷ 0 ∷ 33 ∷ [])
    -- a weight above 4,096: 1 + 8 * 585 scopes, none of them entered
    ∷ heavy (eight 4 3 [])
    ∷ []

abbrev good_codes : List (List ℕ)
good_codes =
    -- nothing, one block of any number, two that do not know each other
    []
    ∷ (1 ∷ 31 ∷ [])
    ∷ (1 ∷ 7 ∷ 1 ∷ 3 ∷ [])
    -- all variables, all sub-scopes
    ∷ (1 ∷ 0 ∷ sixteen (sixteen []))
    ∷ (1 ∷ 0 ∷ eight 1 0 [])
    -- distances to the block's end and to an instruction, that are never taken or go nowhere
    ∷ (1 ∷ 0 ∷ 36 ∷ 0 ∷ 1 ∷ 32 ∷ [])
    ∷ (1 ∷ 0 ∷ 34 ∷ 0 ∷ 0 ∷ 1 ∷ 1 ∷ 33 ∷ [])
    ∷ (1 ∷ 0 ∷ 34 ∷ 0 ∷ 2 ∷ 4 ∷ 1 ∷ 33 ∷ [])
    ∷ (1 ∷ 0 ∷ 2 ∷ 1 ∷ 44 ∷ 0 ∷ 0 ∷ 3 ∷ 35 ∷ 0 ∷ 0 ∷ 40 ∷ 0 ∷ 0 ∷ [])
    ∷ []

pub bad_codes_lem : any accepted bad_codes ≡ false
unfolding accepted all_well_formed well_formed weight_in sum has_block any variables_of blocks_of parse in_front all_fit fits lands sound faulty counted follows invalid instruction_of shape_in shapes_of kinds big_endian
bad_codes_lem = refl

pub good_codes_lem : any (λ code. not (accepted code)) good_codes ≡ false
unfolding accepted all_well_formed well_formed weight_in sum has_block any variables_of blocks_of parse in_front all_fit fits lands sound faulty counted follows invalid instruction_of shape_in shapes_of kinds big_endian
good_codes_lem = refl
