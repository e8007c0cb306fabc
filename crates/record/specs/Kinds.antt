-- How many bytes follow a kind, and its stage, in a book and in code.
use Rattle.std.specs.Prelude.{ℕ, List, [], ◌∷◌, get_or}
use Rattle.record.specs.declared.Medium.{Medium}
use Rattle.record.specs.declared.Medium.TheVariants.{Book, Code}
use Rattle.record.specs.declared.Shape.{Shape}
use Rattle.record.specs.declared.Shapes.{Shapes}

-- the body's length and the stage in a book, then the same in code; stage 0: the kind is unknown there
abbrev row : ℕ → ℕ → ℕ → ℕ → Shapes
row l s m t = record { 0 = l; 1 = s; 2 = m; 3 = t }

abbrev unknown : Shapes
unknown = row 0 0 0 0

-- "The kind alone decides how many bytes follow"; "Stages within a scope: 1, then 2, 3, 4–18, 19–20"
unfoldable pub kinds : List Shapes
kinds =
    -- 0
    unknown
    -- 1 scope: none; in code the scope number
    ∷ row 0 1 1 1
    -- 2 variable: type
    ∷ row 1 2 1 2
    -- 3 sub-scope: scope number
    ∷ row 1 3 1 3
    -- 4 constant: 0 no, 1 yes
    ∷ row 1 4 1 4
    -- 5 number: 4 bytes
    ∷ row 4 4 4 4
    -- 6 own variable: its number
    ∷ row 1 4 1 4
    -- 7 sub-scope variable: sub-scope, variable
    ∷ row 2 4 2 4
    -- 8 empty, 9 conflict: type; in code they are 32 and 33
    ∷ row 1 4 0 0
    ∷ row 1 4 0 0
    -- 10 not, 11 negate: node; in code none
    ∷ row 1 4 0 4
    ∷ row 1 4 0 4
    -- 12 and, 13 add, 14 subtract, 15 equal, 16 less: node, node; in code none
    ∷ row 2 4 0 4
    ∷ row 2 4 0 4
    ∷ row 2 4 0 4
    ∷ row 2 4 0 4
    ∷ row 2 4 0 4
    -- 17 if: condition, then, else
    ∷ row 3 4 0 0
    -- 18 default: three exceptions (255: none), justification, consequence
    ∷ row 5 4 0 0
    -- 19 definition: sub-scope (255: own), variable, parent clause (255: none), condition (255: always), consequence
    ∷ row 5 5 0 0
    -- 20 rule: as 19, but the last byte is 0 or 1 for no or yes
    ∷ row 5 5 0 0
    -- 21 to 31
    ∷ unknown
    ∷ unknown
    ∷ unknown
    ∷ unknown
    ∷ unknown
    ∷ unknown
    ∷ unknown
    ∷ unknown
    ∷ unknown
    ∷ unknown
    ∷ unknown
    -- 32 raise empty, 33 raise conflict
    ∷ row 0 0 0 4
    ∷ row 0 0 0 4
    -- 34 jump, 35 jump if no, 36 try: distance
    ∷ row 0 0 2 4
    ∷ row 0 0 2 4
    ∷ row 0 0 2 4
    -- 37 none: end of try; 38 push "nothing", 39 join
    ∷ row 0 0 0 4
    ∷ row 0 0 0 4
    ∷ row 0 0 0 4
    -- 40 settle: distance
    ∷ row 0 0 2 4
    -- 41 store: own variable
    ∷ row 0 0 1 4
    -- 42 override: sub-scope, variable
    ∷ row 0 0 2 4
    -- 43 enter: sub-scope
    ∷ row 0 0 1 4
    -- 44 jump if given: variable, distance
    ∷ row 0 0 3 4
    ∷ []

unfoldable pub shapes_of : ℕ → Shapes
shapes_of k = get_or kinds k unknown

-- a kind's shape where it stands: in a book or in code
abbrev pub pick_shape : Medium → Shapes → Shape
pick_shape Book s = record { length = s.0; stage = s.1 }
pick_shape Code s = record { length = s.2; stage = s.3 }

unfoldable pub shape_in : Medium → ℕ → Shape
shape_in m k = pick_shape m (shapes_of k)
