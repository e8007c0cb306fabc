-- What the pass looks at in an instruction: what its body holds, what its numbers name, its distance, and what it leaves behind.
use Rattle.std.specs.Prelude.{ℕ, ◌+◌, ◌-◌, ◌*◌, ◌%◌, Bool, true, cond, ◌&&◌, ◌||◌, List, get_or, set, eqb, ltb}

-- what the body holds: 1 nothing, 2 no or yes, 3 a number, 4 an own variable, 5 a sub-scope and its variable, 6 a sub-scope, 7 a distance,
-- 8 an own variable and a distance; 0 of a kind that is no instruction
unfoldable pub form_of : ℕ → ℕ
form_of k =
    cond (eqb k 4) 2
    (cond (eqb k 5) 3
    (cond (eqb k 6 || eqb k 41) 4
    (cond (eqb k 7 || eqb k 42) 5
    (cond (eqb k 43) 6
    (cond (eqb k 34 || (eqb k 35 || (eqb k 36 || eqb k 40))) 7
    (cond (eqb k 44) 8
    (cond (eqb k 10 || (eqb k 11 || (eqb k 12 || (eqb k 13 || (eqb k 14 || (eqb k 15 || eqb k 16)))))) 1
    (cond (eqb k 32 || (eqb k 33 || (eqb k 37 || (eqb k 38 || eqb k 39)))) 1
    0))))))))

-- the same of an instruction, by its kind and the length of its body
unfoldable pub form_by : ℕ → ℕ → ℕ
form_by k n =
    cond (eqb n 0) 1
    (cond (eqb n 1) (cond (eqb k 4) 2 (cond (eqb k 43) 6 4))
    (cond (eqb n 2) (cond (eqb k 7 || eqb k 42) 5 7)
    (cond (eqb n 3) 8
    3)))

-- below what the number of an instruction with one byte is good: v variables, s sub-scopes
unfoldable pub limit_by : ℕ → ℕ → ℕ → ℕ
limit_by k v s = cond (eqb k 4) 2 (cond (eqb k 43) s v)

-- how many bytes a body of a form has
unfoldable pub length_of : ℕ → ℕ
length_of form = cond (eqb form 1) 0 (cond (eqb form 3) 4 (cond (eqb form 5 || eqb form 7) 2 (cond (eqb form 8) 3 1)))

-- the numbers a and b of a body are no or yes, or name something: v variables, s sub-scopes, of which sub-scope a has c variables
unfoldable pub named : ℕ → ℕ → ℕ → ℕ → ℕ → ℕ → Bool
named form a b v s c =
    cond (eqb form 2) (ltb a 2)
    (cond (eqb form 4 || eqb form 8) (ltb a v)
    (cond (eqb form 5) (ltb a s && ltb b c)
    (cond (eqb form 6) (ltb a s)
    true)))

-- the distance that ends at a position
unfoldable pub distance_at : List ℕ → ℕ → ℕ
distance_at code end = get_or code (end - 1) 0 * 256 + get_or code end 0

-- the distance of an instruction at a position; 0, which lands at its end, where it has none
unfoldable pub distance_of : ℕ → List ℕ → ℕ → ℕ
distance_of form code at = cond (eqb form 7) (distance_at code (at + 2)) (cond (eqb form 8) (distance_at code (at + 3)) 0)

-- the farther of two positions
unfoldable pub farthest : ℕ → ℕ → ℕ
farthest reach landing = cond (ltb reach landing) landing reach

-- the farthest landing after an instruction up to `next` that lands d behind it
unfoldable pub reach_after : ℕ → ℕ → ℕ → ℕ
reach_after reach next d = cond (eqb d 0) reach (farthest reach (next + d))

-- the marks after it: its own is cleared, and its landing is marked if it has a distance
unfoldable pub ring_after : List ℕ → ℕ → ℕ → ℕ → List ℕ
ring_after ring at next d = cond (eqb d 0) (set ring (at % 65536) 0) (set (set ring (at % 65536) 0) ((next + d) % 65536) 1)
