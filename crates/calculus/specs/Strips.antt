-- The trial strips a to m, in one table: what the calculus gives, and what is expected.
use Rattle.std.specs.Prelude.{◌≡◌, refl, true, false, List, [], ◌∷◌, ℕ, ◌-◌, pos, negsuc, Result, Ok, Err, Some}
use Rattle.calculus.specs.Terms.{Term, Terms, literal, error, unary, binary, default, none, also}
use Rattle.calculus.specs.Evaluation.{Env, eval, exceptions, step}
use Rattle.calculus.specs.declared.Value.TheVariants.{Truth, Number}
use Rattle.answers.specs.declared.Side.TheVariants.{Above}
use Rattle.answers.specs.declared.Cause.TheVariants.{Empty, Conflict, OutOfRange}
use Rattle.calculus.specs.declared.Unary.TheVariants.{Negate}
use Rattle.calculus.specs.declared.Binary.TheVariants.{Add}
use Rattle.answers.specs.declared.Cause.{Cause}
use Rattle.calculus.specs.declared.Value.{Value}

-- the strips read no variable
abbrev nothing : Env
nothing = record { own = λ x. Truth false; called = λ s x. Truth false }

abbrev yes' : Term
yes' = literal (Truth true)

abbrev no' : Term
no' = literal (Truth false)

abbrev num : ℕ → Term
num n = literal (Number (pos n))

abbrev empty : Term
empty = error Empty

abbrev conflict : Term
conflict = error Conflict

-- "big is 2,147,483,647"
abbrev big : ℕ
big = 2147483647

-- big + 1
abbrev past : Term
past = binary Add (num big) (num 1)

abbrev one : Term → Terms
one t = also t none

abbrev two : Term → Term → Terms
two t u = also t (one u)

abbrev three : Term → Term → Term → Terms
three t u v = also t (two u v)

abbrev value : ℕ → Result Value Cause
value n = Ok (Number (pos n))

-- what a strip gives, and what it is to give
pub data Row : Type 0 where
  row : Result Value Cause → Result Value Cause → Row

abbrev pub strips : List Row
strips =
    -- a [ | yes : 5] gives 5
    row (eval nothing (default none yes' (num 5))) (value 5)
    -- b [ | no : 5] empty
    ∷ row (eval nothing (default none no' (num 5))) (Err Empty)
    -- c [7 | no : 5] 7
    ∷ row (eval nothing (default (one (num 7)) no' (num 5))) (value 7)
    -- d [empty, 7 | yes : 5] 7
    ∷ row (eval nothing (default (two empty (num 7)) yes' (num 5))) (value 7)
    -- e [7, 7 | yes : 5] conflict
    ∷ row (eval nothing (default (two (num 7) (num 7)) yes' (num 5))) (Err Conflict)
    -- f [empty | empty : 5] empty
    ∷ row (eval nothing (default (one empty) empty (num 5))) (Err Empty)
    -- g [[ | no : 1] | yes : 2] 2
    ∷ row (eval nothing (default (one (default none no' (num 1))) yes' (num 2))) (value 2)
    -- h [conflict, big+1 | yes : 5] conflict
    ∷ row (eval nothing (default (two conflict past) yes' (num 5))) (Err Conflict)
    -- i [1, 2, big+1 | yes : 5] out of range; "strips i and l read above"
    ∷ row (eval nothing (default (three (num 1) (num 2) past) yes' (num 5))) (Err (OutOfRange Above))
    -- j empty + conflict is empty
    ∷ row (eval nothing (binary Add empty conflict)) (Err Empty)
    -- k conflict + empty is conflict
    ∷ row (eval nothing (binary Add conflict empty)) (Err Conflict)
    -- l negate −2,147,483,648 is out of range, (big−1)+1 is big; "Negating −2,147,483,648 is above"
    ∷ row (eval nothing (unary Negate (literal (Number (negsuc 2147483647))))) (Err (OutOfRange Above))
    -- l (big−1)+1
    ∷ row (eval nothing (binary Add (num (big - 1)) (num 1))) (value big)
    -- m given 9 where the definition is conflict: 9
    ∷ row (step (Some (Number (pos 9))) nothing conflict) (value 9)
    ∷ []

abbrev pub results : List Row → List (Result Value Cause)
results [] = []
results (row a b ∷ rows) = a ∷ results rows

abbrev pub expected : List Row → List (Result Value Cause)
expected [] = []
expected (row a b ∷ rows) = b ∷ expected rows

-- "Strips a–m are for proof": every strip gives what it is to give
pub strips_hold : results strips ≡ expected strips
unfolding eval exceptions
strips_hold = refl
