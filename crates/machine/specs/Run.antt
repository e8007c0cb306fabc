-- Running a block by recursion on its remaining bytes, and entering blocks.
use Rattle.std.specs.Prelude.{ℕ, zero, suc, ◌+◌, Bool, true, false, cond, List, [], ◌∷◌, map, length, get_or, drop, eqb, Option, None, Some}
use Rattle.calculus.specs.declared.Value.{Value}
use Rattle.calculus.specs.declared.Joined.{Joined}
use Rattle.book.specs.declared.ValueType.{ValueType}
use Rattle.book.specs.declared.ValueType.TheVariants.{YesNo}
use Rattle.book.specs.declared.Variable.{Variable}
use Rattle.evaluation.specs.Run.{values}
use Rattle.machine.specs.Instructions.{instruction_of}
use Rattle.machine.specs.Blocks.{Block, body_length, variables_of}
use Rattle.machine.specs.Machine.{Cell, unset, given, stored, Callee, waiting, entered, Memory, Try, Ran, ran, stuck, Next, go, stop, Surroundings, effect}

-- every variable's value, or none where one is "neither given nor stored"
pub data Finals : Type 0 where
  missing : Finals
  finals : List Value → Finals

abbrev pub in_front : Value → Finals → Finals
in_front v missing = missing
in_front v (finals vs) = finals (v ∷ vs)

abbrev pub finals_of : List Cell → Finals
finals_of [] = finals []
finals_of (unset ∷ cs) = missing
finals_of (given v ∷ cs) = in_front v (finals_of cs)
finals_of (stored v ∷ cs) = in_front v (finals_of cs)

abbrev pub all_entered : List Callee → Bool
all_entered [] = true
all_entered (waiting gs ∷ cs) = false
all_entered (entered vs ∷ cs) = all_entered cs

-- "a block's end with a variable neither given nor stored or a sub-scope not entered"
abbrev pub whole : Finals → Bool → ℕ → Ran
whole missing b n = stuck
whole (finals vs) false n = stuck
whole (finals vs) true n = ran (values vs n)

abbrev pub at_end : Memory → Ran
at_end m = whole (finals_of m.own) (all_entered m.callees) m.count

abbrev pub follow : Next → (ℕ → List Joined → List Try → Memory → Ran) → Ran
follow (go d st ts m) f = f d st ts m
follow (stop r) f = r

-- the bytes of a block from here on, n of them to pass first: "So nothing ever goes back"
unfoldable pub exec : Surroundings → List ℕ → ℕ → List Joined → List Try → Memory → Ran
exec env [] n st ts m = at_end m
exec env (b ∷ rest) (suc n) st ts m = exec env rest n st ts m
exec env (k ∷ rest) zero st ts m =
    follow (effect env (instruction_of k rest) (length (drop (body_length k) rest)) st ts m)
    (λ d st₁ ts₁ m₁. exec env rest (body_length k + d) st₁ ts₁ m₁)

abbrev pub type_in : List Variable → ℕ → ValueType
type_in xs x = (get_or xs x (record { holds = YesNo })).holds

abbrev pub cell_of : Option Value → Cell
cell_of None = unset
cell_of (Some v) = given v

-- nothing is handed over yet to the block of scope i
abbrev pub begins : List Block → ℕ → Callee
begins earlier i = waiting (map (λ x. None) (variables_of earlier i))

-- "one for the scope asked for and one for each entry the run made"
abbrev pub begin : List Block → Block → List (Option Value) → Memory
begin earlier b gs = record { own = map cell_of gs; callees = map (begins earlier) b.sub_scopes; count = 1 }

-- a block's variables and sub-scopes have the types of its kinds 2 and of the earlier blocks'
abbrev pub surroundings : List Block → Block → (ℕ → List (Option Value) → Ran) → Surroundings
surroundings earlier b enters =
    record {
      own_type = type_in b.variables;
      called_type = λ k x. type_in (variables_of earlier (get_or b.sub_scopes k 0)) x;
      enters = λ k gs. enters (get_or b.sub_scopes k 0) gs;
    }

-- entering the block of scope i with what is given; "An entered block starts with an empty stack and no open try"
unfoldable pub run_in : List Block → ℕ → List (Option Value) → Ran
run_in [] i gs = stuck
run_in (b ∷ earlier) i gs =
    let here = exec (surroundings earlier b (λ j handed. run_in earlier j handed)) b.body 0 [] [] (begin earlier b gs) in
    cond (eqb b.scope i) here (run_in earlier i gs)
