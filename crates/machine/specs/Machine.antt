-- The machine within one block: its stack, its open tries, what it holds of variables, and the effect of an instruction.
use Rattle.std.specs.Prelude.{ℕ, zero, suc, ◌+◌, ◌-◌, cond, List, [], ◌∷◌, length, get_or, set, drop, leb, ltb, Result, Ok, Err, Option, None, Some}
use Rattle.calculus.specs.Values.{truth_of}
use Rattle.calculus.specs.Operators.{unary_of, binary_of}
use Rattle.calculus.specs.Joining as joining
use Rattle.calculus.specs.declared.Value.{Value}
use Rattle.answers.specs.declared.Cause.{Cause}
use Rattle.answers.specs.declared.Cause.TheVariants.{Empty, Conflict, OutOfRange}
use Rattle.calculus.specs.declared.Joined.{Joined}
use Rattle.calculus.specs.declared.Joined.TheVariants.{Nothing, One, Many}
use Rattle.book.specs.Syntax.{same_type}
use Rattle.book.specs.Typing.{unary_type, operand_type}
use Rattle.book.specs.declared.ValueType.{ValueType}
use Rattle.book.specs.declared.ValueType.TheVariants.{YesNo}
use Rattle.lists.specs.Writing.{value_type}
use Rattle.evaluation.specs.Run.{Entered, values, ended}
use Rattle.machine.specs.Instructions.{Instruction, push, read_own, read_called, unary, binary, raise, jump, jump_if_no, begin_try, end_try, push_nothing, join, settle, store, override, enter, jump_if_given, unknown}

-- an own variable
pub data Cell : Type 0 where
  unset : Cell
  given stored : Value → Cell

-- a sub-scope: not entered yet, with what is handed over so far; or entered, with the values of its variables
pub data Callee : Type 0 where
  waiting : List (Option Value) → Callee
  entered : List Value → Callee

-- the own variables, the sub-scopes, and the count of scopes entered
pub record Memory : Type 0 where
  pub own : List Cell
  pub callees : List Callee
  pub count : ℕ

abbrev pub own_at : Memory → ℕ → Cell
own_at m x = get_or m.own x unset

abbrev pub callee_at : Memory → ℕ → Callee
callee_at m k = get_or m.callees k (waiting [])

abbrev pub with_own : Memory → ℕ → Value → Memory
with_own m x v = record { own = set m.own x (stored v); callees = m.callees; count = m.count }

abbrev pub with_callee : Memory → ℕ → Callee → ℕ → Memory
with_callee m k c n = record { own = m.own; callees = set m.callees k c; count = m.count + n }

-- an open try: how many bytes of the block remain where it lands, and the height of the stack that it keeps
pub record Try : Type 0 where
  pub lands : ℕ
  pub height : ℕ

-- what a run of a block or of code comes to: as an evaluation does, or 17, the paper's "stuck"
pub data Ran : Type 0 where
  ran : Entered → Ran
  stuck : Ran

-- after an instruction: go on so many bytes behind its end, or stop
pub data Next : Type 0 where
  go : ℕ → List Joined → List Try → Memory → Next
  stop : Ran → Next

-- "Conflict and out of range end the run"
abbrev pub ends : Cause → Memory → Next
ends c m = stop (ran (ended c m.count))

-- "1,024 stack entries .. passed in one entry"
abbrev pub pushed : Joined → List Joined → List Try → Memory → Next
pushed e st ts m = cond (ltb (length st) 1024) (go 0 (e ∷ st) ts m) (stop stuck)

-- "an instruction finding too few or other entries": one that takes a value
abbrev pub taking : List Joined → (Value → List Joined → Next) → Next
taking [] f = stop stuck
taking (Nothing ∷ st) f = stop stuck
taking (One v ∷ st) f = f v st
taking (Many ∷ st) f = stop stuck

-- one that wants a value of a type
abbrev pub wanting : ValueType → Value → Next → Next
wanting t v x = cond (same_type t (value_type v)) x (stop stuck)

-- what an operator gives is pushed, or ends the run
abbrev pub answered : Result Value Cause → List Joined → List Try → Memory → Next
answered (Ok v) st ts m = go 0 (One v ∷ st) ts m
answered (Err c) st ts m = ends c m

-- "Empty goes to the latest open try of the same block that lands further on than the raise, closing it and those opened after it and
-- cutting the stack to its height; without one it ends the run": `left` bytes of the block remain after the raise
unfoldable pub raised : ℕ → List Joined → List Try → Memory → Next
raised left st [] m = ends Empty m
raised left st (t ∷ ts) m =
    let outer = raised left st ts m in
    cond (leb t.lands left)
    -- "an empty raised with the stack below the try's height"
    (cond (leb t.height (length st)) (go (left - t.lands) (drop (length st - t.height) st) ts m) (stop stuck))
    outer

abbrev pub raising : Cause → ℕ → List Joined → List Try → Memory → Next
raising Empty left st ts m = raised left st ts m
raising Conflict left st ts m = ends Conflict m
raising (OutOfRange s) left st ts m = ends (OutOfRange s) m

-- "512 open tries passed in one entry"
abbrev pub tried : ℕ → List Joined → List Try → Memory → Next
tried at st ts m = cond (ltb (length ts) 512) (go 0 st (record { lands = at; height = length st } ∷ ts) m) (stop stuck)

-- "an end of try with none open"
abbrev pub closed : List Joined → List Try → Memory → Next
closed st [] m = stop stuck
closed st (t ∷ ts) m = go 0 st ts m

-- "join the top two": the one on top was found last
abbrev pub joined : List Joined → List Try → Memory → Next
joined [] ts m = stop stuck
joined (b ∷ []) ts m = stop stuck
joined (b ∷ a ∷ st) ts m = go 0 (joining.join a b ∷ st) ts m

-- "settle. Many raises conflict; a value stays and jumps; nothing is removed"
abbrev pub settled : ℕ → List Joined → List Try → Memory → Next
settled d [] ts m = stop stuck
settled d (Nothing ∷ st) ts m = go 0 st ts m
settled d (One v ∷ st) ts m = go d (One v ∷ st) ts m
settled d (Many ∷ st) ts m = ends Conflict m

-- "a read of what is neither given nor stored"
abbrev pub read_from : Cell → List Joined → List Try → Memory → Next
read_from unset st ts m = stop stuck
read_from (given v) st ts m = pushed (One v) st ts m
read_from (stored v) st ts m = pushed (One v) st ts m

-- the value at a place of a list; unset past its end
abbrev pub value_at : List Value → ℕ → Cell
value_at [] x = unset
value_at (v ∷ vs) zero = stored v
value_at (v ∷ vs) (suc x) = value_at vs x

-- a read "of a sub-scope not entered"
abbrev pub read_in : Callee → ℕ → List Joined → List Try → Memory → Next
read_in (waiting gs) x st ts m = stop stuck
read_in (entered vs) x st ts m = read_from (value_at vs x) st ts m

-- "a store to what is given"; "a second store"
abbrev pub stored_to : Cell → ℕ → Value → List Joined → List Try → Memory → Next
stored_to unset x v st ts m = go 0 st ts (with_own m x v)
stored_to (given w) x v st ts m = stop stuck
stored_to (stored w) x v st ts m = stop stuck

-- "a second store .. or an override after the entry"
abbrev pub handed_to : Option Value → List (Option Value) → ℕ → ℕ → Value → List Joined → List Try → Memory → Next
handed_to None gs k x v st ts m = go 0 st ts (with_callee m k (waiting (set gs x (Some v))) 0)
handed_to (Some w) gs k x v st ts m = stop stuck

abbrev pub overridden : Callee → ℕ → ℕ → Value → List Joined → List Try → Memory → Next
overridden (waiting gs) k x v st ts m = handed_to (get_or gs x None) gs k x v st ts m
overridden (entered vs) k x v st ts m = stop stuck

-- "Conflict and out of range end the run. So does an entered scope that ends without values"
abbrev pub returned : Ran → ℕ → List Joined → List Try → Memory → Next
returned (ran (values vs n)) k st ts m = go 0 st ts (with_callee m k (entered vs) n)
returned (ran (ended c n)) k st ts m = stop (ran (ended c (m.count + n)))
returned stuck k st ts m = stop stuck

-- "a second .. entry"; `run` is what entering with what is handed over comes to
abbrev pub entered_with : (List (Option Value) → Ran) → Callee → ℕ → List Joined → List Try → Memory → Next
entered_with run (waiting gs) k st ts m = returned (run gs) k st ts m
entered_with run (entered vs) k st ts m = stop stuck

-- "jump if given"
abbrev pub jumped_if_given : Cell → ℕ → List Joined → List Try → Memory → Next
jumped_if_given unset d st ts m = go 0 st ts m
jumped_if_given (given v) d st ts m = go d st ts m
jumped_if_given (stored v) d st ts m = go 0 st ts m

-- what a block's run rests on: the types of its variables and of those of its sub-scopes, and what entering a sub-scope comes to
pub record Surroundings : Type 0 where
  pub own_type : ℕ → ValueType
  pub called_type : ℕ → ℕ → ValueType
  pub enters : ℕ → List (Option Value) → Ran

-- the effect of an instruction, with so many bytes of the block left after it
unfoldable pub effect : Surroundings → Instruction → ℕ → List Joined → List Try → Memory → Next
effect env (push v) left st ts m = pushed (One v) st ts m
effect env (read_own x) left st ts m = read_from (own_at m x) st ts m
effect env (read_called k x) left st ts m = read_in (callee_at m k) x st ts m
effect env (unary op) left st ts m = taking st (λ v st₁. wanting (unary_type op) v (answered (unary_of op v) st₁ ts m))
-- "the right operand on top"
effect env (binary op) left st ts m =
    taking st (λ w st₁. taking st₁ (λ v st₂.
    wanting (operand_type op (value_type v)) v (wanting (operand_type op (value_type v)) w (answered (binary_of op v w) st₂ ts m))))
effect env (raise c) left st ts m = raising c left st ts m
effect env (jump d) left st ts m = go d st ts m
effect env (jump_if_no d) left st ts m = taking st (λ v st₁. wanting YesNo v (go (cond (truth_of v) 0 d) st₁ ts m))
effect env (begin_try d) left st ts m = tried (left - d) st ts m
effect env end_try left st ts m = closed st ts m
effect env push_nothing left st ts m = pushed Nothing st ts m
effect env join left st ts m = joined st ts m
effect env (settle d) left st ts m = settled d st ts m
effect env (store x) left st ts m = taking st (λ v st₁. wanting (env.own_type x) v (stored_to (own_at m x) x v st₁ ts m))
effect env (override k x) left st ts m =
    taking st (λ v st₁. wanting (env.called_type k x) v (overridden (callee_at m k) k x v st₁ ts m))
effect env (enter k) left st ts m = entered_with (env.enters k) (callee_at m k) k st ts m
effect env (jump_if_given x d) left st ts m = jumped_if_given (own_at m x) d st ts m
effect env unknown left st ts m = stop stuck
