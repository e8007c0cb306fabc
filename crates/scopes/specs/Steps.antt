-- Running the steps of a scope over cells.
use Rattle.std.specs.Prelude.{ℕ, zero, suc, ◌*◌, ◌<◌, ◌≡◌, true, cond, List, [], ◌∷◌, reverse, length, get_or, take, drop, ltb, Result, Option, Ok, Err}
use Rattle.calculus.specs.Evaluation.{step}
use Rattle.cells.specs.Codec.{empty_cell, cause_of, Kept, AllKept}
use Rattle.cells.specs.Cells.{given_of, given_at}
use Rattle.book.specs.Syntax.{Scope}
use Rattle.book.specs.Decode.{scopes_of}
use Rattle.book.specs.References.{scope_at}
use Rattle.book.specs.Scopes.{blocks}
use Rattle.book.specs.Trees.{tree, own_target}
use Rattle.book.specs.Steps.{step_count, step_order}
use Rattle.book.specs.Judge.{judge}
use Rattle.book.specs.declared.Variable.{Variable}
use Rattle.terms.specs.Outcomes.{env_of}
use Rattle.lists.specs.Inputs.{is_given}
use Rattle.lists.specs.Writing.{values_of}
use Rattle.links.specs.Links.{Sound, AllLinked}
use Rattle.trees.specs.Rows.{Evaluable}
use Rattle.evaluation.specs.Handing.{Handed, hands, stops, Handing, handed, failed, override, handing}
use Rattle.evaluation.specs.Run.{Entered, values, ended, enter}
use Rattle.scopes.specs.declared.Ended.{Ended}
use Rattle.answers.specs.declared.Cause.{Cause}
use Rattle.calculus.specs.declared.Value.{Value}

-- what own variable x of scope i comes to
unfoldable pub step_outcome : List ℕ → List ℕ → List ℕ → List ℕ → ℕ → ℕ → Result Value Cause
step_outcome bytes given own called i x = step (given_at given x) (env_of own called) (tree (scope_at (scopes_of bytes) i) (own_target x))

-- own variable x of scope i can be evaluated: it has cells, with nothing or a value in each
pub record Stepping (bytes index links given own called : List ℕ) (i x : ℕ) : Type 0 where
  pub evaluable : Evaluable bytes index links own called i
  pub given_kept : AllKept given
  pub room : x < length given

-- what variable v of sub-scope k is handed
unfoldable pub override_at : List ℕ → List ℕ → List ℕ → ℕ → ℕ → ℕ → Handed
override_at bytes own called i k v = override (env_of own called) (scope_at (scopes_of bytes) i) k v

-- what is handed over, or the cause of an end, by the cell
abbrev pub handed_of : ℕ → Handed
handed_of c = cond (ltb c empty_cell) (hands (given_of c)) (stops (cause_of c))

-- the cell of what variable v of sub-scope k is handed: nothing, a value, or an end
pub record Hands (bytes own called : List ℕ) (i k v c : ℕ) : Type 0 where
  pub same : handed_of c ≡ override_at bytes own called i k v
  pub kept : c < empty_cell → Kept c

-- what n cells from v on hold, as what is given
unfoldable pub givens_from : List ℕ → ℕ → ℕ → List (Option Value)
givens_from cells v zero = []
givens_from cells v (suc n) = given_at cells v ∷ givens_from cells (suc v) n

-- the variables of the scope that sub-scope k of scope i names
abbrev pub called_variables : List Scope → ℕ → ℕ → List Variable
called_variables book i k = (scope_at book (get_or (scope_at book i).sub_scopes k 0)).variables

abbrev pub called_count : List Scope → ℕ → ℕ → ℕ
called_count book i k = length (scope_at book (get_or (scope_at book i).sub_scopes k 0)).variables

-- what a call hands over: the list, or the cause where the cell is an end's
abbrev pub handing_of : ℕ → List (Option Value) → Handing
handing_of c gs = cond (ltb c empty_cell) (handed gs) (failed (cause_of c))

-- the variables of sub-scope k of scope i can be handed over: there are cells for them, with nothing or a value in each
pub record HandsAll (bytes index links own called : List ℕ) (i k : ℕ) (handed : List ℕ) : Type 0 where
  pub evaluable : Evaluable bytes index links own called i
  pub number : k < 8
  pub room : length handed ≡ 32
  pub kept : AllKept handed

-- they were handed over, up to the first end: the cell of that end, or nothing, and the cells handed over
pub record HandedAll (bytes own called : List ℕ) (i k c : ℕ) (handed : List ℕ) : Type 0 where
  pub size : length handed ≡ 32
  pub kept : AllKept handed
  pub same : handing_of c (givens_from handed 0 (called_count (scopes_of bytes) i k))
      ≡ handing (env_of own called) (scope_at (scopes_of bytes) i) k 0 (called_variables (scopes_of bytes) i k)

-- the tables that a run rests on
pub record World (bytes index links orders : List ℕ) : Type 0 where
  pub accepted : judge bytes ≡ Ok (length (scopes_of bytes))
  pub sound : Sound bytes index
  pub linked : AllLinked bytes (length (scopes_of bytes)) links
  pub step_orders : (i : ℕ) → i < length (scopes_of bytes)
      → take (step_count (scope_at (scopes_of bytes) i)) (drop (i * 40) orders) ≡ step_order (scope_at (scopes_of bytes) i)

-- what entering scope i comes to, given what the cells say
unfoldable pub entered_at : List ℕ → ℕ → List ℕ → Entered
entered_at bytes i given =
    enter (scopes_of bytes) (reverse (blocks (scopes_of bytes))) i (givens_from given 0 (length (scope_at (scopes_of bytes) i).variables))

abbrev pub ran_view : Result ℕ Ended → List ℕ → ℕ → Entered
ran_view (Ok m) own n = values (values_of own n) m
ran_view (Err e) own n = ended e.cause e.count

-- a run ended as it should, and its values are in the cells, each of which holds nothing or a value
pub record Came (bytes : List ℕ) (i : ℕ) (given : List ℕ) (r : Result ℕ Ended) (own : List ℕ) : Type 0 where
  pub size : length own ≡ 32
  pub same : ran_view r own (length (scope_at (scopes_of bytes) i).variables) ≡ entered_at bytes i given
  pub kept : AllKept own
  pub present : (m : ℕ) → r ≡ Ok m → (x : ℕ) → x < length (scope_at (scopes_of bytes) i).variables → is_given (given_at own x) ≡ true
