-- An evaluation that meets an empty override under the former meaning answers otherwise now: so `EvaluationMeets` is no larger than it must be. That the
-- former meaning is the one that was, `former_runs` of `agreement` shows by examples.
--     answers_changed     evaluating ended empty; now it ends otherwise, or enters more scopes
-- Assumes nothing.
use Prim.Native.Nat.{ℕ, suc, ◌+◌, ◌-◌, ◌<◌, ◌≤◌}
use mathlib.Core.Path.{◌≡◌, refl, sym, ap, ◌∙◌}
use mathlib.Core.Bool.{Bool, true, false, false≢true}
use mathlib.Core.List.{List, ◌∷◌}
use native.Mathlib.Omega.{arith}
use lib.ListN.{length, get_or, set}
use borrow.Author.Tests.{lt-ltb, le-ltb}
use Rattle.std.specs.Prelude.{Result, Ok, Option, None, Err}
use Rattle.calculus.specs.Evaluation.{step}
use Rattle.calculus.specs.declared.Value.{Value}
use Rattle.answers.specs.declared.Cause.{Cause}
use Rattle.answers.specs.declared.Cause.TheVariants.{Empty, Conflict, OutOfRange}
use Rattle.book.specs.Syntax.{Scope}
use Rattle.book.specs.Decode.{scopes_of}
use Rattle.book.specs.References.{scope_at}
use Rattle.book.specs.Trees.{tree, own_target}
use Rattle.book.specs.Steps.{step_order}
use Rattle.book.specs.Judge.{judge}
use Rattle.answers.specs.declared.Answer.{Answer}
use Rattle.answers.specs.declared.Answer.TheVariants.{Values, Ended}
use Rattle.acceptance.proofs.Orders.{accepted_book}
use Rattle.evaluation.specs.Handing.{Handed, falls_back, Handing, handed, failed}
use Rattle.evaluation.specs.Run.{Entered, values, ended, State, env_of, on_entered, on_handing, begin, run_steps_by, run_steps, run_scope_by, run_scope}
use Rattle.evaluation.specs.Readiness.{callee_of, hands_over, with_variable, with_call}
use Rattle.evaluation.specs.Evaluate.{Reply, reply_of, evaluate_by, evaluate}
use Rattle.evaluation.specs.Former.{ends_caller, former_hands_over, former_run_scope, former_evaluate, CallMeetsEmpty, MeetsEmptyFrom, MeetsEmpty, EvaluationMeets}
use Rattle.evaluation.proofs.Running.{count_of, Steps, call_number, steps_count}
use Rattle.evaluation.proofs.Entering.{steps_of, accepted_entered_by, accepted_entered_steps, accepted_entered_count, accepted_by_blocks}
use Rattle.evaluation.proofs.Cases.{evaluate_run}
use Rattle.evaluation.proofs.Handing.{handing_kept, empty_ends, never_empty, fails_empty}
use Rattle.evaluation.proofs.Former.{run_kept}
use Rattle.answers.specs.declared.Refusal.{Refusal}

-- no end by empty with this count: another end, or more scopes entered
abbrev Apart : Entered → ℕ → Type 0
Apart (values vs n) c = c < n
Apart (ended Empty n) c = c < n
Apart (ended Conflict n) c = Unit {0}
Apart (ended (OutOfRange s) n) c = Unit {0}

apart_later : (r : Entered) (c : ℕ) → c < count_of r → Apart r c
apart_later (values vs n) c l = l
apart_later (ended Empty n) c l = l
apart_later (ended Conflict n) c l = tt
apart_later (ended (OutOfRange s) n) c l = tt

apart_failed : (d : Cause) (n c : ℕ) → (failed d ≡ failed Empty → ⊥) → Apart (ended d n) c
apart_failed Empty n c other = absurd (other refl)
apart_failed Conflict n c other = tt
apart_failed (OutOfRange s) n c other = tt

apart_entered : (r : Entered) (count c : ℕ) (go : List Value → ℕ → Entered) → ((vs : List Value) (m : ℕ) → m ≤ count_of (go vs m)) → Apart r c
    → Apart (on_entered r count go) (count + c)
apart_entered (values vs n) count c go grows l = apart_later (go vs (count + n)) (count + c) (omega (arith, grows vs (count + n)))
apart_entered (ended Empty n) count c go grows l = omega arith
apart_entered (ended Conflict n) count c go grows l = tt
apart_entered (ended (OutOfRange s) n) count c go grows l = tt

-- the former run ends empty; the amended one does not end empty with the same count
record Changed (former amended : Entered) : Type 0 where
  count : ℕ
  ends : former ≡ ended Empty count
  apart : Apart amended count

is_values : Entered → Bool
is_values (values vs n) = true
is_values (ended c n) = false

changed_none : {former amended : Entered} {vs : List Value} {n : ℕ} → former ≡ values vs n → Changed former amended → ⊥
unfolding is_values
changed_none e c = false≢true (ap is_values (sym c.ends ∙ e))

module _ (bytes : List ℕ) (n : ℕ) (accepted : judge bytes ≡ Ok n) where
  abbrev scopes : List Scope
  scopes = scopes_of bytes

  -- what is to be shown of scope i
  abbrev ScopeChanged : ℕ → Type 0
  ScopeChanged i = (given : List (Option Value)) → MeetsEmpty scopes i given → Changed (former_run_scope scopes i given) (run_scope scopes i given)

  -- the steps of scope i from a state on
  abbrev StepsChanged : ℕ → List (Option Value) → List ℕ → State → Type 0
  StepsChanged i given xs st =
      Changed (run_steps_by ends_caller scopes (former_run_scope scopes) (scope_at scopes i) given xs st)
      (run_steps scopes (run_scope scopes) (scope_at scopes i) given xs st)

  module _ (i : ℕ) (below : i < n)
      (earlier : (k : ℕ) → k < length (scope_at scopes i).sub_scopes → ScopeChanged (get_or (scope_at scopes i).sub_scopes k 0)) where
    module _ (x : ℕ) (xs : List ℕ) (st : State) (given : List (Option Value)) (here : Steps (scope_at scopes i) (x ∷ xs)) (l : length (scope_at scopes i).variables ≤ x) where
      abbrev i_th : Scope
      i_th = scope_at scopes i

      abbrev call : ℕ
      call = x - length i_th.variables

      there : call < length i_th.sub_scopes
      there = call_number i_th x (here 0 (omega arith)) l

      callee_below : callee_of i_th x < n
      callee_below = let a = accepted_book bytes n accepted in omega (arith, a.count, (a.formed i below).sub_scopes_named call there)

      abbrev go : List Value → ℕ → Entered
      go vs m = run_steps scopes (run_scope scopes) i_th given xs (record { own = st.own; called = set st.called call vs; count = m })

      grows : (vs : List Value) (m : ℕ) → m ≤ count_of (go vs m)
      grows vs m = steps_count scopes (run_scope scopes) i_th given xs (record { own = st.own; called = set st.called call vs; count = m })

      -- the amended call: its overrides hand over, and the scope is entered, or end by another cause than empty
      call_apart : (h : Handing) → (h ≡ failed Empty → ⊥)
          → Apart (on_handing h st.count (λ gs. on_entered (run_scope scopes (callee_of i_th x) gs) st.count go)) (st.count + 0)
      call_apart (failed d) other = apart_failed d st.count (st.count + 0) other
      call_apart (handed gs) other =
          let r = run_scope scopes (callee_of i_th x) gs in
          apart_entered r st.count 0 go grows (apart_later r 0 (accepted_entered_count bytes n accepted (callee_of i_th x) callee_below gs))

      here_changed : CallMeetsEmpty (env_of st) i_th call 0 (scope_at scopes (callee_of i_th x)).variables → StepsChanged i given (x ∷ xs) st
      unfolding run_steps_by
      here_changed m =
          let vars = (scope_at scopes (callee_of i_th x)).variables in
          let z : st.count + 0 ≡ st.count = omega arith in
          record {
            count = st.count + 0;
            ends = rw (le-ltb x (length i_th.variables) l, empty_ends (env_of st) i_th call 0 vars m) (ap (ended Empty) (sym z));
            apart = rw (le-ltb x (length i_th.variables) l) (call_apart (hands_over scopes i_th st x) (never_empty (env_of st) i_th call 0 vars));
          }

      -- the overrides hand over the same under both meanings
      module _ (gs : List (Option Value)) (h : former_hands_over scopes i_th st x ≡ handed gs) where
        hands_same : hands_over scopes i_th st x ≡ handed gs
        hands_same =
            handing_kept (env_of st) i_th call 0 (scope_at scopes (callee_of i_th x)).variables (λ q. false≢true (ap fails_empty (sym h ∙ q))) ∙ h

        deeper_changed : Changed (former_run_scope scopes (callee_of i_th x) gs) (run_scope scopes (callee_of i_th x) gs) → StepsChanged i given (x ∷ xs) st
        unfolding run_steps_by
        deeper_changed c =
            record {
              count = st.count + c.count;
              ends = rw (le-ltb x (length i_th.variables) l, h, c.ends);
              apart = rw (le-ltb x (length i_th.variables) l, hands_same)
                  (apart_entered (run_scope scopes (callee_of i_th x) gs) st.count c.count go grows c.apart);
            }

        call_changed : (vs : List Value) (m : ℕ) → former_run_scope scopes (callee_of i_th x) gs ≡ values vs m
            → StepsChanged i given xs (with_call st call vs m) → StepsChanged i given (x ∷ xs) st
        unfolding run_steps_by
        call_changed vs m e c =
            let same : run_scope scopes (callee_of i_th x) gs ≡ values vs m =
            sym (run_kept bytes n accepted (callee_of i_th x) callee_below gs (λ met. changed_none e (earlier call there gs met))) ∙ e in
            record {
              count = c.count;
              ends = rw (le-ltb x (length i_th.variables) l, h, e) c.ends;
              apart = rw (le-ltb x (length i_th.variables) l, hands_same, same) c.apart;
            }

    variable_changed : (x : ℕ) (xs : List ℕ) (st : State) (given : List (Option Value)) (y : Value) → x < length (scope_at scopes i).variables
        → step (get_or given x None) (env_of st) (tree (scope_at scopes i) (own_target x)) ≡ Ok y
        → StepsChanged i given xs (with_variable st x y) → StepsChanged i given (x ∷ xs) st
    unfolding run_steps_by
    variable_changed x xs st given y l e c =
        record {
          count = c.count;
          ends = rw (lt-ltb x (length (scope_at scopes i).variables) l, e) c.ends;
          apart = rw (lt-ltb x (length (scope_at scopes i).variables) l, e) c.apart;
        }

    steps_changed : (given : List (Option Value)) (xs : List ℕ) (st : State) → Steps (scope_at scopes i) xs → MeetsEmptyFrom scopes i given xs st
        → StepsChanged i given xs st
    steps_changed given xs st few (MeetsEmptyFrom.here {x = x} {xs = ys} l m) = here_changed x ys st given few l m
    steps_changed given xs st few (MeetsEmptyFrom.deeper {x = x} {xs = ys} gs l h m) =
        deeper_changed x ys st given few l gs h (earlier (x - length (scope_at scopes i).variables) (there x ys st given few l) gs m)
    steps_changed given xs st few (MeetsEmptyFrom.variable {x = x} {xs = ys} y l e m) =
        variable_changed x ys st given y l e (steps_changed given ys (with_variable st x y) (λ j r. few (suc j) (omega arith)) m)
    steps_changed given xs st few (MeetsEmptyFrom.call {x = x} {xs = ys} gs vs c l h e m) =
        call_changed x ys st given few l gs h vs c e
        (steps_changed given ys (with_call st (x - length (scope_at scopes i).variables) vs c) (λ j r. few (suc j) (omega arith)) m)

  run_changed : (i : ℕ) → i < n → ScopeChanged i
  run_changed =
      accepted_by_blocks bytes n accepted ScopeChanged
      (λ i l earlier given m.
      let s = scope_at scopes i in
      let c = steps_changed i l earlier given (step_order s) (begin s) (steps_of s) m in
      record {
        count = c.count;
        ends = accepted_entered_by bytes n accepted ends_caller i l given ∙ c.ends;
        apart = rw (accepted_entered_steps bytes n accepted i l given) c.apart;
      })

-- answers of an end by empty, and of what is apart from it
empty_count : Result Answer Refusal → ℕ
empty_count (Ok (Ended Empty n)) = n
empty_count (Ok (Ended Conflict n)) = 0
empty_count (Ok (Ended (OutOfRange s) n)) = 0
empty_count (Ok (Values n m)) = 0
empty_count (Err r) = 0

answers_empty : Result Answer Refusal → Bool
answers_empty (Ok (Ended Empty n)) = true
answers_empty (Ok (Ended Conflict n)) = false
answers_empty (Ok (Ended (OutOfRange s) n)) = false
answers_empty (Ok (Values n m)) = false
answers_empty (Err r) = false

apart_answers : (r : Entered) (c : ℕ) → Apart r c → (reply_of (ended Empty c)).answer ≡ (reply_of r).answer → ⊥
unfolding empty_count answers_empty
apart_answers (values vs n) c l q = false≢true (ap answers_empty (sym q))
apart_answers (ended Empty n) c l q = let z : c ≡ n = ap empty_count q in omega arith
apart_answers (ended Conflict n) c l q = false≢true (ap answers_empty (sym q))
apart_answers (ended (OutOfRange s) n) c l q = false≢true (ap answers_empty (sym q))

pub answers_changed : (bytes : List ℕ) (i : ℕ) (list : List ℕ) (room : ℕ) → EvaluationMeets bytes i list room
    → (former_evaluate bytes i list room).answer ≡ (evaluate bytes i list room).answer → ⊥
answers_changed bytes i list room m q =
    let e = m.entering in
    let a = e.asked in
    let c = run_changed bytes a.scopes a.accepted i a.present e.given m.meets in
    let answers : (by : Result Value Cause → Handed) → evaluate_by by bytes i list room ≡ reply_of (run_scope_by by (scopes_of bytes) i e.given) =
    λ by. evaluate_run by bytes i list room a.scopes a.accepted a.present e.given e.read e.enough in
    apart_answers (run_scope (scopes_of bytes) i e.given) c.count c.apart
    (ap (λ (r : Entered). (reply_of r).answer) (sym c.ends)
    ∙ ap (λ (r : Reply). r.answer) (sym (answers ends_caller))
    ∙ q
    ∙ ap (λ (r : Reply). r.answer) (answers falls_back))
