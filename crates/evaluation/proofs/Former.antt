-- "Runs that meet no such override keep their answers" (paper 02, No. 5).
--     run_kept            of an accepted book: a run that meets no empty override under the former meaning comes to the same, with the same count
--     answers_kept        so evaluating answers the same, and writes the same bytes, for all bytes
-- Assumes nothing.
use Prim.Native.Nat.{ℕ, suc, ◌+◌, ◌-◌, ◌<◌}
use mathlib.Core.Path.{◌≡◌, refl, sym, ap, ◌∙◌}
use mathlib.Core.Bool.{true, false}
use mathlib.Core.List.{List, [], ◌∷◌}
use mathlib.Core.Logic.{⊎_elim}
use native.Mathlib.Omega.{arith}
use lib.ListN.{length, get_or}
use lib.Dec.{ltb}
use borrow.Author.Tests.{ltb-true, ltb-false}
use Rattle.std.specs.Prelude.{Result, Ok, Err, Option, None}
use Rattle.laws.proofs.Booleans.{decide}
use Rattle.calculus.specs.Evaluation.{step}
use Rattle.calculus.specs.declared.Value.{Value}
use Rattle.book.specs.Syntax.{Scope}
use Rattle.book.specs.Decode.{scopes_of}
use Rattle.book.specs.References.{scope_at}
use Rattle.book.specs.Trees.{tree, own_target}
use Rattle.book.specs.Steps.{step_order}
use Rattle.book.specs.Judge.{judge}
use Rattle.evaluation.specs.Handing.{Handing, handed, failed}
use Rattle.evaluation.specs.Run.{Entered, values, ended, State, env_of, on_value, on_entered, on_handing, begin, run_steps_by, run_steps, run_scope}
use Rattle.evaluation.specs.Readiness.{callee_of, hands_over, with_variable, with_call}
use Rattle.evaluation.specs.Evaluate.{Reply, reply_of, evaluate}
use Rattle.evaluation.specs.Answers.{Entering, Replied}
use Rattle.evaluation.specs.Former.{ends_caller, former_hands_over, former_run_scope, former_evaluate, MeetsEmptyFrom, MeetsEmpty, EvaluationMeets}
use Rattle.evaluation.proofs.Running.{Steps, call_number}
use Rattle.evaluation.proofs.Entering.{steps_of, accepted_entered_by, accepted_entered_steps, accepted_by_blocks}
use Rattle.evaluation.proofs.Cases.{evaluate_faulty, evaluate_absent, evaluate_malformed, evaluate_short, evaluate_run}
use Rattle.evaluation.proofs.Answers.{replied}
use Rattle.evaluation.proofs.Handing.{handing_kept, ends_empty_lem}
use Rattle.answers.specs.declared.Cause.{Cause}

-- A whole run

on_value_lem : (o : Result Value Cause) (count : ℕ) (f g : Value → Entered) → ((y : Value) → o ≡ Ok y → f y ≡ g y) → on_value o count f ≡ on_value o count g
on_value_lem (Ok y) count f g h = h y refl
on_value_lem (Err c) count f g h = refl

on_entered_lem : (r t : Entered) (count : ℕ) (f g : List Value → ℕ → Entered) → r ≡ t
    → ((vs : List Value) (n : ℕ) → r ≡ values vs n → f vs (count + n) ≡ g vs (count + n)) → on_entered r count f ≡ on_entered t count g
on_entered_lem (values vs n) t count f g e h = h vs n refl ∙ ap (λ (z : Entered). on_entered z count g) e
on_entered_lem (ended c n) t count f g e h = ap (λ (z : Entered). on_entered z count g) e

on_handing_lem : (r t : Handing) (count : ℕ) (f g : List (Option Value) → Entered) → t ≡ r → ((gs : List (Option Value)) → r ≡ handed gs → f gs ≡ g gs)
    → on_handing r count f ≡ on_handing t count g
on_handing_lem (handed gs) t count f g e h = h gs refl ∙ ap (λ (z : Handing). on_handing z count g) (sym e)
on_handing_lem (failed c) t count f g e h = ap (λ (z : Handing). on_handing z count g) (sym e)

-- scope i, where what is to be shown holds of the scopes that its sub-scopes name
module _ (book : List Scope) (i : ℕ) (given : List (Option Value))
    (earlier : (k : ℕ) → k < length (scope_at book i).sub_scopes → (gs : List (Option Value))
    → (MeetsEmpty book (get_or (scope_at book i).sub_scopes k 0) gs → ⊥)
    → former_run_scope book (get_or (scope_at book i).sub_scopes k 0) gs ≡ run_scope book (get_or (scope_at book i).sub_scopes k 0) gs) where
  abbrev s : Scope
  s = scope_at book i

  abbrev own : ℕ
  own = length s.variables

  steps_kept : (xs : List ℕ) → Steps s xs → (st : State) → (MeetsEmptyFrom book i given xs st → ⊥)
      → run_steps_by ends_caller book (former_run_scope book) s given xs st ≡ run_steps book (run_scope book) s given xs st
  unfolding run_steps_by
  steps_kept [] below st never = refl
  steps_kept (x ∷ xs) below st never =
      let later : Steps s xs = λ j l. below (suc j) (omega arith) in
      let k = x - own in
      let c = callee_of s x in
      ⊎_elim
      (λ (q : ltb x own ≡ true).
      let l = ltb-true x own q in
      rw q
      (on_value_lem (step (get_or given x None) (env_of st) (tree s (own_target x))) st.count _ _
      (λ y e. steps_kept xs later (with_variable st x y) (λ m. never (MeetsEmptyFrom.variable y l e m)))))
      (λ (q : ltb x own ≡ false).
      let l = ltb-false x own q in
      rw q
      (on_handing_lem (former_hands_over book s st x) (hands_over book s st x) st.count _ _
      (handing_kept (env_of st) s k 0 (scope_at book c).variables (λ e. never (MeetsEmptyFrom.here l (ends_empty_lem (env_of st) s k 0 (scope_at book c).variables e))))
      (λ gs h. on_entered_lem (former_run_scope book c gs) (run_scope book c gs) st.count _ _
      (earlier k (call_number s x (below 0 (omega arith)) l) gs (λ m. never (MeetsEmptyFrom.deeper gs l h m)))
      (λ vs n e. steps_kept xs later (with_call st k vs n) (λ m. never (MeetsEmptyFrom.call gs vs n l h e m))))))
      (decide (ltb x own))

module _ (bytes : List ℕ) (n : ℕ) (accepted : judge bytes ≡ Ok n) where
  pub run_kept : (i : ℕ) → i < n → (given : List (Option Value)) → (MeetsEmpty (scopes_of bytes) i given → ⊥)
      → former_run_scope (scopes_of bytes) i given ≡ run_scope (scopes_of bytes) i given
  run_kept =
      accepted_by_blocks bytes n accepted
      (λ i. (given : List (Option Value)) → (MeetsEmpty (scopes_of bytes) i given → ⊥) → former_run_scope (scopes_of bytes) i given ≡ run_scope (scopes_of bytes) i given)
      (λ i l earlier given never.
      let book = scopes_of bytes in
      let s = scope_at book i in
      accepted_entered_by bytes n accepted ends_caller i l given
      ∙ steps_kept book i given earlier (step_order s) (steps_of s) (begin s) never
      ∙ sym (accepted_entered_steps bytes n accepted i l given))

-- The service

module _ (bytes : List ℕ) (i : ℕ) (list : List ℕ) (room : ℕ) (never : EvaluationMeets bytes i list room → ⊥) where
  run_same : (e : Entering bytes i list room) → former_run_scope (scopes_of bytes) i e.given ≡ run_scope (scopes_of bytes) i e.given
  run_same e =
      let a = e.asked in
      run_kept bytes a.scopes a.accepted i a.present e.given (λ m. never (record { entering = e; meets = m }))

  former_run : (e : Entering bytes i list room) → former_evaluate bytes i list room ≡ reply_of (run_scope (scopes_of bytes) i e.given)
  former_run e =
      let a = e.asked in
      evaluate_run ends_caller bytes i list room a.scopes a.accepted a.present e.given e.read e.enough ∙ ap reply_of (run_same e)

  former_reply : (r : Reply) → Replied bytes i list room r → former_evaluate bytes i list room ≡ r
  former_reply r (Replied.faulty f e) = evaluate_faulty ends_caller bytes i list room f e
  former_reply r (Replied.absent n e l) = evaluate_absent ends_caller bytes i list room n e l
  former_reply r (Replied.malformed a e) = evaluate_malformed ends_caller bytes i list room a.scopes a.accepted a.present e
  former_reply r (Replied.short a given e l) = evaluate_short ends_caller bytes i list room a.scopes a.accepted a.present given e l
  former_reply r (Replied.stopped e cause count h) = former_run e ∙ ap reply_of h
  former_reply r (Replied.finished e vs count h) = former_run e ∙ ap reply_of h

  pub answers_kept : former_evaluate bytes i list room ≡ evaluate bytes i list room
  answers_kept = former_reply (evaluate bytes i list room) (replied bytes i list room)
