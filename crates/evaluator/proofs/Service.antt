-- What the service answers, by the tests that it makes.
--     refused_book, refused-scope, refused-input, refused-room      1 to 12, 13, 14, 15
--     evaluated                           a good list and enough room: what the run comes to
--     blank_links, blank-memo, scopes-few, runs-loaded    what the functions called ask for
-- Assumes nothing.
use Prim.Native.Nat.{ℕ, ◌*◌, ◌<◌, ◌≤◌}
use mathlib.Core.Path.{◌≡◌, sym, ap, ◌∙◌}
use mathlib.Core.List.{List}
use native.Mathlib.Omega.{arith}
use lib.ListN.{length, replicate}
use Rattle.std.specs.Prelude.{Option, Ok, Err, Result}
use Rattle.book.specs.Decode.{scopes_of}
use Rattle.book.specs.References.{scope_at}
use Rattle.book.specs.Judge.{judge}
use Rattle.answers.specs.declared.Fault.{Fault}
use Rattle.acceptance.proofs.Acceptance.{accepted_count}
use Rattle.lists.specs.Inputs.{bad, inputs}
use Rattle.lists.specs.Reading.{Taken}
use Rattle.lists.specs.Writing.{result_length_at}
use Rattle.links.specs.Links.{Blanks, AllLinked}
use Rattle.evaluation.specs.Handing.{falls_back}
use Rattle.evaluation.specs.Run.{run_scope}
use Rattle.evaluation.specs.Evaluate.{reply_of, evaluate}
use Rattle.answers.specs.declared.Refusal.TheVariants.{Book, NoSuchScope, BadInput, BufferTooSmall}
use Rattle.answers.specs.declared.Answer.{Answer}
use Rattle.answers.proofs.Response.{same_response, nothing_written}
use Rattle.evaluation.proofs.Cases.{evaluate_faulty, evaluate_absent, evaluate_malformed, evaluate_short, evaluate_run}
use Rattle.scopes.specs.Steps.{givens_from, entered_at}
use Rattle.scopes.specs.Known.{Known}
use Rattle.loaded.specs.Loaded.{RunsLoaded, Replied}
use Rattle.loaded.proofs.Preparing as preparing
use Rattle.loaded.proofs.Taken.{taken_givens}
use Rattle.evaluator.specs.Service.{Asked, Evaluated}
use Rattle.answers.specs.declared.Refusal.{Refusal}
use Rattle.calculus.specs.declared.Value.{Value}

pub refused_book : (bytes : List ℕ) (i : ℕ) (list : List ℕ) {memory : List ℕ} {f : Fault} → judge bytes ≡ Err f
    → Evaluated bytes i list memory (Err (Book f)) memory
refused_book bytes i list {memory} {f} e = nothing_written (evaluate_faulty falls_back bytes i list (length memory) f e)

module _ (bytes : List ℕ) (n i : ℕ) (ok : judge bytes ≡ Ok n) where
  pub refused_scope : (list : List ℕ) {memory : List ℕ} → n ≤ i → Evaluated bytes i list memory (Err NoSuchScope) memory
  refused_scope list {memory} l = nothing_written (evaluate_absent falls_back bytes i list (length memory) n ok l)

  module _ (here : i < n) where
    pub refused_input : (list : List ℕ) {memory : List ℕ} → inputs (scope_at (scopes_of bytes) i).variables list ≡ bad → Evaluated bytes i list memory (Err BadInput) memory
    refused_input list {memory} e = nothing_written (evaluate_malformed falls_back bytes i list (length memory) n ok here e)

    module _ {list given : List ℕ} (taken : Taken (scope_at (scopes_of bytes) i).variables list given) where
      pub refused_room : {memory : List ℕ} → length memory < result_length_at (scopes_of bytes) i → Evaluated bytes i list memory (Err BufferTooSmall) memory
      unfolding result_length_at
      refused_room {memory} l =
          nothing_written (evaluate_short falls_back bytes i list (length memory) n ok here taken.givens taken.list l)

      pub evaluated : {memory after : List ℕ} {r : Result Answer Refusal} → result_length_at (scopes_of bytes) i ≤ length memory → Replied bytes i given memory r after
          → Evaluated bytes i list memory r after
      unfolding result_length_at entered_at
      evaluated {memory} {after} {r} l q =
          let gs = givens_from given 0 (length (scope_at (scopes_of bytes) i).variables) in
          let e : evaluate bytes i list (length memory) ≡ reply_of (run_scope (scopes_of bytes) i gs) =
          evaluate_run falls_back bytes i list (length memory) n ok here taken.givens taken.list l
          ∙ ap (λ (xs : List (Option Value)). reply_of (run_scope (scopes_of bytes) i xs)) (sym (taken_givens taken)) in
          same_response e q

module _ {bytes index orders : List ℕ} {n i : ℕ} {given memory : List ℕ} (a : Asked bytes index orders n i given memory) where
  pub blank_links : (size : ℕ) → n * 834 ≤ size → Blanks bytes index n (replicate size 255)
  blank_links = preparing.blank_links a.tabled.accepted a.tabled.laid n

  pub blank_memo : (size : ℕ) → n * 33 ≤ size → Known bytes (replicate size 0)
  blank_memo = preparing.blank_memo a.tabled.accepted a.tabled.laid

  pub scopes_few : n ≤ 32
  scopes_few = preparing.few_scopes a.tabled.accepted a.tabled.laid

  -- the book is loaded, once its links are filled
  pub runs_loaded : {links memo : List ℕ} → AllLinked bytes n links → Known bytes memo → RunsLoaded bytes index links orders i given memo memory
  runs_loaded linked known =
      record {
        enterable = record {
          world = preparing.world a.tabled.accepted a.tabled.laid linked a.tabled.step_orders;
          scope = omega (arith, a.scope, accepted_count bytes n a.tabled.accepted);
          given_room = a.given_room;
          given_kept = a.given_kept;
          fitting = a.fitting;
        };
        known = known;
        room = a.room;
      }
