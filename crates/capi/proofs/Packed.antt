-- An answer as one number says the answer's numbers, since these have room; the memory is that of the service.
--     said                                   of any answer
--     compiled, tabulated, evaluated, ran    of the services that write
-- Assumes nothing.
use Prim.Native.Nat.{ℕ}
use mathlib.Core.Path.{◌≡◌, ◌∙◌, ap}
use mathlib.Core.List.{List}
use lib.ListN.{length}
use Rattle.std.specs.Prelude.{Result, ℕ}
use Rattle.answers.specs.Response.{Response, Responds}
use Rattle.answers.specs.Numbers.{Numbers, produced_numbers, answer_numbers}
use Rattle.answers.specs.declared.Answer.{Answer}
use Rattle.evaluation.specs.Evaluate.{evaluate}
use Rattle.tabulation.specs.Tabulate.{tabulate}
use Rattle.compiler.specs.Compile.{compile}
use Rattle.machine.specs.Service.{run}
use Rattle.numbers.specs.Packed.{packed, wrapped, Placed, Says}
use Rattle.numbers.proofs.Unpacking.{says}
use Rattle.engine.proofs.Placed.{compile_placed, tabulate_placed, evaluate_placed, run_placed}
use Rattle.capi.specs.Packed.{Packed, PackedCompilation, PackedEvaluation, PackedRun, PackedTabulation}
use Rattle.answers.specs.declared.Refusal.{Refusal}

-- the answer given is the one expected
pub said : {A : Type 0} (numbers : A → Numbers) {given expected : A} {r : ℕ} → Placed (numbers expected) → given ≡ expected
    → r ≡ packed (wrapped (numbers given)) → Says (numbers expected) r
said numbers {given} {expected} {r} room same packs = says (numbers expected) r room (packs ∙ ap (λ x. packed (wrapped (numbers x))) same)

packs_response : {A : Type 0} (numbers : A → Numbers) {response : Response A} {before : List ℕ} {a : A} {r : ℕ} {after : List ℕ}
    → Placed (numbers response.answer) → Responds response before a after → r ≡ packed (wrapped (numbers a)) → Packed numbers response before r after
packs_response numbers room h packs = record { answer = said numbers room h.answer packs; memory = h.memory }

module _ (bytes : List ℕ) {before : List ℕ} {p : Result ℕ Refusal} {r : ℕ} {after : List ℕ} where
  pub compiled : Responds (compile bytes (length before)) before p after → r ≡ packed (wrapped (produced_numbers p)) → PackedCompilation bytes before r after
  compiled = packs_response produced_numbers (compile_placed bytes before)

  pub tabulated : (i : ℕ) (chosen fixed : List ℕ) → Responds (tabulate bytes i chosen fixed (length before)) before p after
      → r ≡ packed (wrapped (produced_numbers p)) → PackedTabulation bytes i chosen fixed before r after
  tabulated i chosen fixed = packs_response produced_numbers (tabulate_placed bytes i chosen fixed before)

module _ (bytes : List ℕ) (i : ℕ) (list : List ℕ) {before : List ℕ} {a : Result Answer Refusal} {r : ℕ} {after : List ℕ} where
  pub evaluated : Responds (evaluate bytes i list (length before)) before a after → r ≡ packed (wrapped (answer_numbers a))
      → PackedEvaluation bytes i list before r after
  evaluated = packs_response answer_numbers (evaluate_placed bytes i list before)

  pub ran : Responds (run bytes i list (length before)) before a after → r ≡ packed (wrapped (answer_numbers a)) → PackedRun bytes i list before r after
  ran = packs_response answer_numbers (run_placed bytes i list before)
