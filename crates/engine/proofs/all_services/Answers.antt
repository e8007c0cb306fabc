-- `engine::all_services` meets its contract: by what the four services ensure.
use mathlib.Core.Path.{◌≡◌, refl, ◌∙◌}
use Rattle.std.specs.Prelude.{Result, ℕ, Ok, Err}
use Rattle.std.specs.Result.{result_unwrap_or}
use Rattle.answers.specs.Numbers.{produced_numbers}
use Rattle.answers.specs.declared.Refusal.{Refusal}
use Rattle.engine.proofs.Agreed.{together}
use Rattle.engine.proofs.all_services.Goals as goal

-- the length of the code that compiling handed back; 0 with a refusal
written_length : (p : Result ℕ Refusal) → result_unwrap_or p 0 ≡ (produced_numbers p).length
written_length (Ok n) = refl
written_length (Err r) = refl

pub returns : goal.returns
returns c =
    together _ _ _ _ _ _ _
    c.judge-judged.ensures
    c.compile-compiled.ensures
    c.evaluate-evaluation.ensures
    (c.unwrap_or.ensures ∙ written_length c.compile-compiled.result)
    c.part_of-written.ensures
    c.run-running.ensures
