-- The claim about the services, "a single claim about the four services together, not one for each": if a book is accepted and its code fits the
-- memory lent, compiling writes exactly that code, the code is accepted, and running it is never stuck, agrees with evaluating and counts no more
-- scopes than the weight. The records here are of one scope number, input list and result memory; the promise of `all_services` is for all of them.
use Rattle.std.specs.Prelude.{ℕ, ◌≤◌, ◌≡◌, true, List, length, take, drop, Ok, Err}
use Rattle.book.specs.Decode.{scopes_of}
use Rattle.book.specs.Scopes.{weight}
use Rattle.book.specs.Judge.{judge}
use Rattle.answers.specs.Numbers.{produced_numbers}
use Rattle.evaluation.specs.Evaluate.{count_in}
use Rattle.answers.specs.declared.Refusal.TheVariants.{BadCode, Stuck}
use Rattle.evaluator.specs.Service.{Evaluated}
use Rattle.translation.specs.Blocks.{code_of}
use Rattle.machine.specs.Acceptance.{accepted}
use Rattle.compiler.specs.Compile.{Compiles}
use Rattle.runner.specs.Service.{Runs}
use Rattle.engine.specs.declared.Answers.{Answers}

-- the code memory, and the two result memories, before and after
pub record Memories : Type 0 where
  pub code_before : List ℕ
  pub code_after : List ℕ
  pub evaluated_before : List ℕ
  pub evaluated_after : List ℕ
  pub ran_before : List ℕ
  pub ran_after : List ℕ

-- "the bytes that compiling wrote, of the length it handed back"
abbrev pub written_code : Memories → Answers → List ℕ
written_code m r = take (produced_numbers r.compiled).length m.code_after

-- of a book whose code is `code`, scope i being asked for
pub record Agreed (bytes code : List ℕ) (i : ℕ) (m : Memories) (r : Answers) : Type 0 where
  -- compiling writes exactly that code; "Lent memory changes only where code or values are written, from its first byte, and nothing after
  -- them"
  pub sized : r.compiled ≡ Ok (length code)
  pub written : written_code m r ≡ code
  pub kept : drop (length code) m.code_after ≡ drop (length code) m.code_before
  -- "A book is accepted when none of faults 1 to 12 is in it, code when 16 is not"
  pub accepts : accepted (written_code m r) ≡ true
  -- running it is refused with neither 16 nor 17
  pub never_bad : r.ran ≡ Err BadCode → ⊥
  pub never_stuck : r.ran ≡ Err Stuck → ⊥
  -- "Run and evaluation get the same scope number and input bytes and equal result memories": then they give the same answer and leave the
  -- same bytes. A side is part of the answer: "Code and evaluation name the same side"
  pub answers : m.ran_before ≡ m.evaluated_before → r.ran ≡ r.evaluated
  pub memories : m.ran_before ≡ m.evaluated_before → m.ran_after ≡ m.evaluated_after
  -- neither counts more scopes entered than the scope's weight
  pub evaluated_count : count_in r.evaluated ≤ weight (scopes_of bytes) i
  pub ran_count : count_in r.ran ≤ weight (scopes_of bytes) i

-- "The engine has four services: judge a book; evaluate a scope of it; compile it; run compiled code, judging that first": what each
-- answers and writes, and the claim
pub record Together (bytes : List ℕ) (i : ℕ) (list : List ℕ) (m : Memories) (r : Answers) : Type 0 where
  pub judging : r.judged ≡ judge bytes
  pub compiling : Compiles bytes m.code_before r.compiled m.code_after
  pub evaluating : Evaluated bytes i list m.evaluated_before r.evaluated m.evaluated_after
  pub running : Runs (written_code m r) i list m.ran_before r.ran m.ran_after
  pub claim : (n : ℕ) → judge bytes ≡ Ok n → length (code_of (scopes_of bytes)) ≤ length m.code_before
      → Agreed bytes (code_of (scopes_of bytes)) i m r
