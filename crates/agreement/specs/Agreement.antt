-- Compiling and running agree with evaluating: "a single claim about the four services together".
use Rattle.std.specs.Prelude.{ℕ, ◌≤◌, ◌≡◌, true, List, length, Err}
use Rattle.book.specs.Decode.{scopes_of}
use Rattle.book.specs.Scopes.{weight}
use Rattle.evaluation.specs.Evaluate.{count_in, evaluate}
use Rattle.answers.specs.Response.{memory_after}
use Rattle.answers.specs.declared.Refusal.TheVariants.{BadCode, Stuck}
use Rattle.translation.specs.Blocks.{code_of}
use Rattle.machine.specs.Acceptance.{accepted}
use Rattle.machine.specs.Service.{run}

-- what running the code of a book comes to: "Run and evaluation get the same scope number and input bytes and equal result
-- memories"
pub record Agreement (bytes : List ℕ) : Type 0 where
  -- the code is accepted
  pub code_accepted : accepted (code_of (scopes_of bytes)) ≡ true
  -- outcome, number, count and the bytes written are those of evaluating the book
  pub replies : (i : ℕ) (list : List ℕ) (room : ℕ) → run (code_of (scopes_of bytes)) i list room ≡ evaluate bytes i list room
  -- and so is every byte of the result memory
  pub memories : (i : ℕ) (list memory : List ℕ)
      → memory_after (run (code_of (scopes_of bytes)) i list (length memory)) memory ≡ memory_after (evaluate bytes i list (length memory)) memory
  -- no run enters more scopes than the weight of the scope asked for
  pub counts : (i : ℕ) (list : List ℕ) (room : ℕ) → count_in (run (code_of (scopes_of bytes)) i list room).answer ≤ weight (scopes_of bytes) i
  -- and none is refused with 16 or 17
  pub never_bad_code : (i : ℕ) (list : List ℕ) (room : ℕ) → (run (code_of (scopes_of bytes)) i list room).answer ≡ Err BadCode → ⊥
  pub never_stuck : (i : ℕ) (list : List ℕ) (room : ℕ) → (run (code_of (scopes_of bytes)) i list room).answer ≡ Err Stuck → ⊥
