-- What is answered and written is that of a response.
--     same_response      of a response, if it is that of an equal one
--     nothing_written    of a response that writes nothing, if the memory is as before
-- Assumes nothing.
use Prim.Native.Nat.{ℕ}
use mathlib.Core.Path.{◌≡◌, refl, sym, ap, ◌∙◌}
use mathlib.Core.List.{List, []}
use Rattle.answers.specs.Response.{Response, memory_after, Responds}

module _ {A : Type 0} {p : Response A} where
  pub same_response : {q : Response A} {before : List ℕ} {r : A} {after : List ℕ} → p ≡ q → Responds q before r after → Responds p before r after
  same_response {q} {before} e h =
      record { answer = h.answer ∙ ap (λ (x : Response A). x.answer) (sym e); memory = h.memory ∙ ap (λ (x : Response A). memory_after x before) (sym e) }

  pub nothing_written : {memory : List ℕ} {r : A} → p ≡ record { answer = r; written = [] } → Responds p memory r memory
  unfolding memory_after
  nothing_written e = same_response e (record { answer = refl; memory = refl })
