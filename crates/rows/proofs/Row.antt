-- The row of one run.
--     runs                what running asks for
--     same_size, short    the row keeps its length, and what is written has room
--     row_so              the row written
-- Assumes nothing.
use Prim.Native.Nat.{ℕ, suc, ◌+◌, ◌-◌, ◌≤◌}
use mathlib.Core.Path.{◌≡◌, refl, ap, ◌∙◌}
use mathlib.Core.List.{List, [], ◌∷◌, ◌++◌, append-nil}
use native.Mathlib.Omega.{arith}
use lib.ListN.{length, set, take, drop, replicate, length-append, length-drop, length-set, drop_of_length-le}
use lib.Seq.{take-append_seam}
use Rattle.std.specs.Prelude.{Result}
use Rattle.answers.specs.Response.{memory_after}
use Rattle.answers.specs.Numbers.{answer_numbers}
use Rattle.answers.specs.declared.Answer.{Answer}
use Rattle.slices.proofs.Parts.{all_left, lent_length}
use Rattle.book.specs.Decode.{scopes_of}
use Rattle.lists.specs.Writing.{result_length_at}
use Rattle.evaluation.specs.Run.{Entered, values, ended}
use Rattle.evaluation.specs.Evaluate.{Reply, reply_of}
use Rattle.evaluation.proofs.Types.{values_length}
use Rattle.scopes.specs.Steps.{entered_at}
use Rattle.loaded.specs.Loaded.{RunsLoaded, Replied}
use Rattle.tabulation.specs.Tabulate.{row_of}
use Rattle.rows.specs.Filling.{cleared, cell_row, FillsRow}
use Rattle.answers.specs.declared.Refusal.{Refusal}

-- "the length of the results (0 without values)" is the length of what is written
length_written : (e : Entered) → (answer_numbers (reply_of e).answer).length ≡ length (reply_of e).written
length_written (values vs n) = refl
length_written (ended c n) = refl

-- a row of which all but the first byte is lent: the outcome, what is written there, and zeros
row_of_lem : (reply : Reply) (size o n : ℕ) (row part : List ℕ) → length row ≡ suc size → length reply.written ≤ size
    → o ≡ (answer_numbers reply.answer).outcome → n ≡ length reply.written → part ≡ memory_after reply (drop 1 row)
    → cleared (set (take 1 row ++ (part ++ drop (length row - 1) (drop 1 row))) 0 o) (1 + n) ≡ row_of size reply
unfolding cleared row_of memory_after
row_of_lem reply size o n [] part l s p q r = absurd (omega arith)
row_of_lem reply size o n (b ∷ rest) part l s p q r =
    let written = reply.written in
    let left = drop (length written) rest in
    let none : drop (suc (length rest) - 1) rest ≡ [] = drop_of_length-le rest {i = suc (length rest) - 1} (omega arith) in
    let first : 1 + n ≡ suc (length written) = omega arith in
    let d = length-drop (length written) rest in
    let long : suc (length (written ++ left)) - suc (length written) ≡ size - length written = let a = length-append written left in omega arith in
    rw (none, append-nil part, r, first, long, p)
    (ap (λ (xs : List ℕ). (answer_numbers reply.answer).outcome ∷ (xs ++ replicate (size - length written) 0)) (take-append_seam written left))

module _ {bytes index links orders : List ℕ} {i : ℕ} {given memo row : List ℕ} (f : FillsRow bytes index links orders i given memo row) where
  pub runs : RunsLoaded bytes index links orders i given memo (take (length row - 1) (drop 1 row))
  runs = rw (all_left 1 row) f.runs

  fits : (e : Entered) → entered_at bytes i given ≡ e → length (reply_of e).written ≤ result_length_at (scopes_of bytes) i
  unfolding entered_at result_length_at
  fits (values vs n) e =
      let l = values_length bytes (length (scopes_of bytes)) f.runs.enterable.world.accepted i f.runs.enterable.scope _ f.runs.enterable.fitting vs n e in
      omega arith
  fits (ended c n) e = omega arith

  module _ {r : Result Answer Refusal} {part : List ℕ} (came : Replied bytes i given (take (length row - 1) (drop 1 row)) r part) where
    pub same_size : (o : ℕ) → length part ≡ length (take (length row - 1) (drop 1 row))
        → length (set (take 1 row ++ (part ++ drop (length row - 1) (drop 1 row))) 0 o) ≡ length row
    same_size o e =
        let s = f.size in
        let l = ap length (all_left 1 row) in
        let d = length-drop 1 row in
        length-set (take 1 row ++ (part ++ drop (length row - 1) (drop 1 row))) 0 o
        ∙ lent_length row part 1 (length row - 1) (omega arith) (omega arith)

    written : {n : ℕ} → n ≡ (answer_numbers r).length → n ≡ length (reply_of (entered_at bytes i given)).written
    written e = e ∙ ap (λ (a : Result Answer Refusal). (answer_numbers a).length) came.answer ∙ length_written (entered_at bytes i given)

    pub short : {n : ℕ} → n ≡ (answer_numbers r).length → 1 + n ≤ length row
    short {n} e =
        let w = written e in
        let s = fits (entered_at bytes i given) refl in
        let l = f.size in
        omega arith

    pub row_so : {o n : ℕ} → o ≡ (answer_numbers r).outcome → n ≡ (answer_numbers r).length
        → cleared (set (take 1 row ++ (part ++ drop (length row - 1) (drop 1 row))) 0 o) (1 + n) ≡ cell_row bytes i given
    unfolding cell_row
    row_so {o} {n} p q =
        row_of_lem (reply_of (entered_at bytes i given)) (result_length_at (scopes_of bytes) i) o n row part f.size
        (fits (entered_at bytes i given) refl)
        (p ∙ ap (λ (a : Result Answer Refusal). (answer_numbers a).outcome) came.answer)
        (written q)
        (came.memory ∙ ap (memory_after (reply_of (entered_at bytes i given))) (all_left 1 row))
