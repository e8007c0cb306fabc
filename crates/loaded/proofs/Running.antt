-- What running a scope of a loaded book answers.
--     entry, typed          what the functions called ask for
--     values_so, ends_so    the answer of a run
-- Assumes nothing.
use Prim.Native.Nat.{ℕ, zero, suc, ◌+◌, ◌<◌}
use mathlib.Core.Path.{◌≡◌, sym, ap, ◌∙◌}
use mathlib.Core.Bool.{true, false≢true}
use mathlib.Core.List.{List, [], ◌∷◌}
use native.Mathlib.Omega.{arith}
use lib.ListN.{length, get_or}
use Rattle.std.specs.Prelude.{Result, Ok, Err, Option, None, Some}
use Rattle.answers.specs.Response.{memory_after}
use Rattle.answers.specs.declared.Answer.TheVariants.{Values, Ended}
use Rattle.cells.specs.Codec.{AllKept}
use Rattle.cells.specs.Cells.{given_at, held}
use Rattle.book.specs.Syntax.{same_type}
use Rattle.book.specs.Decode.{scopes_of}
use Rattle.book.specs.References.{scope_at}
use Rattle.book.specs.declared.ValueType.{ValueType}
use Rattle.book.specs.declared.ValueType.TheVariants.{YesNo}
use Rattle.book.specs.declared.Variable.{Variable}
use Rattle.book.proofs.Same.{same_self}
use Rattle.lists.specs.Inputs.{is_given}
use Rattle.lists.specs.Results.{result_length, results}
use Rattle.lists.specs.Writing.{values_from, values_of, value_type, is_of, result_length_at, result_memory}
use Rattle.lists.specs.Writing as writing
use Rattle.evaluation.specs.Run.{values, ended}
use Rattle.evaluation.specs.Types.{ValuesFit}
use Rattle.evaluation.specs.Evaluate.{reply_of}
use Rattle.answers.proofs.Response.{same_response, nothing_written}
use Rattle.evaluation.proofs.Types.{values_typed, values_length}
use Rattle.scopes.specs.Steps.{entered_at, ran_view, Came}
use Rattle.scopes.specs.Known.{Entry}
use Rattle.scopes.specs.declared.Ended as scopes
use Rattle.loaded.specs.Loaded.{RunsLoaded, Replied}
use Rattle.calculus.specs.declared.Value.{Value}

-- values of the variables' types
is_of_lem : (t : ValueType) (g : Option Value) → is_given g ≡ true → value_type (held g) ≡ t → is_of t g ≡ true
is_of_lem t None p e = absurd (false≢true p)
is_of_lem t (Some v) p e = ap (same_type t) e ∙ same_self t

fits_at : (xs : List Variable) (cells : List ℕ) (k : ℕ) → ValuesFit xs (values_from cells k (length xs)) → (v : ℕ) → v < length xs
    → value_type (held (given_at cells (k + v))) ≡ (get_or xs v (record { holds = YesNo })).holds
unfolding values_from
fits_at [] cells k h v l = absurd (omega arith)
fits_at (x ∷ xs) cells k h zero l = let e : k + 0 ≡ k = omega arith in ap (λ (n : ℕ). value_type (held (given_at cells n))) e ∙ h.0
fits_at (x ∷ xs) cells k h (suc v) l =
    let e : k + suc v ≡ suc k + v = omega arith in
    ap (λ (n : ℕ). value_type (held (given_at cells n))) e ∙ fits_at xs cells (suc k) h.1 v (omega arith)

module _ {bytes index links orders : List ℕ} {i : ℕ} {given memo memory : List ℕ} (a : RunsLoaded bytes index links orders i given memo memory) where
  pub entry : {own : List ℕ} → length own ≡ 32 → AllKept own → Entry bytes index links orders i given own memo
  entry size kept =
      record {
        world = a.enterable.world;
        scope = a.enterable.scope;
        given_room = a.enterable.given_room;
        given_kept = a.enterable.given_kept;
        room = size;
        kept = kept;
        known = a.known;
      }

  module _ {r : Result ℕ scopes.Ended} {own : List ℕ} (came : Came bytes i given r own) where
    pub ends_so : {d : scopes.Ended} → r ≡ Err d → Replied bytes i given memory (Ok (Ended d.cause d.count)) memory
    ends_so {d} e =
        let same : entered_at bytes i given ≡ ended d.cause d.count = sym came.same ∙ ap (λ (z : Result ℕ scopes.Ended). ran_view z own (length (scope_at (scopes_of bytes) i).variables)) e in
        nothing_written (ap reply_of same)

    module _ {m : ℕ} (e : r ≡ Ok m) where
      same : entered_at bytes i given ≡ values (values_of own (length (scope_at (scopes_of bytes) i).variables)) m
      same = sym came.same ∙ ap (λ (z : Result ℕ scopes.Ended). ran_view z own (length (scope_at (scopes_of bytes) i).variables)) e

      fit : ValuesFit (scope_at (scopes_of bytes) i).variables (values_of own (length (scope_at (scopes_of bytes) i).variables))
      unfolding entered_at
      fit = values_typed bytes (length (scopes_of bytes)) a.enterable.world.accepted i a.enterable.scope _ a.enterable.fitting _ m same

      size_known : result_length (scope_at (scopes_of bytes) i).variables ≡ length (results (values_of own (length (scope_at (scopes_of bytes) i).variables)))
      unfolding entered_at
      size_known = values_length bytes (length (scopes_of bytes)) a.enterable.world.accepted i a.enterable.scope _ a.enterable.fitting _ m same

      pub typed : writing.Typed (scope_at (scopes_of bytes) i).variables own
      unfolding values_of
      typed =
          record {
            typed = λ v l.
                let z : 0 + v ≡ v = omega arith in
                is_of_lem _ (given_at own v) (came.present m e v l)
                (ap (λ (k : ℕ). value_type (held (given_at own k))) (sym z) ∙ fits_at (scope_at (scopes_of bytes) i).variables own 0 fit v l);
          }

      pub values_so : {size : ℕ} {after : List ℕ} → size ≡ result_length_at (scopes_of bytes) i → after ≡ result_memory (scopes_of bytes) i own memory
          → Replied bytes i given memory (Ok (Values m size)) after
      unfolding result_length_at result_memory memory_after
      values_so {size} {after} s q =
          same_response (ap reply_of same) (record { answer = ap (λ (n : ℕ). Ok (Values m n)) (s ∙ size_known); memory = q })
