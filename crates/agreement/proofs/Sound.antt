-- No record of a book's code is faulty.
--     sound_whole         a whole record that is in order and within the limits is not faulty
--     sound_code          the code of a book whose scopes are within the limits is sound
-- Assumes nothing.
use Prim.Native.Nat.{ℕ, ◌+◌, ◌≤◌}
use mathlib.Core.Path.{◌≡◌, refl, ◌∙◌}
use mathlib.Core.Bool.{true, or-true}
use mathlib.Core.List.{List, [], ◌∷◌, ◌++◌}
use native.Mathlib.Omega.{arith}
use lib.ListN.{length, length-append}
use lib.Dec.{eqb}
use borrow.Author.Tests.{ne_eqb, le-ltb, le-leb}
use Rattle.record.specs.Kinds.{shape_in, shapes_of, kinds}
use Rattle.book.specs.Syntax.{Scope, type_byte}
use Rattle.book.specs.References.{scope_at}
use Rattle.book.specs.Records.{follows, invalid}
use Rattle.book.specs.Scopes.{blocks}
use Rattle.book.specs.Steps.{step_order}
use Rattle.book.specs.declared.ValueType.{ValueType}
use Rattle.book.specs.declared.ValueType.TheVariants.{YesNo, Numeric}
use Rattle.book.specs.declared.Variable.{Variable}
use Rattle.acceptance.specs.Accepted.{WithinLimits}
use Rattle.translation.specs.Blocks.{steps_code, variables_code, sub_scopes_code, block_code, blocks_code, code_of}
use Rattle.machine.specs.Acceptance.{Count, start, counted, faulty, sound}
use Rattle.agreement.proofs.Sequences.{Whole, Sequence, nothing, more, written_whole}
use Rattle.agreement.proofs.Parsing.{steps_sequence}

skip_sound : (body k : List ℕ) (t : Count) → sound (body ++ k) (length body) t ≡ sound k 0 t
unfolding sound
skip_sound [] k t = refl
skip_sound (b ∷ body) k t = skip_sound body k t

pub sound_whole : (stage kind : ℕ) (body k : List ℕ) (t : Count) → Whole stage kind body → 1 ≤ stage → follows t.stage stage ≡ true
    → (counted stage t).variables ≤ 32 → (counted stage t).sub_scopes ≤ 8
    → sound (kind ∷ body ++ k) 0 t ≡ sound k 0 (counted stage t)
unfolding sound faulty
sound_whole stage kind body k t w known in_order few few' =
    let long : length body ≤ length (body ++ k) = omega (arith, length-append body k) in
    rw (
      w.staged,
      w.full,
      ne_eqb stage 0 (λ (e : stage ≡ 0). omega arith),
      le-ltb (length (body ++ k)) (length body) long,
      in_order,
      le-ltb 32 (counted stage t).variables few,
      le-ltb 8 (counted stage t).sub_scopes few',
      w.valid k,
      skip_sound body k (counted stage t),
    )

-- in a block, no later than a stage, with room for so many variables and sub-scopes more
record Room (stage variables sub_scopes : ℕ) (t : Count) : Type 0 where
  begun : 1 ≤ t.stage
  before : t.stage ≤ stage
  more_variables : t.variables + variables ≤ 32
  more_sub_scopes : t.sub_scopes + sub_scopes ≤ 8

-- sound wherever there is this room
abbrev SoundIn : ℕ → ℕ → ℕ → List ℕ → Type 0
SoundIn stage v c k = (t : Count) → Room stage v c t → sound k 0 t ≡ true

in_order_lem : (last stage : ℕ) → 1 ≤ last → last ≤ stage → follows last stage ≡ true
unfolding follows
in_order_lem last stage h l = rw (le-leb 1 last h, le-leb last stage l) (or-true (eqb stage 1))

sound_sequence : {f : List ℕ → List ℕ} → Sequence f → (k : List ℕ) → SoundIn 4 0 0 k → SoundIn 4 0 0 (f k)
unfolding counted
sound_sequence nothing k h t r = h t r
sound_sequence (more {kind = kind} {body = body} {f = f} w s) k h t r =
    sound_whole 4 kind body (f k) t (written_whole w) (omega arith) (in_order_lem t.stage 4 r.begun r.before) (omega (arith, r.more_variables))
    (omega (arith, r.more_sub_scopes))
    ∙ sound_sequence s k h (counted 4 t)
    (record { begun = omega arith; before = omega arith; more_variables = r.more_variables; more_sub_scopes = r.more_sub_scopes })

sub_scope_whole : (i : ℕ) → Whole 3 3 (i ∷ [])
unfolding shape_in shapes_of kinds invalid
sub_scope_whole i = record { staged = refl; full = refl; valid = λ k. refl }

variable_whole : (t : ValueType) → Whole 2 2 (type_byte t ∷ [])
unfolding shape_in shapes_of kinds invalid
variable_whole YesNo = record { staged = refl; full = refl; valid = λ k. refl }
variable_whole Numeric = record { staged = refl; full = refl; valid = λ k. refl }

scope_whole : (i : ℕ) → Whole 1 1 (i ∷ [])
unfolding shape_in shapes_of kinds invalid
scope_whole i = record { staged = refl; full = refl; valid = λ k. refl }

sound_sub_scopes : (is k : List ℕ) → SoundIn 4 0 0 k → SoundIn 3 0 (length is) (sub_scopes_code is k)
unfolding sub_scopes_code counted
sound_sub_scopes [] k h t r =
    h t (record { begun = r.begun; before = omega (arith, r.before); more_variables = r.more_variables; more_sub_scopes = r.more_sub_scopes })
sound_sub_scopes (i ∷ is) k h t r =
    sound_whole 3 3 (i ∷ []) (sub_scopes_code is k) t (sub_scope_whole i) (omega arith) (in_order_lem t.stage 3 r.begun r.before)
    (omega (arith, r.more_variables)) (omega (arith, r.more_sub_scopes))
    ∙ sound_sub_scopes is k h (counted 3 t)
    (record { begun = omega arith; before = omega arith; more_variables = r.more_variables; more_sub_scopes = omega (arith, r.more_sub_scopes) })

sound_variables : (c : ℕ) (xs : List Variable) (k : List ℕ) → SoundIn 3 0 c k → SoundIn 2 (length xs) c (variables_code xs k)
unfolding variables_code counted
sound_variables c [] k h t r =
    h t (record { begun = r.begun; before = omega (arith, r.before); more_variables = r.more_variables; more_sub_scopes = r.more_sub_scopes })
sound_variables c (x ∷ xs) k h t r =
    sound_whole 2 2 (type_byte x.holds ∷ []) (variables_code xs k) t (variable_whole x.holds) (omega arith)
    (in_order_lem t.stage 2 r.begun r.before) (omega (arith, r.more_variables)) (omega (arith, r.more_sub_scopes))
    ∙ sound_variables c xs k h (counted 2 t)
    (record { begun = omega arith; before = omega arith; more_variables = omega (arith, r.more_variables); more_sub_scopes = r.more_sub_scopes })

module _ (book : List Scope) (within : (i : ℕ) → WithinLimits (scope_at book i)) where
  sound_block : (i : ℕ) (k : List ℕ) → SoundIn 4 0 0 k → (t : Count) → sound (block_code book i k) 0 t ≡ true
  unfolding block_code counted follows
  sound_block i k h t =
      let s = scope_at book i in
      let body = steps_code book s (step_order s) k in
      sound_whole 1 1 (i ∷ []) (variables_code s.variables (sub_scopes_code s.sub_scopes body)) t (scope_whole i) (omega arith) refl
      (omega arith) (omega arith)
      ∙ sound_variables (length s.sub_scopes) s.variables (sub_scopes_code s.sub_scopes body)
      (sound_sub_scopes s.sub_scopes body (sound_sequence (steps_sequence book s (step_order s)) k h))
      (counted 1 t)
      (record {
        begun = omega arith;
        before = omega arith;
        more_variables = omega (arith, (within i).variables);
        more_sub_scopes = omega (arith, (within i).sub_scopes);
      })

  sound_blocks : (is : List ℕ) (t : Count) → sound (blocks_code book is) 0 t ≡ true
  unfolding blocks_code sound
  sound_blocks [] t = refl
  sound_blocks (i ∷ is) t = sound_block i (blocks_code book is) (λ t' r. sound_blocks is t') t

  pub sound_code : sound (code_of book) 0 start ≡ true
  unfolding code_of
  sound_code = sound_blocks (blocks book) start
