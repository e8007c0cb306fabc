-- Sequences of whole instructions in front of other bytes.
--     Whole               a record with as many bytes as its kind takes, none of them invalid
--     Written             the instructions that the translation writes; written-whole: they are whole
--     Sequence            what puts such instructions in front of other bytes
--     one, followed, either    one instruction; two sequences one after the other; one of two
--     parse_sequence      parsed, a sequence belongs to the body of the block begun before it
--     lands_sequence      a distance passes over a sequence to what follows it
--     fits_whole          whether an instruction and those after it fit
-- Assumes nothing.
use Prim.Native.Nat.{ℕ, zero, suc, ◌+◌}
use mathlib.Core.Path.{◌≡◌, refl, ap, ◌∙◌}
use mathlib.Core.Bool.{Bool, true, false, cond, ◌&&◌}
use mathlib.Core.List.{List, [], ◌∷◌, ◌++◌}
use mathlib.Core.Logic.{⊎_elim}
use native.Mathlib.Omega.{arith}
use lib.ListN.{length, length-append}
use lib.Seq.{take-append_seam, drop-append_seam}
use lib.Dec.{eqb}
use lib.IntN.{ℤ}
use Rattle.slices.specs.Bytes.{bytes_of, number_bytes}
use Rattle.record.specs.Kinds.{shape_in, shapes_of, kinds}
use Rattle.answers.specs.declared.Cause.{Cause}
use Rattle.answers.specs.declared.Cause.TheVariants.{Empty, Conflict, OutOfRange}
use Rattle.calculus.specs.declared.Unary.{Unary}
use Rattle.calculus.specs.declared.Unary.TheVariants.{Not, Negate}
use Rattle.calculus.specs.declared.Binary.{Binary}
use Rattle.calculus.specs.declared.Binary.TheVariants.{And, Add, Subtract, Equal, Less}
use Rattle.laws.proofs.Booleans.{decide}
use Rattle.book.specs.Records.{invalid}
use Rattle.translation.specs.Code.{unary_kind, binary_kind, raise_kind}
use Rattle.machine.specs.Instructions.{instruction_of}
use Rattle.machine.specs.Blocks.{Block, body_length, stage_of, Parsed, in_front, parse}
use Rattle.machine.specs.Acceptance.{lands, fits, all_fit}

-- a record of a stage with its body
pub record Whole (stage kind : ℕ) (body : List ℕ) : Type 0 where
  pub staged : stage_of kind ≡ stage
  pub full : body_length kind ≡ length body
  pub valid : (k : List ℕ) → invalid kind (body ++ k) ≡ false

-- the instructions that the translation writes, by kind and body
pub data Written : ℕ → List ℕ → Type 0 where
  truth : (b : Bool) → Written 4 (cond b 1 0 ∷ [])
  number : (z : ℤ) → Written 5 (number_bytes z)
  read_own : (x : ℕ) → Written 6 (x ∷ [])
  read_called : (s x : ℕ) → Written 7 (s ∷ x ∷ [])
  unary : (op : Unary) → Written (unary_kind op) []
  binary : (op : Binary) → Written (binary_kind op) []
  raise : (c : Cause) → Written (raise_kind c) []
  jump : (d : ℕ) → Written 34 (bytes_of 2 d)
  jump_if_no : (d : ℕ) → Written 35 (bytes_of 2 d)
  begin_try : (d : ℕ) → Written 36 (bytes_of 2 d)
  end_try : Written 37 []
  push_nothing : Written 38 []
  join : Written 39 []
  settle : (d : ℕ) → Written 40 (bytes_of 2 d)
  store : (x : ℕ) → Written 41 (x ∷ [])
  override : (s x : ℕ) → Written 42 (s ∷ x ∷ [])
  enter : (s : ℕ) → Written 43 (s ∷ [])
  jump_if_given : (x d : ℕ) → Written 44 (x ∷ bytes_of 2 d)

pub written_whole : {kind : ℕ} {body : List ℕ} → Written kind body → Whole 4 kind body
unfolding shape_in shapes_of kinds invalid bytes_of number_bytes
written_whole (truth true) = record { staged = refl; full = refl; valid = λ k. refl }
written_whole (truth false) = record { staged = refl; full = refl; valid = λ k. refl }
written_whole (number z) = record { staged = refl; full = refl; valid = λ k. refl }
written_whole (read_own x) = record { staged = refl; full = refl; valid = λ k. refl }
written_whole (read_called s x) = record { staged = refl; full = refl; valid = λ k. refl }
written_whole (unary Not) = record { staged = refl; full = refl; valid = λ k. refl }
written_whole (unary Negate) = record { staged = refl; full = refl; valid = λ k. refl }
written_whole (binary And) = record { staged = refl; full = refl; valid = λ k. refl }
written_whole (binary Add) = record { staged = refl; full = refl; valid = λ k. refl }
written_whole (binary Subtract) = record { staged = refl; full = refl; valid = λ k. refl }
written_whole (binary Equal) = record { staged = refl; full = refl; valid = λ k. refl }
written_whole (binary Less) = record { staged = refl; full = refl; valid = λ k. refl }
written_whole (raise Empty) = record { staged = refl; full = refl; valid = λ k. refl }
written_whole (raise Conflict) = record { staged = refl; full = refl; valid = λ k. refl }
written_whole (raise (OutOfRange s)) = record { staged = refl; full = refl; valid = λ k. refl }
written_whole (jump d) = record { staged = refl; full = refl; valid = λ k. refl }
written_whole (jump_if_no d) = record { staged = refl; full = refl; valid = λ k. refl }
written_whole (begin_try d) = record { staged = refl; full = refl; valid = λ k. refl }
written_whole end_try = record { staged = refl; full = refl; valid = λ k. refl }
written_whole push_nothing = record { staged = refl; full = refl; valid = λ k. refl }
written_whole join = record { staged = refl; full = refl; valid = λ k. refl }
written_whole (settle d) = record { staged = refl; full = refl; valid = λ k. refl }
written_whole (store x) = record { staged = refl; full = refl; valid = λ k. refl }
written_whole (override s x) = record { staged = refl; full = refl; valid = λ k. refl }
written_whole (enter s) = record { staged = refl; full = refl; valid = λ k. refl }
written_whole (jump_if_given x d) = record { staged = refl; full = refl; valid = λ k. refl }

pub data Sequence : (List ℕ → List ℕ) → Type 0 where
  nothing : Sequence (λ k. k)
  more : {kind : ℕ} {body : List ℕ} {f : List ℕ → List ℕ} → Written kind body → Sequence f → Sequence (λ k. kind ∷ body ++ f k)

pub one : {kind : ℕ} {body : List ℕ} → Written kind body → Sequence (λ k. kind ∷ body ++ k)
one w = more w nothing

pub followed : {f g : List ℕ → List ℕ} → Sequence f → Sequence g → Sequence (λ k. f (g k))
followed nothing t = t
followed (more w s) t = more w (followed s t)

pub either : (b : Bool) {f g : List ℕ → List ℕ} → Sequence f → Sequence g → Sequence (λ k. cond b (f k) (g k))
either true s t = s
either false s t = t

-- Parsing

-- what changes in the body of the block begun before
abbrev pub with_body : (List ℕ → List ℕ) → Parsed → Parsed
with_body f p =
    let b = p.opened in
    record { opened = record { scope = 0; variables = b.variables; sub_scopes = b.sub_scopes; body = f b.body }; blocks = p.blocks }

skip_parse : (body k : List ℕ) → parse (body ++ k) (length body) ≡ parse k 0
unfolding parse
skip_parse [] k = refl
skip_parse (b ∷ body) k = skip_parse body k

parse_whole : (kind : ℕ) (body k : List ℕ) → Whole 4 kind body → parse (kind ∷ body ++ k) 0 ≡ with_body (λ b. kind ∷ body ++ b) (parse k 0)
unfolding parse in_front
parse_whole kind body k w = rw (w.staged, w.full, skip_parse body k, take-append_seam body k)

-- what belongs to a block begun earlier says nothing of its number
no_number : (p : Parsed) (kind : ℕ) (rest : List ℕ) → p.opened.scope ≡ 0 → (in_front kind rest p).opened.scope ≡ 0
unfolding in_front
no_number p kind rest e =
    ⊎_elim (λ (a : eqb (stage_of kind) 1 ≡ true). rw a) (λ (a : eqb (stage_of kind) 1 ≡ false).
    ⊎_elim (λ (b : eqb (stage_of kind) 2 ≡ true). rw (a, b)) (λ (b : eqb (stage_of kind) 2 ≡ false).
    ⊎_elim (λ (c : eqb (stage_of kind) 3 ≡ true). rw (a, b, c)) (λ (c : eqb (stage_of kind) 3 ≡ false).
    ⊎_elim (λ (d : eqb (stage_of kind) 4 ≡ true). rw (a, b, c, d)) (λ (d : eqb (stage_of kind) 4 ≡ false). rw (a, b, c, d) e)
    (decide (eqb (stage_of kind) 4)))
    (decide (eqb (stage_of kind) 3)))
    (decide (eqb (stage_of kind) 2)))
    (decide (eqb (stage_of kind) 1))

opened_number : (k : List ℕ) (n : ℕ) → (parse k n).opened.scope ≡ 0
unfolding parse
opened_number [] n = refl
opened_number (b ∷ k) (suc n) = opened_number k n
opened_number (b ∷ k) zero = no_number (parse k (body_length b)) b k (opened_number k (body_length b))

unchanged : (p : Parsed) → p.opened.scope ≡ 0 → p ≡ with_body (λ b. b) p
unchanged p e = λ i. record {
  opened = record { scope = e i; variables = p.opened.variables; sub_scopes = p.opened.sub_scopes; body = p.opened.body };
  blocks = p.blocks;
}

pub parse_sequence : {f : List ℕ → List ℕ} → Sequence f → (k : List ℕ) → parse (f k) 0 ≡ with_body f (parse k 0)
parse_sequence nothing k = unchanged (parse k 0) (opened_number k 0)
parse_sequence (more {kind = kind} {body = body} {f = f} w s) k =
    parse_whole kind body (f k) (written_whole w) ∙ ap (with_body (λ b. kind ∷ body ++ b)) (parse_sequence s k)

-- Landing

skip_lands : (body k : List ℕ) (d : ℕ) → lands (body ++ k) (length body) (length body + d) ≡ lands k 0 d
unfolding lands
skip_lands [] k d = let e : 0 + d ≡ d = omega arith in rw e
skip_lands (b ∷ body) k d = let e : suc (length body) + d ≡ suc (length body + d) = omega arith in rw e (skip_lands body k d)

lands_whole : (kind : ℕ) (body k : List ℕ) (d : ℕ) → Whole 4 kind body → lands (kind ∷ body ++ k) 0 (suc (length body + d)) ≡ lands k 0 d
unfolding lands
lands_whole kind body k d w = ap (λ (n : ℕ). lands (body ++ k) n (length body + d)) w.full ∙ skip_lands body k d

pub lands_sequence : {f : List ℕ → List ℕ} → Sequence f → (k : List ℕ) (n d : ℕ) → length (f []) + d ≡ n → lands (f k) 0 n ≡ lands k 0 d
lands_sequence nothing k n d e = let z : n ≡ d = omega arith in rw z
lands_sequence (more {kind = kind} {body = body} {f = f} w s) k n d e =
    let long = length-append body (f []) in
    let z : n ≡ suc (length body + (length (f []) + d)) = omega arith in
    rw z (lands_whole kind body (f k) (length (f []) + d) (written_whole w) ∙ lands_sequence s k (length (f []) + d) d refl)

-- Fitting

module _ (earlier : List Block) (b : Block) where
  skip_fit : (body k : List ℕ) → all_fit earlier b (body ++ k) (length body) ≡ all_fit earlier b k 0
  unfolding all_fit
  skip_fit [] k = refl
  skip_fit (x ∷ body) k = skip_fit body k

  pub fits_whole : (kind : ℕ) (body k : List ℕ) → Whole 4 kind body
      → all_fit earlier b (kind ∷ body ++ k) 0 ≡ (fits earlier b (instruction_of kind (body ++ k)) k && all_fit earlier b k 0)
  unfolding all_fit
  fits_whole kind body k w = rw (w.full, drop-append_seam body k, skip_fit body k)
