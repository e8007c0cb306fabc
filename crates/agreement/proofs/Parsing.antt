-- The code of a book is parsed into the blocks it was made of.
--     code_sequence         the code of a term is a sequence of whole instructions
--     steps_sequence        so is the code of a scope's steps
--     blocks_code_lem           the blocks of a book's code are those of its scopes
-- Assumes nothing.
use Prim.Native.Nat.{ℕ, suc, ◌+◌, ◌-◌}
use mathlib.Core.Path.{◌≡◌, refl, sym, ap, ◌∙◌}
use mathlib.Core.List.{List, [], ◌∷◌, map, reverse_aux}
use lib.ListN.{length, get_or}
use lib.Dec.{ltb}
use Rattle.record.specs.Kinds.{shape_in, shapes_of, kinds}
use Rattle.calculus.specs.Terms.{Term, Terms, literal, own, called, error, unary, binary, choice, default, none, also}
use Rattle.calculus.specs.declared.Value.{Value}
use Rattle.calculus.specs.declared.Value.TheVariants.{Truth, Number}
use Rattle.answers.specs.declared.Cause.TheVariants.{Empty}
use Rattle.book.specs.Syntax.{Scope, variable_of, type_byte}
use Rattle.book.specs.References.{scope_at}
use Rattle.book.specs.Trees.{tree, has_clause, own_target, called_target}
use Rattle.book.specs.Scopes.{blocks}
use Rattle.book.specs.Steps.{step_order}
use Rattle.book.specs.declared.ValueType.{ValueType}
use Rattle.book.specs.declared.ValueType.TheVariants.{YesNo, Numeric}
use Rattle.book.specs.declared.Variable.{Variable}
use Rattle.translation.specs.Code.{far, size, code, codes}
use Rattle.translation.specs.Blocks.{variable_code, overrides_code, call_code, step_code, steps_code, variables_code, sub_scopes_code, block_code, blocks_code, code_of}
use Rattle.translation.proofs.Sizes.{tail, tail_size}
use Rattle.machine.specs.Blocks.{Block, Parsed, in_front, parse, blocks_of}
use Rattle.agreement.specs.Compiled.{compiled_block, compiled_in, compiled}
use Rattle.agreement.proofs.Sequences as ops
use Rattle.agreement.proofs.Sequences.{truth, number, read_own, read_called, raise, jump, jump_if_no, begin_try, end_try, push_nothing, join, settle, store, override, enter, jump_if_given}
use Rattle.agreement.proofs.Sequences.{Sequence, nothing, more, one, followed, either, with_body, parse_sequence}

-- Terms

-- a condition, 35, what follows on yes, 34, what follows on no
branches : {f g h : List ℕ → List ℕ} (d e : ℕ) → Sequence f → Sequence g → Sequence h
    → Sequence (λ k. f (far 35 d (g (far 34 e (h k)))))
branches d e s t u = followed s (more (jump_if_no d) (followed t (more (jump e) u)))

literal_sequence : (v : Value) → Sequence (code (literal v))
unfolding code
literal_sequence (Truth b) = one (truth b)
literal_sequence (Number z) = one (number z)

tail_sequence : (j c : Term) → Sequence (code j) → Sequence (code c) → Sequence (tail j c)
tail_sequence j c s t = branches (size c + 3) 1 s t (one (raise Empty))

default_sequence : (es : Terms) (j c : Term) → Sequence (codes es) → Sequence (code j) → Sequence (code c) → Sequence (code (default es j c))
unfolding code
default_sequence none j c s t u = tail_sequence j c t u
default_sequence (also e es) j c s t u = more push_nothing (followed s (more (settle (tail_size j c)) (tail_sequence j c t u)))

mutual
  unfolding code

  pub code_sequence : (t : Term) → Sequence (code t)
  code_sequence (literal v) = literal_sequence v
  code_sequence (own x) = one (read_own x)
  code_sequence (called s x) = one (read_called s x)
  code_sequence (error c) = one (raise c)
  code_sequence (unary op a) = followed (code_sequence a) (one (ops.unary op))
  code_sequence (binary op a b) = followed (code_sequence a) (followed (code_sequence b) (one (ops.binary op)))
  code_sequence (choice c a b) = branches (size a + 3) (size b) (code_sequence c) (code_sequence a) (code_sequence b)
  code_sequence (default es j c) = default_sequence es j c (codes_sequence es) (code_sequence j) (code_sequence c)

  pub codes_sequence : (es : Terms) → Sequence (codes es)
  codes_sequence none = nothing
  codes_sequence (also e es) =
      more (begin_try (size e + 4))
      (followed (code_sequence e)
      (more end_try
      (more (jump 1)
      (more push_nothing
      (more join (codes_sequence es))))))

-- Steps

variable_sequence : (s : Scope) (x : ℕ) → Sequence (variable_code s x)
unfolding variable_code
variable_sequence s x =
    let t = tree s (own_target x) in
    more (jump_if_given x (size t + 2)) (followed (code_sequence t) (one (store x)))

overrides_sequence : (s : Scope) (c v : ℕ) (xs : List Variable) → Sequence (overrides_code s c v xs)
unfolding overrides_code
overrides_sequence s c v [] = nothing
overrides_sequence s c v (x ∷ xs) =
    let rest = overrides_sequence s c (suc v) xs in
    let t = tree s (called_target c v) in
    either (has_clause s (called_target c v))
    (more (begin_try (size t + 4)) (followed (code_sequence t) (more end_try (more (override c v) rest))))
    rest

call_sequence : (book : List Scope) (s : Scope) (c : ℕ) → Sequence (call_code book s c)
unfolding call_code
call_sequence book s c =
    followed (overrides_sequence s c 0 (scope_at book (get_or s.sub_scopes c 0)).variables) (one (enter c))

step_sequence : (book : List Scope) (s : Scope) (x : ℕ) → Sequence (step_code book s x)
unfolding step_code
step_sequence book s x =
    either (ltb x (length s.variables)) (variable_sequence s x) (call_sequence book s (x - length s.variables))

pub steps_sequence : (book : List Scope) (s : Scope) (xs : List ℕ) → Sequence (steps_code book s xs)
unfolding steps_code
steps_sequence book s [] = nothing
steps_sequence book s (x ∷ xs) = followed (step_sequence book s x) (steps_sequence book s xs)

-- Blocks

abbrev parsed : List Variable → List ℕ → List ℕ → List Block → Parsed
parsed vs ss body bs = record { opened = record { scope = 0; variables = vs; sub_scopes = ss; body = body }; blocks = bs }

type_read : (t : ValueType) (k : List ℕ) → variable_of (type_byte t ∷ k) ≡ record { holds = t }
type_read YesNo k = refl
type_read Numeric k = refl

module _ (body : List ℕ) (bs : List Block) (k : List ℕ) where
  parse_sub_scopes : (ss : List ℕ) → parse k 0 ≡ parsed [] [] body bs → parse (sub_scopes_code ss k) 0 ≡ parsed [] ss body bs
  unfolding sub_scopes_code parse in_front shape_in shapes_of kinds
  parse_sub_scopes [] e = e
  parse_sub_scopes (i ∷ ss) e = rw (parse_sub_scopes ss e)

  parse_variables : (vs : List Variable) (ss : List ℕ) → parse k 0 ≡ parsed [] ss body bs → parse (variables_code vs k) 0 ≡ parsed vs ss body bs
  unfolding variables_code parse in_front shape_in shapes_of kinds
  parse_variables [] ss e = e
  parse_variables (x ∷ vs) ss e = rw (parse_variables vs ss e, type_read x.holds (variables_code vs k))

parse_block : (book : List Scope) (i : ℕ) (bs : List Block) (k : List ℕ) → parse k 0 ≡ parsed [] [] [] bs
    → parse (block_code book i k) 0 ≡ parsed [] [] [] (compiled_block book i ∷ bs)
unfolding block_code parse in_front shape_in shapes_of kinds
parse_block book i bs k e =
    let s = scope_at book i in
    let body = steps_code book s (step_order s) in
    let steps : parse (body k) 0 ≡ parsed [] [] (body []) bs = parse_sequence (steps_sequence book s (step_order s)) k ∙ ap (with_body body) e in
    let calls = parse_sub_scopes (body []) bs (body k) s.sub_scopes steps in
    rw (parse_variables (body []) bs (sub_scopes_code s.sub_scopes (body k)) s.variables s.sub_scopes calls)

parse_blocks : (book : List Scope) (is : List ℕ) → parse (blocks_code book is) 0 ≡ parsed [] [] [] (compiled_in book is)
unfolding blocks_code parse compiled_in
parse_blocks book [] = refl
parse_blocks book (i ∷ is) = parse_block book i (compiled_in book is) (blocks_code book is) (parse_blocks book is)

map_reverse : {A B : Type 0} (f : A → B) (xs ys : List A) → map f (reverse_aux xs ys) ≡ reverse_aux (map f xs) (map f ys)
map_reverse f [] ys = refl
map_reverse f (x ∷ xs) ys = map_reverse f xs (x ∷ ys)

pub blocks_code_lem : (book : List Scope) → blocks_of (code_of book) ≡ compiled book
unfolding blocks_of code_of compiled compiled_in
blocks_code_lem book = rw (parse_blocks book (blocks book)) (sym (map_reverse (compiled_block book) (blocks book) []))
