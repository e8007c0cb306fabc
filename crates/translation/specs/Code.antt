-- The code of a term: `code t k` is the code of t followed by the bytes k, and `size t` the number of its bytes.
use Rattle.std.specs.Prelude.{ℕ, ◌+◌, cond, List, ◌∷◌, ◌++◌}
use Rattle.slices.specs.Bytes.{bytes_of, number_bytes}
use Rattle.calculus.specs.Terms.{Term, Terms, literal, own, called, error, unary, binary, choice, default, none, also}
use Rattle.calculus.specs.declared.Value.{Value}
use Rattle.calculus.specs.declared.Value.TheVariants.{Truth, Number}
use Rattle.answers.specs.declared.Cause.{Cause}
use Rattle.answers.specs.declared.Cause.TheVariants.{Empty, Conflict, OutOfRange}
use Rattle.calculus.specs.declared.Unary.{Unary}
use Rattle.calculus.specs.declared.Unary.TheVariants.{Not, Negate}
use Rattle.calculus.specs.declared.Binary.{Binary}
use Rattle.calculus.specs.declared.Binary.TheVariants.{And, Add, Subtract, Equal, Less}

-- "10 not, 11 negate"
abbrev pub unary_kind : Unary → ℕ
unary_kind Not = 10
unary_kind Negate = 11

-- "12 and, 13 add, 14 subtract, 15 equal, 16 less"
abbrev pub binary_kind : Binary → ℕ
binary_kind And = 12
binary_kind Add = 13
binary_kind Subtract = 14
binary_kind Equal = 15
binary_kind Less = 16

-- "8 and 9 become 32 and 33"; out of range is named by no book and has no instruction: its 33 is there only to have a number
abbrev pub raise_kind : Cause → ℕ
raise_kind Empty = 32
raise_kind Conflict = 33
raise_kind (OutOfRange s) = 33

-- "Kinds 4–7 push as in the book"
abbrev pub literal_code : Value → List ℕ → List ℕ
literal_code (Truth b) k = 4 ∷ cond b 1 0 ∷ k
literal_code (Number z) k = 5 ∷ number_bytes z ++ k

abbrev pub literal_size : Value → ℕ
literal_size (Truth b) = 2
literal_size (Number z) = 5

-- "Distances are two bytes, high byte first, forward from the instruction's end"
abbrev pub far : ℕ → ℕ → List ℕ → List ℕ
far kind distance k = kind ∷ bytes_of 2 distance ++ k

-- with exceptions the first, without them the second
abbrev pub if_any : {A : Type 0} → Terms → A → A → A
if_any none a b = b
if_any (also e es) a b = a

unfoldable mutual
  pub size : Term → ℕ
  size (literal v) = literal_size v
  size (own x) = 2
  size (called s x) = 3
  size (error c) = 1
  size (unary op a) = size a + 1
  size (binary op a b) = size a + size b + 1
  size (choice c a b) = size c + 3 + (size a + 3) + size b
  size (default es j c) = if_any es (1 + sizes es + 3) 0 + (size j + 3 + (size c + 3) + 1)

  pub sizes : Terms → ℕ
  sizes none = 0
  sizes (also e es) = 3 + (size e + 4) + 2 + sizes es

unfoldable mutual
  -- "A node's operands come first, then its kind"
  pub code : Term → List ℕ → List ℕ
  code (literal v) k = literal_code v k
  code (own x) k = 6 ∷ x ∷ k
  code (called s x) k = 7 ∷ s ∷ x ∷ k
  code (error c) k = raise_kind c ∷ k
  code (unary op a) k = code a (unary_kind op ∷ k)
  code (binary op a b) k = code a (code b (binary_kind op ∷ k))
  -- "If: condition, 35, then, 34, else"
  code (choice c a b) k = code c (far 35 (size a + 3) (code a (far 34 (size b) (code b k))))
  -- "A term with exceptions: 38; ..; then 40 past the term. Then justification, 35 to the raise, consequence, 34 past, 32"
  code (default es j c) k =
      let tail = code j (far 35 (size c + 3) (code c (far 34 1 (32 ∷ k)))) in
      if_any es (38 ∷ codes es (far 40 (size j + 3 + (size c + 3) + 1) tail)) tail

  -- "for each 36, its code, 37, 34 over one byte, 38 (where the try lands), 39"
  pub codes : Terms → List ℕ → List ℕ
  codes none k = k
  codes (also e es) k = far 36 (size e + 4) (code e (37 ∷ far 34 1 (38 ∷ 39 ∷ codes es k)))
