-- The length of a term's code, and that what is to follow the code follows it.
--     code_behind, codes_behind      behind as many bytes as the size says stand the bytes that follow
--     code_length, codes_length      the length of the code
-- Assumes nothing.
use Prim.Native.Nat.{ℕ, zero, suc, ◌+◌}
use mathlib.Core.Path.{◌≡◌, refl, ap, ◌∙◌}
use mathlib.Core.Bool.{cond}
use mathlib.Core.List.{List, [], ◌∷◌, ◌++◌}
use native.Mathlib.Omega.{arith}
use lib.ListN.{length, drop}
use lib.IntN.{ℤ}
use Rattle.slices.specs.Bytes.{bytes_of, number_bytes}
use Rattle.calculus.specs.Terms.{Term, Terms, literal, own, called, error, unary, binary, choice, default, none, also}
use Rattle.calculus.specs.declared.Value.TheVariants.{Truth, Number}
use Rattle.translation.specs.Code.{unary_kind, binary_kind, raise_kind, far, size, sizes, code, codes}

-- behind n bytes of ys stand the bytes k
pub record Behind (n : ℕ) (ys k : List ℕ) : Type 0 where
  pub rest : drop n ys ≡ k
  pub counts : length ys ≡ n + length k

drop_add : (a b : ℕ) (ys : List ℕ) → drop (a + b) ys ≡ drop b (drop a ys)
drop_add zero b ys = let e : 0 + b ≡ b = omega arith in rw e
drop_add (suc a) zero [] = let e : suc a + 0 ≡ suc a = omega arith in rw e
drop_add (suc a) (suc b) [] = let e : suc a + suc b ≡ suc (a + suc b) = omega arith in rw e
drop_add (suc a) b (y ∷ ys) = let e : suc a + b ≡ suc (a + b) = omega arith in rw e (drop_add a b ys)

pub behind_both : {a b : ℕ} {xs ys zs : List ℕ} → Behind a xs ys → Behind b ys zs → Behind (a + b) xs zs
behind_both {a} {b} {xs} {ys} {zs} p q =
    record {
      rest = drop_add a b xs ∙ ap (drop b) p.rest ∙ q.rest;
      counts = omega (arith, p.counts, q.counts);
    }

pub behind_none : (k : List ℕ) → Behind 0 k k
behind_none k = record { rest = refl; counts = omega arith }

pub behind_one : (b : ℕ) (k : List ℕ) → Behind 1 (b ∷ k) k
behind_one b k = record { rest = refl; counts = omega arith }

pub behind_two : (b c : ℕ) (k : List ℕ) → Behind 2 (b ∷ c ∷ k) k
behind_two b c k = record { rest = refl; counts = omega arith }

pub behind_three : (b c d : ℕ) (k : List ℕ) → Behind 3 (b ∷ c ∷ d ∷ k) k
behind_three b c d k = record { rest = refl; counts = omega arith }

pub behind_far : (kind d : ℕ) (k : List ℕ) → Behind 3 (far kind d k) k
unfolding bytes_of
behind_far kind d k = record { rest = refl; counts = omega arith }

behind_number : (z : ℤ) (k : List ℕ) → Behind 5 (5 ∷ number_bytes z ++ k) k
unfolding number_bytes bytes_of
behind_number z k = record { rest = refl; counts = omega arith }

-- behind an exception: where its try lands, with the rest of the exceptions to follow, and what stands before that
abbrev pub landing : List ℕ → List ℕ
landing zs = 38 ∷ 39 ∷ zs

abbrev pub closing : List ℕ → List ℕ
closing zs = 37 ∷ far 34 1 (landing zs)

pub behind_closing : (zs : List ℕ) → Behind 4 (closing zs) (landing zs)
unfolding bytes_of
behind_closing zs = record { rest = refl; counts = omega arith }

-- justification and consequence, with what stands between and behind them
abbrev pub tail : Term → Term → List ℕ → List ℕ
tail j c k = code j (far 35 (size c + 3) (code c (far 34 1 (32 ∷ k))))

abbrev pub tail_size : Term → Term → ℕ
tail_size j c = size j + 3 + (size c + 3) + 1

default_behind : (es : Terms) (j c : Term) (k : List ℕ) → Behind (tail_size j c) (tail j c k) k
    → Behind (sizes es) (codes es (far 40 (tail_size j c) (tail j c k))) (far 40 (tail_size j c) (tail j c k))
    → Behind (size (default es j c)) (code (default es j c) k) k
unfolding code size
default_behind none j c k p q = behind_both (behind_none (tail j c k)) p
default_behind (also e es) j c k p q =
    let d = tail_size j c in
    behind_both (behind_both (behind_both (behind_one 38 _) q) (behind_far 40 d (tail j c k))) p

-- condition, first branch, second branch: the last are the bytes ys
branches_behind : (c a : Term) (n : ℕ) (ys k : List ℕ) → ((xs : List ℕ) → Behind (size c) (code c xs) xs)
    → ((xs : List ℕ) → Behind (size a) (code a xs) xs) → Behind n ys k
    → Behind (size c + 3 + (size a + 3) + n) (code c (far 35 (size a + 3) (code a (far 34 n ys)))) k
branches_behind c a n ys k p q r =
    let second = far 34 n ys in
    let first = far 35 (size a + 3) (code a second) in
    behind_both (behind_both (behind_both (p first) (behind_far 35 (size a + 3) (code a second))) (behind_both (q second) (behind_far 34 n ys))) r

mutual
  unfolding code size

  pub code_behind : (t : Term) (k : List ℕ) → Behind (size t) (code t k) k
  code_behind (literal (Truth b)) k = behind_two 4 (cond b 1 0) k
  code_behind (literal (Number z)) k = behind_number z k
  code_behind (own x) k = behind_two 6 x k
  code_behind (called s x) k = behind_three 7 s x k
  code_behind (error c) k = behind_one (raise_kind c) k
  code_behind (unary op a) k = behind_both (code_behind a (unary_kind op ∷ k)) (behind_one (unary_kind op) k)
  code_behind (binary op a b) k =
      behind_both (behind_both (code_behind a (code b (binary_kind op ∷ k))) (code_behind b (binary_kind op ∷ k))) (behind_one (binary_kind op) k)
  code_behind (choice c a b) k = branches_behind c a (size b) (code b k) k (λ xs. code_behind c xs) (λ xs. code_behind a xs) (code_behind b k)
  code_behind (default es j c) k =
      default_behind es j c k
      (branches_behind j c 1 (32 ∷ k) k (λ xs. code_behind j xs) (λ xs. code_behind c xs) (behind_one 32 k))
      (codes_behind es (far 40 (tail_size j c) (tail j c k)))

  pub codes_behind : (es : Terms) (k : List ℕ) → Behind (sizes es) (codes es k) k
  codes_behind none k = behind_none k
  codes_behind (also e es) k =
      let zs = codes es k in
      let end = closing zs in
      behind_both (behind_both (behind_both (behind_far 36 (size e + 4) (code e end)) (behind_both (code_behind e end) (behind_closing zs)))
      (behind_two 38 39 zs)) (codes_behind es k)

pub tail_behind : (j c : Term) (k : List ℕ) → Behind (tail_size j c) (tail j c k) k
tail_behind j c k = branches_behind j c 1 (32 ∷ k) k (code_behind j) (code_behind c) (behind_one 32 k)

pub code_length : (t : Term) (k : List ℕ) → length (code t k) ≡ size t + length k
code_length t k = (code_behind t k).counts

pub codes_length : (es : Terms) (k : List ℕ) → length (codes es k) ≡ sizes es + length k
codes_length es k = (codes_behind es k).counts
