-- How large a term is, by one count: the term itself and every term in it. The other measures are bounded by it.
--     parts_all         the parts of exceptions, as a sum
--     size_parts        the bytes of its code
--     leaves_parts      its leaves
--     defaults_parts    its defaults
-- Assumes nothing.
use Prim.Native.Nat.{ℕ, ◌+◌, ◌*◌, ◌≤◌}
use mathlib.Core.Path.{◌≡◌}
use native.Mathlib.Omega.{arith}
use Rattle.calculus.specs.Terms.{Term, Terms, literal, own, called, error, unary, binary, choice, default, none, also}
use Rattle.calculus.specs.declared.Value.{Value}
use Rattle.calculus.specs.declared.Value.TheVariants.{Truth, Number}
use Rattle.translation.specs.Code.{literal_size, if_any, size, sizes}
use Rattle.translation.specs.Measures.{leaves, all_leaves, defaults, all_defaults}

-- what each term has of its own, over the term itself and every term in it
unfoldable mutual
  pub weigh : (Term → ℕ) → Term → ℕ
  weigh w (literal v) = w (literal v)
  weigh w (own x) = w (own x)
  weigh w (called s x) = w (called s x)
  weigh w (error c) = w (error c)
  weigh w (unary op a) = w (unary op a) + weigh w a
  weigh w (binary op a b) = w (binary op a b) + (weigh w a + weigh w b)
  weigh w (choice c a b) = w (choice c a b) + (weigh w c + weigh w a + weigh w b)
  weigh w (default es j c) = w (default es j c) + (all_weigh w es + weigh w j + weigh w c)

  pub all_weigh : (Term → ℕ) → Terms → ℕ
  all_weigh w none = 0
  all_weigh w (also e es) = weigh w e + all_weigh w es

-- one each
abbrev pub parts : Term → ℕ
parts t = weigh (λ u. 1) t

abbrev pub all_parts : Terms → ℕ
all_parts es = all_weigh (λ u. 1) es

-- a measure of terms, of exceptions together
unfoldable pub all_of : (Term → ℕ) → Terms → ℕ
all_of f none = 0
all_of f (also e es) = f e + all_of f es

pub parts_all : (es : Terms) → all_parts es ≡ all_of parts es
unfolding weigh all_of
parts_all none = omega arith
parts_all (also e es) = omega (arith, parts_all es)

literal_size_lem : (v : Value) → literal_size v ≤ 5
literal_size_lem (Truth b) = omega arith
literal_size_lem (Number z) = omega arith

-- where there are exceptions, four bytes more than theirs
pub around : (es : Terms) → if_any es (1 + sizes es + 3) 0 ≤ sizes es + 4
around none = omega arith
around (also e es) = omega arith

mutual
  unfolding weigh size

  pub size_parts : (t : Term) → size t + 9 ≤ 14 * parts t
  size_parts (literal v) = omega (arith, literal_size_lem v)
  size_parts (own x) = omega arith
  size_parts (called s x) = omega arith
  size_parts (error c) = omega arith
  size_parts (unary op a) = omega (arith, size_parts a)
  size_parts (binary op a b) = omega (arith, size_parts a, size_parts b)
  size_parts (choice c a b) = omega (arith, size_parts c, size_parts a, size_parts b)
  size_parts (default es j c) = omega (arith, around es, sizes_parts es, size_parts j, size_parts c)

  sizes_parts : (es : Terms) → sizes es ≤ 14 * all_parts es
  sizes_parts none = omega arith
  sizes_parts (also e es) = omega (arith, size_parts e, sizes_parts es)

mutual
  unfolding weigh leaves

  pub leaves_parts : (t : Term) → leaves t ≤ parts t
  leaves_parts (literal v) = omega arith
  leaves_parts (own x) = omega arith
  leaves_parts (called s x) = omega arith
  leaves_parts (error c) = omega arith
  leaves_parts (unary op a) = omega (arith, leaves_parts a)
  leaves_parts (binary op a b) = omega (arith, leaves_parts a, leaves_parts b)
  leaves_parts (choice c a b) = omega (arith, leaves_parts c, leaves_parts a, leaves_parts b)
  leaves_parts (default es j c) = omega (arith, all_leaves_parts es, leaves_parts j, leaves_parts c)

  all_leaves_parts : (es : Terms) → all_leaves es ≤ all_parts es
  all_leaves_parts none = omega arith
  all_leaves_parts (also e es) = omega (arith, leaves_parts e, all_leaves_parts es)

-- a default has a justification and a consequence, each at least one part
mutual
  unfolding weigh defaults

  pub defaults_parts : (t : Term) → 2 * defaults t + 1 ≤ parts t
  defaults_parts (literal v) = omega arith
  defaults_parts (own x) = omega arith
  defaults_parts (called s x) = omega arith
  defaults_parts (error c) = omega arith
  defaults_parts (unary op a) = omega (arith, defaults_parts a)
  defaults_parts (binary op a b) = omega (arith, defaults_parts a, defaults_parts b)
  defaults_parts (choice c a b) = omega (arith, defaults_parts c, defaults_parts a, defaults_parts b)
  defaults_parts (default es j c) = omega (arith, all_defaults_parts es, defaults_parts j, defaults_parts c)

  all_defaults_parts : (es : Terms) → 2 * all_defaults es ≤ all_parts es
  all_defaults_parts none = omega arith
  all_defaults_parts (also e es) = omega (arith, defaults_parts e, all_defaults_parts es)
