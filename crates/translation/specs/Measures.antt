-- What running the code of a term needs at most, and which terms the code can say.
use Rattle.std.specs.Prelude.{ℕ, suc, ◌+◌, ◌<◌, ◌≤◌}
use Rattle.std.specs.Int.{w32}
use Rattle.std.proofs.Common.{SFits}
use Rattle.calculus.specs.Terms.{Term, Terms, literal, own, called, error, unary, binary, choice, default, none, also}
use Rattle.calculus.specs.declared.Value.{Value}
use Rattle.calculus.specs.declared.Value.TheVariants.{Truth, Number}
use Rattle.answers.specs.declared.Cause.{Cause}
use Rattle.answers.specs.declared.Cause.TheVariants.{Empty, Conflict, OutOfRange}
use Rattle.translation.specs.Code.{size}

-- entries of the stack: no more than the leaves of the term
unfoldable mutual
  pub leaves : Term → ℕ
  leaves (literal v) = 1
  leaves (own x) = 1
  leaves (called s x) = 1
  leaves (error c) = 1
  leaves (unary op a) = leaves a
  leaves (binary op a b) = leaves a + leaves b
  leaves (choice c a b) = leaves c + leaves a + leaves b
  leaves (default es j c) = all_leaves es + leaves j + leaves c

  pub all_leaves : Terms → ℕ
  all_leaves none = 0
  all_leaves (also e es) = leaves e + all_leaves es

-- open tries: no more than the defaults of the term
unfoldable mutual
  pub defaults : Term → ℕ
  defaults (literal v) = 0
  defaults (own x) = 0
  defaults (called s x) = 0
  defaults (error c) = 0
  defaults (unary op a) = defaults a
  defaults (binary op a b) = defaults a + defaults b
  defaults (choice c a b) = defaults c + defaults a + defaults b
  defaults (default es j c) = suc (all_defaults es + defaults j + defaults c)

  pub all_defaults : Terms → ℕ
  all_defaults none = 0
  all_defaults (also e es) = defaults e + all_defaults es

-- a number has four bytes, "signed, two's complement"
abbrev pub SayableValue : Value → Type 0
SayableValue (Truth b) = Unit {0}
SayableValue (Number z) = SFits w32 z

-- there are instructions that raise empty and conflict
abbrev pub SayableCause : Cause → Type 0
SayableCause Empty = Unit {0}
SayableCause Conflict = Unit {0}
SayableCause (OutOfRange s) = ⊥

-- the code can say every literal and every error of the term
unfoldable mutual
  pub Sayable : Term → Type 0
  Sayable (literal v) = SayableValue v
  Sayable (own x) = Unit {0}
  Sayable (called s x) = Unit {0}
  Sayable (error c) = SayableCause c
  Sayable (unary op a) = Sayable a
  Sayable (binary op a b) = Sayable a × Sayable b
  Sayable (choice c a b) = Sayable c × Sayable a × Sayable b
  Sayable (default es j c) = AllSayable es × Sayable j × Sayable c

  pub AllSayable : Terms → Type 0
  AllSayable none = Unit {0}
  AllSayable (also e es) = Sayable e × AllSayable es

-- the term's code can be said, with "two bytes" for every distance, "1,024 stack entries" and "512 open tries"; an override's code has a try
-- around its tree, which lands four bytes behind it
pub record Runnable (t : Term) : Type 0 where
  pub sayable : Sayable t
  pub near : size t + 4 < 65536
  pub shallow : leaves t ≤ 1024
  pub few : defaults t < 512
