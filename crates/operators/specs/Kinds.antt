-- The operators by their kinds.
use Rattle.std.specs.Prelude.{ℕ, cond, eqb}
use Rattle.calculus.specs.declared.Binary.{Binary}
use Rattle.calculus.specs.declared.Binary.TheVariants.{And, Add, Subtract, Equal, Less}

-- the operator of a kind, "12 and, 13 add, 14 subtract, 15 equal, 16 less"
unfoldable pub operator : ℕ → Binary
operator k = cond (eqb k 12) And (cond (eqb k 13) Add (cond (eqb k 14) Subtract (cond (eqb k 15) Equal Less)))
