-- `==` on types.
--     equal    it answers whether they are the same
-- Assumes nothing.
use mathlib.Core.Path.{◌≡◌, refl, ◌∙◌}
use mathlib.Core.Bool.{Bool}
use denote.Enum.Bare.{sameb}
use Rattle.book.specs.contracts.ValueType.{the_type}
use Rattle.book.specs.Syntax.{same_type}
use Rattle.book.specs.declared.ValueType.{ValueType}
use Rattle.book.specs.declared.ValueType.TheVariants.{YesNo, Numeric}

same_by : (a b : ValueType) → sameb the_type a b ≡ same_type a b
same_by YesNo YesNo = refl
same_by YesNo Numeric = refl
same_by Numeric YesNo = refl
same_by Numeric Numeric = refl

pub equal : {r : Bool} (a b : ValueType) → r ≡ sameb the_type a b → r ≡ same_type a b
equal a b e = e ∙ same_by a b
