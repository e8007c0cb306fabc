-- The words of the printed line.
use Rattle.std.specs.Prelude.{ℕ, List, codes}
use Rattle.answers.specs.declared.Side.TheVariants.{Above, Below}
use Rattle.answers.specs.declared.Cause.{Cause}
use Rattle.answers.specs.declared.Cause.TheVariants.{Empty, Conflict, OutOfRange}

-- "Without inputs: `empty 1`. Other first lines: `conflict N`, `range N`" (paper 01); where it was `range N`, "the printed line, which becomes
-- `above N` or `below N`" (paper 02, No. 3): the word
abbrev pub cause_word : Cause → List ℕ
cause_word Empty = codes "empty"
cause_word Conflict = codes "conflict"
cause_word (OutOfRange Above) = codes "above"
cause_word (OutOfRange Below) = codes "below"
