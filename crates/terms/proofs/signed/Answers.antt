-- `terms::signed` meets its contract.
use mir.Syntax.{w32}
use mir.Val.{SFits}
use mir.Facts.{to_z-of_z}
use Rattle.calculus.proofs.Numbers.{wide}
use Rattle.terms.proofs.signed.Goals as goal

pub returns : goal.returns
returns c = let f : SFits w32 c.number_of.result = record { sfits = c.number_of.type_inv } in rw (c.from.ensures, to_z-of_z f, to_z-of_z (wide f)) c.number_of.ensures
