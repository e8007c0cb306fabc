-- `instructions::push_number` meets its contract.
use mir.Facts.{to_z-of_z}
use mir.Val.{SFits}
use mir.Syntax.{w32}
use Rattle.instructions.proofs.push_number.Goals as goal

pub returns : goal.returns
returns c = λ tr m o.
    let f : SFits w32 c.number_at.result = record { sfits = c.number_at.type_inv } in
    let e = rw (to_z-of_z f, c.number_at.ensures) at c.encode.ensures.entry in
    rw (← e) (c.push.ensures tr m o)
