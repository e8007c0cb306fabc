-- `emitter::put_number` meets its contract.
use mathlib.Core.Path.{refl, ap, ◌∙◌}
use mir.Syntax.{w32}
use mir.Val.{of_z}
use mir.Facts.{to_z-of_z}
use Rattle.emitter.proofs.Terms.{emits_number}
use Rattle.emitter.proofs.put_number.Goals as goal

pub returns : goal.returns
returns c =
    emits_number refl (c.bits_of-u.ensures ∙ ap (of_z w32) (to_z-of_z c.ranges.z)) c.put_two-p.ensures c.put_two-q.ensures c.put_one.ensures
