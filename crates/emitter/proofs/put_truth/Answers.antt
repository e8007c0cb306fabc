-- `emitter::put_truth` meets its contract.
use mathlib.Core.Bool.{Bool, true, false, cond}
use mathlib.Core.List.{◌∷◌}
use mathlib.Core.Path.{◌≡◌, refl, ap, ◌∙◌}
use mir.Val.{bool_byte}
use Rattle.translation.specs.Code.{size, code}
use Rattle.emitter.proofs.Emission.{alike}
use Rattle.emitter.proofs.put_truth.Goals as goal

bool_byte_lem : (b : Bool) → bool_byte b ≡ cond b 1 0
bool_byte_lem true = refl
bool_byte_lem false = refl

pub returns : goal.returns
unfolding code size
returns c = alike c.put_two.ensures (λ k. ap (λ n. 4 ∷ n ∷ k) (c.from.ensures ∙ bool_byte_lem c.args.b)) refl
