use mathlib.Core.Path.{◌∙◌}
use native.Mathlib.Omega.{arith}
use lib.ListN.{length-set}
use Rattle.lists.proofs.Types.{start, turn, stop}
use Rattle.directory.proofs.fill_types.Goals as goal

pub loop-v-init : goal.loop-v-init
loop-v-init c = (c.requires.2, λ vs d. start c.requires.2)

pub type_byte-requires : goal.type_byte-requires
type_byte-requires c =
    let few = c.requires in
    let n = c.variables_in-count.ensures in
    (few.0, omega (arith, c.loop-v-test.true))

pub loop-v-preserved : goal.loop-v-preserved
loop-v-preserved c =
    let few = c.requires.1 in
    let n = c.variables_in-count.ensures in (
      length-set c.loop-v.types c.loop-v.v _ ∙ c.loop-v.invariant.0,
      λ vs d.
          let m = d.number in
          turn (c.loop-v.invariant.1 vs d) _ (omega (arith, c.loop-v-test.true))
          (c.type_byte.ensures ∙ d.types _ (omega (arith, c.loop-v-test.true))),
    )

pub returns : goal.returns
returns c =
    λ vs d.
    let few = c.requires.1 in
    let n = c.variables_in-count.ensures in
    let m = d.number in
    stop (c.loop-v.invariant.1 vs d) (n ∙ m) (omega arith) c.loop-v-test.false
