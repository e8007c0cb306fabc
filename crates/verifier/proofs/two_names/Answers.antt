-- `verifier::two_names` meets its contract.
use Rattle.verifier.proofs.Landings.{stops, lands_at, nameless, called_out, called_in, called_block}
use borrow.Author.Tests.{lt-ltb, le-ltb}
use mathlib.Core.Path.{refl, ◌∙◌}
use native.Mathlib.Omega.{arith}
use Rattle.verifier.proofs.two_names.Goals as goal

pub returns-then-not-body_passes : goal.returns-then-not-body_passes
returns-then-not-body_passes c = stops _ _ _ _ _ c.body_passes.ensures _ _ c.if-not-body_passes.true

pub bounds-code-at : goal.bounds-code-at
bounds-code-at c = let w = c.body_passes.ensures.whole c.if-not-body_passes.false in omega arith

pub returns-then-u-k : goal.returns-then-u-k
returns-then-u-k c = nameless _ _ _ _ _ _ (called_out _ _ _ _ _ c.from-k.ensures c.if-u-k.true)

pub bounds-code-at-2 : goal.bounds-code-at-2
bounds-code-at-2 c = let w = c.body_passes.ensures.whole c.if-not-body_passes.false in omega arith

pub block_of-requires : goal.block_of-requires
block_of-requires c = let l = c.if-u-k.false in let f = c.requires.1.few in (c.requires.1.blocks, omega arith)

pub variables_in-requires : goal.variables_in-requires
variables_in-requires c = called_block _ _ _ _ c.requires.1 c.if-u-k.false c.block_of.ensures

pub returns-then-from-variables_in : goal.returns-then-from-variables_in
returns-then-from-variables_in c = let w = c.body_passes.ensures.whole c.if-not-body_passes.false in lands_at _ _ _ _ _ c.body_passes.ensures _ 0 c.if-not-body_passes.false (called_in _ _ _ _ _ c.from-k.ensures c.if-u-k.false _ _ _ c.block_of.ensures c.from.ensures c.variables_in.ensures ∙ lt-ltb _ _ c.if-from-variables_in.true) _ refl (omega arith) (omega arith)

pub returns : goal.returns
returns c = nameless _ _ _ _ _ _ (called_in _ _ _ _ _ c.from-k.ensures c.if-u-k.false _ _ _ c.block_of.ensures c.from.ensures c.variables_in.ensures ∙ le-ltb _ _ c.if-from-variables_in.false)
