-- `verifier::unmarked` meets its contract.
use Prim.Native.Nat.{◌+◌}
use native.Mathlib.Omega.{arith}
use Rattle.verifier.proofs.Ring.{passed_none, passed_hit, passed_first, passed_more}
use Rattle.verifier.proofs.unmarked.Goals as goal

pub returns-then-from-end : goal.returns-then-from-end
returns-then-from-end c = passed_none _ _ _ c.args.from (omega arith) (passed_first _ _)

pub bounds-ring-from : goal.bounds-ring-from
bounds-ring-from c = c.requires.0 c.args.from (omega arith)

pub returns-then-ring-from-ne0 : goal.returns-then-ring-from-ne0
returns-then-ring-from-ne0 c = passed_hit _ _ _ c.args.from (omega arith) (omega arith) c.if-ring-from-ne0.true

pub returns-then-from-end-2 : goal.returns-then-from-end-2
returns-then-from-end-2 c = passed_none _ _ _ (c.args.from + 1) (omega arith) (passed_more _ _ c.args.from (c.args.from + 1) (omega arith) (passed_first _ _) c.if-ring-from-ne0.false)

pub bounds-ring-from-2 : goal.bounds-ring-from-2
bounds-ring-from-2 c = c.requires.0 (c.args.from + 1) (omega arith)

pub returns-then-ring-from-ne0-2 : goal.returns-then-ring-from-ne0-2
returns-then-ring-from-ne0-2 c = passed_hit _ _ _ (c.args.from + 1) (omega arith) (omega arith) c.if-ring-from-ne0-2.true

pub returns-then-from-end-3 : goal.returns-then-from-end-3
returns-then-from-end-3 c = passed_none _ _ _ (c.args.from + 2) (omega arith) (passed_more _ _ (c.args.from + 1) (c.args.from + 2) (omega arith) (passed_more _ _ c.args.from (c.args.from + 1) (omega arith) (passed_first _ _) c.if-ring-from-ne0.false) c.if-ring-from-ne0-2.false)

pub bounds-ring-from-3 : goal.bounds-ring-from-3
bounds-ring-from-3 c = c.requires.0 (c.args.from + 2) (omega arith)

pub returns-then-ring-from-ne0-3 : goal.returns-then-ring-from-ne0-3
returns-then-ring-from-ne0-3 c = passed_hit _ _ _ (c.args.from + 2) (omega arith) (omega arith) c.if-ring-from-ne0-3.true

pub returns-then-from-end-4 : goal.returns-then-from-end-4
returns-then-from-end-4 c = passed_none _ _ _ (c.args.from + 3) (omega arith) (passed_more _ _ (c.args.from + 2) (c.args.from + 3) (omega arith) (passed_more _ _ (c.args.from + 1) (c.args.from + 2) (omega arith) (passed_more _ _ c.args.from (c.args.from + 1) (omega arith) (passed_first _ _) c.if-ring-from-ne0.false) c.if-ring-from-ne0-2.false) c.if-ring-from-ne0-3.false)

pub bounds-ring-from-4 : goal.bounds-ring-from-4
bounds-ring-from-4 c = c.requires.0 (c.args.from + 3) (omega arith)

pub returns-then-ring-from-ne0-4 : goal.returns-then-ring-from-ne0-4
returns-then-ring-from-ne0-4 c = passed_hit _ _ _ (c.args.from + 3) (omega arith) (omega arith) c.if-ring-from-ne0-4.true

pub returns : goal.returns
returns c = passed_none _ _ _ (c.args.from + 4) (omega arith) (passed_more _ _ (c.args.from + 3) (c.args.from + 4) (omega arith) (passed_more _ _ (c.args.from + 2) (c.args.from + 3) (omega arith) (passed_more _ _ (c.args.from + 1) (c.args.from + 2) (omega arith) (passed_more _ _ c.args.from (c.args.from + 1) (omega arith) (passed_first _ _) c.if-ring-from-ne0.false) c.if-ring-from-ne0-2.false) c.if-ring-from-ne0-3.false) c.if-ring-from-ne0-4.false)
