-- `scan::scope_bytes` meets its contract.
use Rattle.std.proofs.Common.{arith}
use Rattle.scan.proofs.Beginnings.{count_one, count_none, count_end}
use Rattle.scan.proofs.scope_bytes.Goals as goal
use Rattle.scan.proofs.scope_bytes.Goals.{then-byte-eq-KIND_SCOPE, else-byte-eq-KIND_SCOPE}

pub loop-byte-preserved : goal.loop-byte-preserved
loop-byte-preserved c =
    let inv = c.loop-byte.invariant in
    elim c.if-byte-eq-KIND_SCOPE.branch [
      | then-byte-eq-KIND_SCOPE w ↦ record {
        counted = rw w.count-is (count_one _ _ _ inv.counted c.loop-byte-test.true w.if-byte-eq-KIND_SCOPE.true);
        few = omega arith;
      }
      | else-byte-eq-KIND_SCOPE w ↦ record {
        counted = rw w.count-is (count_none _ _ _ inv.counted c.loop-byte-test.true w.if-byte-eq-KIND_SCOPE.false);
        few = omega arith;
      }
    ]

pub returns : goal.returns
returns c = count_end _ _ _ c.loop-byte.invariant.counted c.loop-byte-test.false
