-- `scan::scope_bytes` meets its contract.
use Rattle.std.proofs.Common.{◌≡◌, ◌+◌, ◌≤◌, drop}
use Rattle.scan.specs.Filling.{scope_bytes}
use Rattle.scan.proofs.scope_bytes.Given as goal

abbrev pub invariant-loop-byte : goal.invariant-loop-byte
invariant-loop-byte l =
    record {
      counted : l.count + scope_bytes (drop l.byte-index l.book) ≡ scope_bytes l.book;
      few : l.count ≤ l.byte-index;
    }
