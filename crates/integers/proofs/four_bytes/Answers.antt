-- `integers::four_bytes` meets its contract.
use Rattle.std.proofs.Common.{take, ◌∙◌}
use Rattle.integers.proofs.Endian.{part}
use Rattle.integers.proofs.Library.{four}
use Rattle.integers.proofs.four_bytes.Goals as goal

pub returns-in-Some : goal.returns-in-Some
returns-in-Some c = rw c.from_be_bytes.ensures (rw c.in-Some.ensures.cases.same (four (take 4 c.args.s.now) ∙ part 4 c.args.s.now 0))

pub returns : goal.returns
returns c = rw (c.from_be_bytes-2.ensures, c.byte_at.ensures, c.byte_at-2.ensures, c.byte_at-3.ensures, c.byte_at-4.ensures) (four c.args.s.now)
