-- `integers::put_number` meets its contract.
use Rattle.std.proofs.Common.{◌≡◌, suc, ◌≤◌, ◌+◌, ◌∙◌, ap, sym, length, of_z, to_z-of_z, leb-true, leb-false, add-one, arith}
use Rattle.std.specs.Int.{w32}
use Rattle.slices.specs.Bytes.{number_bytes, bytes_of}
use Rattle.slices.proofs.Overwrite.{stores, unfit}
use Rattle.integers.proofs.Library.{four_bytes}
use Rattle.integers.proofs.put_number.Goals as goal

pub returns-then-fits : goal.returns-then-fits
unfolding number_bytes bytes_of
returns-then-fits c =
    let at = c.args.at in
    let s = c.args.s.now in
    let bytes : c.to_be_bytes.result ≡ number_bytes c.args.n =
    c.to_be_bytes.ensures ∙ four_bytes _ ∙ ap (λ z. bytes_of 4 (of_z w32 z)) (to_z-of_z c.ranges.n) in
    let two : at + 2 ≡ suc (suc at) = omega arith in
    let three : at + 3 ≡ suc (suc (suc at)) = omega arith in
    let room : at + 4 ≤ length s = leb-true (at + 4) (length s) (sym c.if-fits.ensures) in
    rw (bytes, add-one at, two, three) (stores s at (number_bytes c.args.n) room)

pub returns-else-fits : goal.returns-else-fits
unfolding number_bytes bytes_of
returns-else-fits c = sym
    (unfit c.args.s.now c.args.at (number_bytes c.args.n)
    (leb-false (c.args.at + 4) (length c.args.s.now) (sym c.if-fits.ensures)))
