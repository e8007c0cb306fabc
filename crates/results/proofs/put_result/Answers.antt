-- `results::put_result` meets its contract.
use mir.Facts.{to_z-of_z}
use mir.Val.{SFits, bool_byte}
use mir.Syntax.{w32}
use Rattle.lists.proofs.Lengths.{number_length}
use Rattle.lists.proofs.Writing.{put_bytes}
use Rattle.slices.specs.Bytes.{number_bytes}
use native.Mathlib.Omega.{arith}
use mathlib.Core.Path.{◌≡◌, refl}
use mathlib.Core.Bool.{Bool, true, false}
use Rattle.lists.specs.Results.{bit}
use borrow.Author.Rules.{rules}
use Rattle.results.proofs.put_result.Goals as goal

bit_byte : (b : Bool) → bool_byte b ≡ bit b
bit_byte false = refl
bit_byte true = refl

pub returns-in-Truth : goal.returns-in-Truth
returns-in-Truth c =
    let value = c.in-Truth.is in
    let fits = rw value at c.requires in
    rw value
    (record {
      memory =
          rw (c.put_byte-in-Truth-2.ensures, c.put_byte-in-Truth.ensures, c.put_byte.ensures, c.from.ensures, bit_byte c.in-Truth.b)
          (put_bytes c.args.results.now c.args.at 1 c.args.v _ fits);
      next = refl;
    })

pub returns-in-Number : goal.returns-in-Number
returns-in-Number c =
    let z = c.in-Number.n in
    let value = c.in-Number.is in
    let l = number_length z in
    let f : SFits w32 z = search rules in
    let fits = rw value at c.requires in
    rw value
    (record {
      memory =
          rw (c.put_number.ensures, to_z-of_z f, c.put_byte-in-Number-2.ensures, c.put_byte-in-Number.ensures)
          (put_bytes c.args.results.now c.args.at 2 c.args.v (number_bytes z) fits);
      next = omega arith;
    })
