-- Packing an answer loses nothing.
--     unpacked    numbers that have room are recovered from the packed number
--     unwrapped       they are packed as they are
--     says        and so a number that an answer is packed into says the answer's numbers
-- Assumes nothing.
use Prim.Native.Nat.{ℕ, ◌%◌}
use mathlib.Core.Path.{◌≡◌, refl, ◌∙◌}
use native.Mathlib.Omega.{arith}
use Rattle.answers.specs.Numbers.{Numbers}
use Rattle.numbers.specs.Packed.{packed, wrapped, Placed, Says}

pub unpacked : (n : Numbers) → Placed n → Says n (packed n)
unpacked n p =
    let a = p.refusal in
    let b = p.outcome in
    let c = p.count in
    let d = p.length in
    record { packs = refl; refusal = omega arith; outcome = omega arith; count = omega arith; length = omega arith }

pub unwrapped : (n : Numbers) → Placed n → packed (wrapped n) ≡ packed n
unwrapped n p =
    let c : n.count % 65536 ≡ n.count = omega (arith, p.count) in
    let d : n.length % 4294967296 ≡ n.length = omega (arith, p.length) in
    omega (arith, c, d)

pub says : (n : Numbers) (r : ℕ) → Placed n → r ≡ packed (wrapped n) → Says n r
says n r p e = rw (e ∙ unwrapped n p) (unpacked n p)
