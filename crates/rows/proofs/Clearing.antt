-- Zeros from a position on.
--     cleared_so    the part behind the position, filled with zeros
-- Assumes nothing.
use Prim.Native.Nat.{ℕ, ◌-◌}
use mathlib.Core.Path.{◌≡◌, ap, ◌∙◌}
use mathlib.Core.List.{List, ◌++◌, append-nil}
use native.Mathlib.Omega.{arith}
use lib.ListN.{length, take, drop, replicate, drop_of_length-le, length-drop}
use Rattle.slices.proofs.Parts.{all_left}
use Rattle.rows.specs.Filling.{cleared}

pub cleared_so : (bytes part : List ℕ) (at : ℕ) → part ≡ replicate (length (take (length bytes - at) (drop at bytes))) 0
    → take at bytes ++ (part ++ drop (length bytes - at) (drop at bytes)) ≡ cleared bytes at
unfolding cleared
cleared_so bytes part at e =
    let d = length-drop at bytes in
    let n : length (take (length bytes - at) (drop at bytes)) ≡ length bytes - at = ap length (all_left at bytes) ∙ d in
    rw (e, n, drop_of_length-le (drop at bytes) {i = length bytes - at} (omega arith), append-nil)
