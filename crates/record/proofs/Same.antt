-- Two shapes are equal where their four numbers are: what the law of a decision asks.
-- Assumes nothing.
use mathlib.Core.Path.{◌≡◌}
use mathlib.Core.Bool.{Bool, ◌&&◌}
use lib.Dec.{T, eqb, eqb→eq}
use Rattle.record.proofs.Decision.{and_l, and_r}
use Rattle.record.specs.declared.Shapes.{Shapes}

abbrev pub same : Shapes → Shapes → Bool
same a b = eqb a.0 b.0 && (eqb a.1 b.1 && (eqb a.2 b.2 && eqb a.3 b.3))

pub same_is : (a b : Shapes) → T (same a b) → a ≡ b
same_is a b h =
    let a0 = eqb a.0 b.0 in
    let a1 = eqb a.1 b.1 in
    let a2 = eqb a.2 b.2 in
    let a3 = eqb a.3 b.3 in
    let h1 = and_r a0 (a1 && (a2 && a3)) h in
    let h2 = and_r a1 (a2 && a3) h1 in
    let p = eqb→eq a.0 b.0 (and_l a0 (a1 && (a2 && a3)) h) in
    let q = eqb→eq a.1 b.1 (and_l a1 (a2 && a3) h1) in
    let r = eqb→eq a.2 b.2 (and_l a2 a3 h2) in
    let s = eqb→eq a.3 b.3 (and_r a2 a3 h2) in
    λ i. record { 0 = p i; 1 = q i; 2 = r i; 3 = s i }
