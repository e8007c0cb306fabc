-- Parts of a list: from a position on, some numbers.
--     all_left      the part to the list's end
--     part_room     a part that lies in the list is as long as asked for
--     before_kept   a part that is put in place of another keeps what stands before it
--     lent_length   and the list's length, where it is as long as the other
-- Assumes nothing.
use Prim.Native.Nat.{ℕ, ◌+◌, ◌-◌, ◌≤◌}
use mathlib.Core.Path.{◌≡◌, sym, ap, ◌∙◌}
use mathlib.Core.List.{List, ◌++◌}
use native.Mathlib.Omega.{arith}
use lib.ListN.{length, take, drop, length-append, length-drop, length-take, take-append-drop}
use lib.Seq.{take_all, take-append-le, drop-append-le, length-take-le}

pub all_left : (k : ℕ) (l : List ℕ) → take (length l - k) (drop k l) ≡ drop k l
all_left k l = let d = length-drop k l in take_all (length l - k) (drop k l) (omega arith)

pub part_room : {n : ℕ} (xs : List ℕ) (a w : ℕ) → a + n ≤ length xs → w ≡ n → length (take w (drop a xs)) ≡ n
part_room xs a w l e = let t = length-take w (drop a xs) in let d = length-drop a xs in omega (arith, t, d)

-- what stands in the front of a list does not depend on what follows
front_kept : (front ys zs : List ℕ) (a n : ℕ) → a + n ≤ length front → take n (drop a (front ++ ys)) ≡ take n (drop a (front ++ zs))
front_kept front ys zs a n l =
    let d = length-drop a front in
    let only : (ws : List ℕ) → take n (drop a (front ++ ws)) ≡ take n (drop a front) =
    λ ws. ap (take n) (drop-append-le a front ws (omega arith)) ∙ take-append-le n (drop a front) ws (omega arith) in
    only ys ∙ sym (only zs)

pub before_kept : (xs : List ℕ) (b : ℕ) (ys : List ℕ) (a n : ℕ) → b ≤ length xs → a + n ≤ b → take n (drop a (take b xs ++ ys)) ≡ take n (drop a xs)
before_kept xs b ys a n l m =
    let long = length-take-le b xs l in
    front_kept (take b xs) ys (drop b xs) a n (omega arith) ∙ ap (λ (zs : List ℕ). take n (drop a zs)) (take-append-drop b xs)

pub lent_length : (xs part : List ℕ) (a w : ℕ) → length part ≡ w → a + w ≤ length xs → length (take a xs ++ (part ++ drop w (drop a xs))) ≡ length xs
lent_length xs part a w s l =
    let t = length-take a xs in
    let d = length-drop a xs in
    let e = length-drop w (drop a xs) in
    let f = length-append part (drop w (drop a xs)) in
    let g = length-append (take a xs) (part ++ drop w (drop a xs)) in
    omega arith
