-- The blocks of code, one after the other.
--     earlier_suc               a block and those before it
--     block_fits, sound-code    of accepted code, each block is well-formed and the records are sound
--     all_fit_lem, all-accepted     code is accepted where its records are sound and each block is well-formed
--     formed, well-formed       the parts of a well-formed block
-- Assumes nothing.
use Prim.Native.Nat.{ℕ, suc, ◌<◌, ◌≤◌}
use mathlib.Core.Path.{◌≡◌, refl, sym, ap, ◌∙◌}
use mathlib.Core.Bool.{Bool, true, false, not, ◌&&◌}
use mathlib.Core.List.{List, [], ◌∷◌, ◌++◌, reverse, reverse-append}
use lib.ListN.{length, get_or, take, drop, take-append-drop}
use lib.Seq.{take-suc, take_all}
use Rattle.laws.proofs.Booleans.{both}
use lib.Dec.{leb, ltb}
use borrow.Author.Tests.{ltb-true, leb-true, lt-ltb, le-leb, not-true}
use Rattle.book.specs.Lists.{any}
use Rattle.machine.specs.Blocks.{Block, empty_block, parse, blocks_of, has_block}
use Rattle.machine.specs.Acceptance.{sound, start, all_fit, weight_in, well_formed, all_well_formed, accepted}
use Rattle.directory.specs.Tabled.{block_at}
use Rattle.verifier.specs.Pass.{earlier}

tail_fits : (xs ys : List Block) → all_well_formed (xs ++ ys) ≡ true → all_well_formed ys ≡ true
unfolding all_well_formed
tail_fits [] ys e = e
tail_fits (x ∷ xs) ys e = tail_fits xs ys (both (well_formed (xs ++ ys) x) (all_well_formed (xs ++ ys)) e).1

-- a block that is refused refuses the code
pub refused : (code : List ℕ) → (accepted code ≡ true → ⊥) → accepted code ≡ false
refused code h = go (accepted code) refl
  where
    go : (b : Bool) → accepted code ≡ b → accepted code ≡ false
    go true e = absurd (h e)
    go false e = e

module _ (code : List ℕ) where
  pub earlier_suc : (m : ℕ) → m < length (parse code 0).blocks → earlier code (suc m) ≡ block_at code m ∷ earlier code m
  unfolding earlier block_at
  earlier_suc m h =
      ap (λ (l : List Block). reverse l) (take-suc (parse code 0).blocks m empty_block h)
      ∙ reverse-append (take m (parse code 0).blocks) (get_or (parse code 0).blocks m empty_block ∷ [])

  pub sound_code : accepted code ≡ true → sound code 0 start ≡ true
  unfolding accepted
  sound_code e = (both (sound code 0 start) (all_well_formed (blocks_of code)) e).0

  fits_code : accepted code ≡ true → all_well_formed (reverse (parse code 0).blocks) ≡ true
  unfolding accepted blocks_of
  fits_code e = (both (sound code 0 start) (all_well_formed (reverse (parse code 0).blocks)) e).1

  fits_earlier : (m : ℕ) → accepted code ≡ true → all_well_formed (earlier code m) ≡ true
  unfolding earlier
  fits_earlier m e =
      let bs = (parse code 0).blocks in
      let q : reverse bs ≡ reverse (drop m bs) ++ reverse (take m bs) =
      ap (λ (l : List Block). reverse l) (sym (take-append-drop m bs)) ∙ reverse-append (take m bs) (drop m bs) in
      tail_fits (reverse (drop m bs)) (reverse (take m bs)) (ap all_well_formed (sym q) ∙ fits_code e)

  pub block_fits : (m : ℕ) → m < length (parse code 0).blocks → accepted code ≡ true → well_formed (earlier code m) (block_at code m) ≡ true
  unfolding all_well_formed
  block_fits m h e =
      (both (well_formed (earlier code m) (block_at code m)) (all_well_formed (earlier code m))
      (ap all_well_formed (sym (earlier_suc m h)) ∙ fits_earlier (suc m) e)).0

  pub all_fit_lem : (m : ℕ) → m < length (parse code 0).blocks → well_formed (earlier code m) (block_at code m) ≡ true
      → all_well_formed (earlier code m) ≡ true
      → all_well_formed (earlier code (suc m)) ≡ true
  unfolding all_well_formed
  all_fit_lem m h a b = ap all_well_formed (earlier_suc m h) ∙ rw (a, b)

  pub all_accepted : (m : ℕ) → length (parse code 0).blocks ≤ m → sound code 0 start ≡ true → all_well_formed (earlier code m) ≡ true
      → accepted code ≡ true
  unfolding accepted earlier blocks_of
  all_accepted m h s e = rw (s, ← take_all m (parse code 0).blocks h) e

-- the parts of a well-formed block
pub record Formed (earlier : List Block) (b : Block) : Type 0 where
  pub scope : b.scope < 32
  pub fresh : has_block earlier b.scope ≡ false
  pub known : any (λ i. not (has_block earlier i)) b.sub_scopes ≡ false
  pub fit : all_fit earlier b b.body 0 ≡ true
  pub light : weight_in (b ∷ earlier) b.scope ≤ 4096

pub formed : (earlier : List Block) (b : Block) → well_formed earlier b ≡ true → Formed earlier b
unfolding well_formed
formed earlier b e =
    let one = ltb b.scope 32 in
    let two = not (has_block earlier b.scope) in
    let three = not (any (λ i. not (has_block earlier i)) b.sub_scopes) in
    let four = all_fit earlier b b.body 0 in
    let five = leb (weight_in (b ∷ earlier) b.scope) 4096 in
    let p = both one (two && (three && (four && five))) e in
    let q = both two (three && (four && five)) p.1 in
    let r = both three (four && five) q.1 in
    let s = both four five r.1 in
    record {
      scope = ltb-true b.scope 32 p.0;
      fresh = not-true (has_block earlier b.scope) q.0;
      known = not-true (any (λ i. not (has_block earlier i)) b.sub_scopes) r.0;
      fit = s.0;
      light = leb-true (weight_in (b ∷ earlier) b.scope) 4096 s.1;
    }

pub well_formed_lem : (earlier : List Block) (b : Block) → Formed earlier b → well_formed earlier b ≡ true
unfolding well_formed
well_formed_lem earlier b f =
    rw (lt-ltb b.scope 32 f.scope, f.fresh, f.known, f.fit, le-leb (weight_in (b ∷ earlier) b.scope) 4096 f.light)
