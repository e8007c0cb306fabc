-- What running answers, of any code and any input list.
--     ran_answered             the cases of an answer
--     run_light               a run enters no more scopes than the weight of the scope asked for, which is 4,096 at most
--     run_weighs              a run that ends in values enters exactly that many
--     run_some                a run that ends otherwise has entered one at least
--     run_fits                values are one for each variable, of its type
--     ran_values              of values: the results have the length known before the run, fit the memory and are written from its first byte
--     ran_end                 of an end: at least one scope was entered, and not one byte is written
--     ran_refused             of a refusal: not one byte is written
--     ran_unchanged           of anything but values: not one byte is written
--     ran_size                the memory keeps its length
--     ran_length              the length in the answer is that of the bytes written
--     ran_count_lem, ran-short    the count is 4,096 at most, and the length 192
-- Assumes nothing.
use Prim.Native.Nat.{ℕ, zero, suc, ◌≤◌}
use mathlib.Core.Path.{◌≡◌, refl, sym, ap, subst, ◌∙◌}
use mathlib.Core.Bool.{Bool, true, false, not, false≢true, true≢false}
use mathlib.Core.List.{List, [], ◌∷◌, ◌++◌, map}
use mathlib.Core.Logic.{⊎_elim}
use native.Mathlib.Omega.{arith}
use lib.ListN.{length, get_or, drop, length-append, length-drop}
use lib.Dec.{eqb, leb, ltb}
use borrow.Author.Tests.{eqb-true, leb-true, leb-false}
use Rattle.std.specs.Prelude.{Option, Result, Ok, Err}
use Rattle.laws.proofs.Booleans.{decide, both}
use Rattle.calculus.specs.declared.Value.{Value}
use Rattle.answers.specs.Response.{memory_after}
use Rattle.answers.specs.declared.Cause.{Cause}
use Rattle.answers.specs.declared.Refusal.{Refusal}
use Rattle.answers.specs.declared.Answer.{Answer}
use Rattle.answers.specs.declared.Answer.TheVariants.{Values, Ended}
use Rattle.book.specs.Lists.{any}
use Rattle.book.specs.Scopes.{sum}
use Rattle.book.specs.declared.Variable.{Variable}
use Rattle.lists.specs.Inputs.{Inputs, bad, good, inputs}
use Rattle.lists.specs.Results.{result_length, results}
use Rattle.lists.specs.Writing.{value_type}
use Rattle.lists.proofs.Lengths.{length_most}
use Rattle.evaluation.specs.Run.{values, ended}
use Rattle.evaluation.specs.Types.{Fitting, ValuesFit}
use Rattle.evaluation.specs.Evaluate.{count_in, length_in, Reply}
use Rattle.evaluation.proofs.Types.{inputs_fitting, results_size}
use Rattle.evaluation.proofs.Answers.{is_values, is_end, cause_in}
use Rattle.machine.specs.Blocks.{Block, empty_block, parse, blocks_of, has_block, variables_of}
use Rattle.machine.specs.Acceptance.{start, sound, all_fit, weight_in, well_formed, all_well_formed, accepted}
use Rattle.machine.specs.Machine.{Ran, ran, stuck}
use Rattle.machine.specs.Run.{begin, surroundings, exec, run_in}
use Rattle.machine.specs.Service.{reply, on_inputs, asked, run}
use Rattle.runner.specs.Answers.{Sought, Entering, Answered, InValues, InEnd}
use Rattle.blocks.specs.Entries.{back}
use Rattle.blocks.proofs.Blocks.{back_all}
use Rattle.blocks.proofs.Limits.{limits}
use Rattle.blocks.proofs.Invariant.{GivensFit, RanGood, Within, block_good, fit_of, run_within}
use Rattle.blocks.proofs.Scopes.{givens_fit}
use Rattle.runner.proofs.Counts.{AtLeast, run_at_least}

-- Cases

module _ (code : List ℕ) (i : ℕ) (list : List ℕ) (room : ℕ) where
  on_run : (e : Entering code i list room) (r : Ran) → run_in (blocks_of code) i e.given ≡ r → Answered code i list room (reply r)
  on_run e (ran (values vs c)) h = Answered.finished e vs c h
  on_run e (ran (ended d c)) h = Answered.stopped e d c h
  on_run e stuck h = Answered.jammed e h

  on_inputs_lem : Sought code i → (r : Inputs) → inputs (variables_of (blocks_of code) i) list ≡ r → Answered code i list room (on_inputs r room (blocks_of code) i)
  on_inputs_lem a bad h = Answered.malformed a h
  on_inputs_lem a (good given) h =
      let variables = variables_of (blocks_of code) i in
      ⊎_elim
      (λ (q : leb (result_length variables) room ≡ true).
      let e : Entering code i list room =
      record {
        asked = a;
        given = given;
        read = h;
        fitting = inputs_fitting variables list given h;
        enough = leb-true (result_length variables) room q;
      } in
      rw q (on_run e (run_in (blocks_of code) i given) refl))
      (λ (q : leb (result_length variables) room ≡ false). rw q (Answered.short a given h (leb-false (result_length variables) room q)))
      (decide (leb (result_length variables) room))

  on_accepted : accepted code ≡ true → Answered code i list room (asked (blocks_of code) i list room)
  unfolding asked
  on_accepted h =
      ⊎_elim
      (λ (q : has_block (blocks_of code) i ≡ true).
      rw q (on_inputs_lem (record { accepts = h; present = q }) (inputs (variables_of (blocks_of code) i) list) refl))
      (λ (q : has_block (blocks_of code) i ≡ false). rw q (Answered.absent h q))
      (decide (has_block (blocks_of code) i))

  pub ran_answered : Answered code i list room (run code i list room)
  unfolding run
  ran_answered =
      ⊎_elim
      (λ (q : accepted code ≡ true). rw q (on_accepted q))
      (λ (q : accepted code ≡ false). rw q (Answered.unsound q))
      (decide (accepted code))

-- Runs of accepted code

-- the blocks of accepted code are well-formed
formed : (code : List ℕ) → accepted code ≡ true → all_well_formed (blocks_of code) ≡ true
unfolding accepted
formed code e = (both (sound code 0 start) (all_well_formed (blocks_of code)) e).1

weight_small : (blocks : List Block) → all_well_formed blocks ≡ true → (i : ℕ) → weight_in blocks i ≤ 4096
unfolding all_well_formed well_formed weight_in
weight_small [] e i = omega arith
weight_small (b ∷ earlier) e i =
    let w = both (well_formed earlier b) (all_well_formed earlier) e in
    let c = both (ltb b.scope 32) _ w.0 in
    let d = both (not (has_block earlier b.scope)) _ c.1 in
    let f = both (not (any (λ j. not (has_block earlier j)) b.sub_scopes)) _ d.1 in
    let g = both (all_fit earlier b b.body 0) _ f.1 in
    let l = leb-true (weight_in (b ∷ earlier) b.scope) 4096 g.1 in
    ⊎_elim
    (λ (q : eqb b.scope i ≡ true). subst (λ (j : ℕ). weight_in (b ∷ earlier) j ≤ 4096) (eqb-true b.scope i q) l)
    (λ (q : eqb b.scope i ≡ false). rw q (weight_small earlier w.1 i))
    (decide (eqb b.scope i))

-- the count of a run that comes to something
abbrev count_of : Ran → ℕ
count_of r = count_in (reply r).answer

within_count : (r : Ran) (w : ℕ) → Within r w → count_of r ≤ w
within_count (ran (values vs n)) w h = h
within_count (ran (ended c n)) w h = h
within_count stuck w h = omega arith

few_below : (bs : List Block) → ((p : ℕ) → length (get_or bs p empty_block).variables ≤ 32) → (i p : ℕ) → length (variables_of (back bs p) i) ≤ 32
unfolding back variables_of
few_below bs few i zero = omega arith
few_below bs few i (suc p) =
    ⊎_elim
    (λ (q : eqb (get_or bs p empty_block).scope i ≡ true). rw q (few p))
    (λ (q : eqb (get_or bs p empty_block).scope i ≡ false). rw q (few_below bs few i p))
    (decide (eqb (get_or bs p empty_block).scope i))

abbrev is_stuck : Ran → Bool
is_stuck (ran e) = false
is_stuck stuck = true

-- the values of a run of a block
in_block : (b : Block) (earlier : List Block) (gs : List (Option Value)) → GivensFit b.variables gs → all_fit earlier b b.body 0 ≡ true
    → ((j : ℕ) (hs : List (Option Value)) → Within (run_in earlier j hs) (weight_in earlier j)) → (vs : List Value) (n : ℕ)
    → exec (surroundings earlier b (λ j handed. run_in earlier j handed)) b.body 0 [] [] (begin earlier b gs) ≡ ran (values vs n)
    → map value_type vs ≡ map (λ x. x.holds) b.variables
in_block b earlier gs f fit below vs n e =
    let A = GivensFit b.variables gs in
    let world = surroundings earlier b (λ j handed. run_in earlier j handed) in
    let good = block_good earlier b A gs (λ x. x) below fit in
    let g = subst (RanGood earlier b world A (weight_in earlier) (suc (sum (weight_in earlier) b.sub_scopes))) e good in
    g.1 f

-- the values of a run are of the types of the block's variables
run_types : (blocks : List Block) → all_well_formed blocks ≡ true → (i : ℕ) (gs : List (Option Value)) → GivensFit (variables_of blocks i) gs
    → (vs : List Value) (n : ℕ) → run_in blocks i gs ≡ ran (values vs n) → map value_type vs ≡ map (λ x. x.holds) (variables_of blocks i)
unfolding all_well_formed variables_of run_in
run_types [] w i gs f vs n e = absurd (true≢false (ap is_stuck e))
run_types (b ∷ earlier) w i gs f vs n e =
    let formed = both (well_formed earlier b) (all_well_formed earlier) w in
    ⊎_elim
    (λ (q : eqb b.scope i ≡ true).
    let fits : GivensFit b.variables gs = rw q at f in
    let here : exec (surroundings earlier b (λ j handed. run_in earlier j handed)) b.body 0 [] [] (begin earlier b gs) ≡ ran (values vs n) = rw q at e in
    rw q (in_block b earlier gs fits (fit_of earlier b formed.0) (run_within earlier formed.1) vs n here))
    (λ (q : eqb b.scope i ≡ false).
    let later : GivensFit (variables_of earlier i) gs = rw q at f in
    let there : run_in earlier i gs ≡ ran (values vs n) = rw q at e in
    rw q (run_types earlier formed.1 i gs later vs n there))
    (decide (eqb b.scope i))

types_fit : (xs : List Variable) (vs : List Value) → map value_type vs ≡ map (λ x. x.holds) xs → ValuesFit xs vs
types_fit [] [] e = tt
types_fit [] (v ∷ vs) e = let z : ◌≡◌ {A = ℕ} 0 1 = cc in absurd (omega arith)
types_fit (x ∷ xs) [] e = let z : ◌≡◌ {A = ℕ} 0 1 = cc in absurd (omega arith)
types_fit (x ∷ xs) (v ∷ vs) e =
    let t : value_type v ≡ x.holds = cc in
    let ts : map value_type vs ≡ map (λ y. y.holds) xs = cc in
    (t, types_fit xs vs ts)

module _ (code : List ℕ) (accepts : accepted code ≡ true) (i : ℕ) where
  pub run_light : (given : List (Option Value)) → count_in (reply (run_in (blocks_of code) i given)).answer ≤ weight_in (blocks_of code) i
  run_light given = within_count (run_in (blocks_of code) i given) (weight_in (blocks_of code) i) (run_within (blocks_of code) (formed code accepts) i given)

  pub run_weighs : (given : List (Option Value)) (vs : List Value) (count : ℕ) → run_in (blocks_of code) i given ≡ ran (values vs count)
      → count ≡ weight_in (blocks_of code) i
  run_weighs given vs count e =
      let weight = weight_in (blocks_of code) i in
      let least = subst (λ (r : Ran). AtLeast r weight) e (run_at_least (blocks_of code) i given) in
      let most = subst (λ (r : Ran). Within r weight) e (run_within (blocks_of code) (formed code accepts) i given) in
      omega (arith, least, most)

  pub run_some : (given : List (Option Value)) (cause : Cause) (count : ℕ) → run_in (blocks_of code) i given ≡ ran (ended cause count) → 1 ≤ count
  run_some given cause count e = subst (λ (r : Ran). AtLeast r (weight_in (blocks_of code) i)) e (run_at_least (blocks_of code) i given)

  light : weight_in (blocks_of code) i ≤ 4096
  light = weight_small (blocks_of code) (formed code accepts) i

  short : result_length (variables_of (blocks_of code) i) ≤ 192
  unfolding blocks_of
  short =
      let bs = (parse code 0).blocks in
      let few = subst (λ (xs : List Block). length (variables_of xs i) ≤ 32) (back_all bs) (few_below bs (λ p. (limits code accepts p).0) i (length bs)) in
      omega (arith, few, length_most (variables_of (blocks_of code) i))

  pub run_fits : (given : List (Option Value)) → Fitting (variables_of (blocks_of code) i) given → (vs : List Value) (count : ℕ)
      → run_in (blocks_of code) i given ≡ ran (values vs count) → ValuesFit (variables_of (blocks_of code) i) vs
  run_fits given f vs count e =
      let variables = variables_of (blocks_of code) i in
      types_fit variables vs (run_types (blocks_of code) (formed code accepts) i given (givens_fit variables given f) vs count e)

-- Readings

module _ (code : List ℕ) (i : ℕ) (list memory : List ℕ) where
  abbrev Cases : Reply → Type 0
  Cases = Answered code i list (length memory)

  abbrev answered : Reply
  answered = run code i list (length memory)

  all_cases : Cases answered
  all_cases = ran_answered code i list (length memory)

  counts : (e : Entering code i list (length memory)) (r : Ran) → run_in (blocks_of code) i e.given ≡ r → count_in (reply r).answer ≤ weight_in (blocks_of code) i
  counts e r h = subst (λ (x : Ran). count_in (reply x).answer ≤ weight_in (blocks_of code) i) h (run_light code e.asked.accepts i e.given)

  sizes : (e : Entering code i list (length memory)) (vs : List Value) (c : ℕ) → run_in (blocks_of code) i e.given ≡ ran (values vs c)
      → result_length (variables_of (blocks_of code) i) ≡ length (results vs)
  sizes e vs c h = results_size (variables_of (blocks_of code) i) vs (run_fits code e.asked.accepts i e.given e.fitting vs c h)

  in_values_lem : (c n : ℕ) (r : Reply) → Cases r → r.answer ≡ Ok (Values c n) → InValues code i list memory c n (memory_after r memory)
  unfolding memory_after
  in_values_lem c n r (Answered.unsound h) e = absurd (false≢true (ap is_values e))
  in_values_lem c n r (Answered.absent a h) e = absurd (false≢true (ap is_values e))
  in_values_lem c n r (Answered.malformed a h) e = absurd (false≢true (ap is_values e))
  in_values_lem c n r (Answered.short a g h l) e = absurd (false≢true (ap is_values e))
  in_values_lem c n r (Answered.jammed a h) e = absurd (false≢true (ap is_values e))
  in_values_lem c n r (Answered.stopped a d k h) e = absurd (false≢true (ap is_values e))
  in_values_lem c n r (Answered.finished a vs k h) e =
      let count : k ≡ c = ap count_in e in
      let size : length (results vs) ≡ n = ap length_in e in
      let is = sizes a vs k h in
      record {
        entering = a;
        finals = vs;
        run = h ∙ ap (λ (m : ℕ). ran (values vs m)) count;
        typed = run_fits code a.asked.accepts i a.given a.fitting vs k h;
        weighs = sym count ∙ run_weighs code a.asked.accepts i a.given vs k h;
        long = sym (is ∙ size);
        fits = omega (arith, a.enough, is, size);
        whole = size;
        written = ap (λ (m : ℕ). results vs ++ drop m memory) size;
      }

  in_end_lem : (d : Cause) (c : ℕ) (r : Reply) → Cases r → r.answer ≡ Ok (Ended d c) → InEnd code i list memory d c (memory_after r memory)
  unfolding memory_after
  in_end_lem d c r (Answered.unsound h) e = absurd (false≢true (ap is_end e))
  in_end_lem d c r (Answered.absent a h) e = absurd (false≢true (ap is_end e))
  in_end_lem d c r (Answered.malformed a h) e = absurd (false≢true (ap is_end e))
  in_end_lem d c r (Answered.short a g h l) e = absurd (false≢true (ap is_end e))
  in_end_lem d c r (Answered.jammed a h) e = absurd (false≢true (ap is_end e))
  in_end_lem d c r (Answered.stopped a cause k h) e =
      let count : k ≡ c = ap count_in e in
      record {
        entering = a;
        run = h ∙ ap (λ (x : Cause). ran (ended x k)) (ap cause_in e) ∙ ap (λ (m : ℕ). ran (ended d m)) count;
        some = omega (arith, run_some code a.asked.accepts i a.given cause k h, count);
        most = omega (arith, counts a (ran (ended cause k)) h, count);
        unchanged = refl;
      }
  in_end_lem d c r (Answered.finished a vs k h) e = absurd (false≢true (ap is_end e))

  nothing_written : (r : Reply) → Cases r → is_values r.answer ≡ false → memory_after r memory ≡ memory
  unfolding memory_after
  nothing_written r (Answered.unsound h) e = refl
  nothing_written r (Answered.absent a h) e = refl
  nothing_written r (Answered.malformed a h) e = refl
  nothing_written r (Answered.short a g h l) e = refl
  nothing_written r (Answered.jammed a h) e = refl
  nothing_written r (Answered.stopped a d k h) e = refl
  nothing_written r (Answered.finished a vs k h) e = absurd (false≢true (sym e))

  pub ran_values : (count size : ℕ) → (run code i list (length memory)).answer ≡ Ok (Values count size)
      → InValues code i list memory count size (memory_after (run code i list (length memory)) memory)
  ran_values c n = in_values_lem c n answered all_cases

  pub ran_end : (cause : Cause) (count : ℕ) → (run code i list (length memory)).answer ≡ Ok (Ended cause count)
      → InEnd code i list memory cause count (memory_after (run code i list (length memory)) memory)
  ran_end d c = in_end_lem d c answered all_cases

  pub ran_refused : (r : Refusal) → (run code i list (length memory)).answer ≡ Err r → memory_after (run code i list (length memory)) memory ≡ memory
  ran_refused r e = nothing_written answered all_cases (ap is_values e)

  pub ran_unchanged : ((count size : ℕ) → (run code i list (length memory)).answer ≡ Ok (Values count size) → ⊥)
      → memory_after (run code i list (length memory)) memory ≡ memory
  ran_unchanged other = nothing_written answered all_cases (not_values answered.answer other)
    where
      not_values : (a : Result Answer Refusal) → ((count size : ℕ) → a ≡ Ok (Values count size) → ⊥) → is_values a ≡ false
      not_values (Ok (Values c n)) h = absurd (h c n refl)
      not_values (Ok (Ended d c)) h = refl
      not_values (Err r) h = refl

  pub ran_size : length (memory_after (run code i list (length memory)) memory) ≡ length memory
  ran_size = by_answer answered.answer refl
    where
      by_answer : (a : Result Answer Refusal) → answered.answer ≡ a → length (memory_after answered memory) ≡ length memory
      by_answer (Ok (Values c n)) e =
          let v = ran_values c n e in
          let bs = results v.finals in
          let whole = ap length v.written ∙ length-append bs (drop n memory) in
          omega (arith, whole, v.whole, v.fits, length-drop n memory)
      by_answer (Ok (Ended d c)) e = ap length (ran_end d c e).unchanged
      by_answer (Err r) e = ap length (ran_refused r e)

  pub ran_length : length_in (run code i list (length memory)).answer ≡ length (run code i list (length memory)).written
  ran_length = go answered all_cases
    where
      go : (r : Reply) → Cases r → length_in r.answer ≡ length r.written
      go r (Answered.unsound h) = refl
      go r (Answered.absent a h) = refl
      go r (Answered.malformed a h) = refl
      go r (Answered.short a g h l) = refl
      go r (Answered.jammed a h) = refl
      go r (Answered.stopped a d k h) = refl
      go r (Answered.finished a vs k h) = refl

  -- a count and a length that are 0, or those of a run
  bounded : (r : Reply) → Cases r → (count_in r.answer ≤ 4096) × (length_in r.answer ≤ 192)
  bounded r (Answered.unsound h) = (omega arith, omega arith)
  bounded r (Answered.absent a h) = (omega arith, omega arith)
  bounded r (Answered.malformed a h) = (omega arith, omega arith)
  bounded r (Answered.short a g h l) = (omega arith, omega arith)
  bounded r (Answered.jammed a h) = (omega arith, omega arith)
  bounded r (Answered.stopped a d k h) = (omega (arith, counts a (ran (ended d k)) h, light code a.asked.accepts i), omega arith)
  bounded r (Answered.finished a vs k h) = (
    omega (arith, counts a (ran (values vs k)) h, light code a.asked.accepts i),
    omega (arith, sizes a vs k h, short code a.asked.accepts i),
  )

  pub ran_count_lem : count_in (run code i list (length memory)).answer ≤ 4096
  ran_count_lem = (bounded answered all_cases).0

  pub ran_short : length_in (run code i list (length memory)).answer ≤ 192
  ran_short = (bounded answered all_cases).1
