-- What the service answers, by the tests that it makes.
--     refused_code, refused-scope, refused-input, refused-room     16, 13, 14, 15
--     ready, block-there, block-small     accepted code has its directory; a scope with a place has a block
--     asks, answers                       a good list and enough room: what the block's run comes to
--     entry, types-short, has_room        what the functions called ask for
--     values_so, ends_so, stuck-so        the answer of a run
--     never_short                         a run never lacks room for its stack
-- Assumes nothing.
use Prim.Native.Nat.{ℕ, ◌-◌, ◌<◌, ◌≤◌}
use mathlib.Core.Path.{◌≡◌, refl, sym, ap, subst, ◌∙◌}
use mathlib.Core.List.{List}
use native.Mathlib.Omega.{arith}
use lib.ListN.{length, take, drop}
use borrow.Author.Tests.{le-leb, lt-leb}
use Rattle.std.specs.Prelude.{Option, Result, Ok, Err, ℕ, None, Some}
use Rattle.answers.specs.Response.{memory_after}
use Rattle.answers.specs.declared.Cause.{Cause}
use Rattle.book.specs.declared.Variable.{Variable}
use Rattle.lists.specs.Inputs.{bad, good, inputs}
use Rattle.lists.specs.Reading.{typed, Filled, Taken}
use Rattle.lists.specs.Results.{result_length, results}
use Rattle.lists.specs.Writing.{values_of, written}
use Rattle.lists.proofs.Types.{typed_count}
use Rattle.evaluation.specs.Run.{values}
use Rattle.evaluation.specs.Types.{Fitting}
use Rattle.answers.specs.declared.Refusal.TheVariants as refusal
use Rattle.answers.specs.declared.Answer.{Answer}
use Rattle.answers.specs.declared.Answer.TheVariants.{Values, Ended}
use Rattle.evaluation.proofs.Types.{inputs_fitting}
use Rattle.answers.proofs.Response.{same_response, nothing_written}
use Rattle.machine.specs.Blocks.{blocks_of, variables_of}
use Rattle.machine.specs.Machine as machine
use Rattle.machine.specs.Run.{run_in}
use Rattle.machine.specs.Service.{reply, on_inputs, asked, run}
use Rattle.directory.specs.Tabled.{block_at, block_count}
use Rattle.verifier.specs.Pass.{Judged}
use Rattle.instructions.specs.Views.{givens_at}
use Rattle.blocks.specs.Entries.{Outcome, run_at, variables_at, Entry, CameTo}
use Rattle.blocks.specs.declared.Halt.TheVariants as coded
use Rattle.blocks.proofs.Scopes.{has_none, is_block, has_one, scope_variables_lem, scope_runs, few_variables, givens_are, values_are, values_length}
use Rattle.directory.specs.Layout.{place_in, variables_in, Declares}
use Rattle.runner.specs.Service.{Runs, Ready, Asked, Replied}
use Rattle.answers.specs.declared.Refusal.{Refusal}
use Rattle.calculus.specs.declared.Value.{Value}

-- Judging

pub refused_code : (code directory : List ℕ) (i : ℕ) (list : List ℕ) {memory : List ℕ} (v : Option ℕ) → v ≡ None → Judged code directory v
    → Runs code i list memory (Err refusal.BadCode) memory
unfolding run
refused_code code directory i list v e j = nothing_written (rw (rw e at j))

pub ready : {code directory : List ℕ} {n : ℕ} (v : Option ℕ) → v ≡ Some n → Judged code directory v → Ready code directory
ready v e j =
    let k = rw e at j in
    record { accepts = k.0; tabled = rw k.1.number at k.1 }

-- Asking

module _ {code directory : List ℕ} (o : Ready code directory) (i : ℕ) where
  is_asked : (list : List ℕ) (room : ℕ) → run code i list room ≡ asked (blocks_of code) i list room
  unfolding run
  is_asked list room = rw o.accepts

  pub refused_scope : (list : List ℕ) {memory : List ℕ} → place_in directory i ≡ 0 → Runs code i list memory (Err refusal.NoSuchScope) memory
  unfolding asked
  refused_scope list {memory} z = nothing_written (is_asked list (length memory) ∙ rw (has_none o.accepts o.tabled i z))

  module _ (p : ℕ) (there : (0 < place_in directory i) × (p ≡ place_in directory i - 1)) where
    placed : 0 < place_in directory i
    placed = there.0

    same : place_in directory i - 1 ≡ p
    same = sym there.1

    pub block_there : p < block_count code
    block_there = rw same at (is_block o.accepts o.tabled i placed)

    pub block_small : p < 32
    block_small = let b = block_there in let f = o.tabled.few in omega arith

    pub variables_few : variables_in directory p ≤ 32
    variables_few =
        let n = (o.tabled.blocks p block_there).declares.number in
        let f = few_variables code o.accepts p in
        omega arith

    abbrev variables : List Variable
    variables = (block_at code p).variables

    the_variables : variables_of (blocks_of code) i ≡ variables
    the_variables = rw same at (scope_variables_lem o.accepts o.tabled i placed)

    the_run : (gs : List (Option Value)) → run_in (blocks_of code) i gs ≡ run_at code p gs
    the_run gs = rw same at (scope_runs o.accepts o.tabled i placed gs)

    is_there : (list : List ℕ) (room : ℕ) → run code i list room ≡ on_inputs (inputs variables list) room (blocks_of code) i
    unfolding asked
    is_there list room = is_asked list room ∙ rw (has_one o.accepts o.tabled i placed, the_variables)

    module _ (types : List ℕ) {n : ℕ} {bytes : List ℕ} (t : types ≡ take n (drop 0 bytes))
        (fill : (vs : List Variable) → Declares directory p vs → Filled vs n bytes) where
      filled : Filled variables n bytes
      filled = fill variables (o.tabled.blocks p block_there).declares

      pub are_typed : typed types ≡ variables
      are_typed = ap typed t ∙ filled.bytes

      pub types_few : length types ≤ 32
      types_few =
          let c = typed_count types in
          let k = ap length are_typed in
          let f = few_variables code o.accepts p in
          omega arith

      pub refused_input : (list : List ℕ) {memory : List ℕ} → inputs (typed types) list ≡ bad → Runs code i list memory (Err refusal.BadInput) memory
      refused_input list {memory} b = nothing_written (is_there list (length memory) ∙ rw (rw are_typed at b))

      module _ {list given : List ℕ} (taken : Taken (typed types) list given) where
        is_good : inputs variables list ≡ good taken.givens
        is_good = ap (λ (vs : List Variable). inputs vs list) (sym are_typed) ∙ taken.list

        pub refused_room : {memory : List ℕ} → length memory < result_length (typed types) → Runs code i list memory (Err refusal.BufferTooSmall) memory
        refused_room {memory} l = nothing_written (is_there list (length memory) ∙ rw (is_good, the_variables, lt-leb (result_length variables) (length memory) (rw are_typed at l)))

        same_givens : givens_at given 0 (variables_at code p) ≡ taken.givens
        unfolding variables_at
        same_givens =
            ap (givens_at given 0) (sym (taken.number ∙ ap length are_typed))
            ∙ givens_are given taken.givens taken.decoded

        pub asks : {memory : List ℕ} → length given ≡ 32 → result_length (typed types) ≤ length memory → Asked code directory p types given memory
        asks {memory} s l =
            record {
              ready = o;
              block = block_there;
              variables = are_typed;
              size = s;
              fitting = subst (Fitting variables) (sym same_givens) (inputs_fitting variables list taken.givens is_good);
              room = rw are_typed at l;
            }

        pub answers : {memory after : List ℕ} {r : Result Answer Refusal} → result_length (typed types) ≤ length memory → Replied code p given memory r after → Runs code i list memory r after
        answers {memory} {after} {r} l q =
            let k : run code i list (length memory) ≡ reply (run_at code p (givens_at given 0 (variables_at code p))) =
            is_there list (length memory) ∙ good_list ∙ ap (λ (gs : List (Option Value)). reply (run_at code p gs)) (sym same_givens) in
            same_response k q
          where
            good_list : on_inputs (inputs variables list) (length memory) (blocks_of code) i ≡ reply (run_at code p taken.givens)
            good_list = rw (is_good, the_variables, le-leb (result_length variables) (length memory) (rw are_typed at l), the_run taken.givens)

-- Running

module _ {code directory : List ℕ} {p : ℕ} {types given memory : List ℕ} (a : Asked code directory p types given memory) where
  pub entry : {own : List ℕ} → length own ≡ 32 → Entry code directory p own
  entry s = record { accepts = a.ready.accepts; tabled = a.ready.tabled; block = a.block; room = s }

  number : length types ≡ variables_at code p
  unfolding variables_at
  number = sym (typed_count types) ∙ ap length a.variables

  pub types_short : length types ≤ 32
  unfolding variables_at
  types_short = let n = number in let f = few_variables code a.ready.accepts p in omega arith

  module _ {r : Outcome} {own : List ℕ} (came : CameTo code p given r own) where
    abbrev gs : List (Option Value)
    gs = givens_at given 0 (variables_at code p)

    replied : {m : machine.Ran} {answer : Result Answer Refusal} {after : List ℕ} → run_at code p gs ≡ m → answer ≡ (reply m).answer → after ≡ memory_after (reply m) memory
        → Replied code p given memory answer after
    replied e x y = same_response (ap reply e) (record { answer = x; memory = y })

    pub ends_so : {c : Cause} {m : ℕ} → r ≡ Err (coded.Ended c m) → Replied code p given memory (Ok (Ended c m)) memory
    unfolding memory_after
    ends_so e = replied (rw e at came.shows) refl refl

    pub stuck_so : r ≡ Err coded.Stuck → Replied code p given memory (Err refusal.Stuck) memory
    unfolding memory_after
    stuck_so e = replied (rw e at came.shows) refl refl

    pub never_short : r ≡ Err coded.NoRoom → ⊥
    never_short e = rw e at came.shows

    module _ {m : ℕ} (e : r ≡ Ok m) where
      shown : run_at code p gs ≡ machine.ran (values (values_of own (length types)) m)
      shown = let k = rw e at came.shows in k ∙ ap (λ vs. machine.ran (values vs m)) (values_are own (variables_at code p) ∙ ap (values_of own) (sym number))

      size_known : length (results (values_of own (length types))) ≡ result_length (typed types)
      size_known = values_length a.ready.accepts a.ready.tabled p a.block gs a.fitting (values_of own (length types)) m shown ∙ ap result_length (sym a.variables)

      pub has_room : length (results (values_of own (length types))) ≤ length memory
      has_room = let k = rw (← a.variables) at a.room in let s = size_known in omega arith

      pub values_so : {size : ℕ} {after : List ℕ} → size ≡ result_length (typed types) → after ≡ written (values_of own (length types)) memory
          → Replied code p given memory (Ok (Values m size)) after
      unfolding memory_after
      values_so s q = replied shown (ap (λ (n : ℕ). Ok (Values m n)) (s ∙ sym size_known)) q
