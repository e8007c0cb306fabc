-- What the service answers, by the tests that it makes.
--     refused_book, refused_scope, refused_input, refused_choice      1 to 12, 13, 14, 18
--     ordered_so, tabulated              good chosen variables: what writing the table asks for, and that it is the answer
--     few_chosen, results_few, fills     what measuring and filling the rows ask for
--     short_so, written_so               the table, or 15
-- Assumes nothing.
use Prim.Native.Nat.{ℕ, suc, ◌*◌, ◌<◌, ◌≤◌}
use mathlib.Core.Path.{◌≡◌, refl, sym, ap, subst, ◌∙◌}
use mathlib.Core.Bool.{Bool, true, false}
use mathlib.Core.List.{List, [], ◌∷◌, ◌++◌, map}
use native.Mathlib.Omega.{arith}
use lib.ListN.{length, get_or, take, drop, set, length-set}
use borrow.Author.Tests.{lt-ltb, le-ltb}
use Rattle.std.specs.Prelude.{Result, ℕ, Ok, Err, Option, None}
use Rattle.answers.specs.Response.{on_judged}
use Rattle.answers.specs.Production.{refuse, fitting}
use Rattle.answers.proofs.Response.{same_response, nothing_written}
use Rattle.answers.proofs.Production.{produces_all, produces_none}
use Rattle.answers.specs.declared.Fault.{Fault}
use Rattle.answers.specs.declared.Refusal.TheVariants.{Book, NoSuchScope, BadInput, BufferTooSmall, BadChoice}
use Rattle.laws.proofs.Booleans.{neither}
use Rattle.calculus.specs.declared.Value.TheVariants.{Truth}
use Rattle.cells.specs.Codec.{value_cell}
use Rattle.cells.specs.Cells.{given_of}
use Rattle.book.specs.Lists.{any}
use Rattle.book.specs.Syntax.{Scope}
use Rattle.book.specs.Decode.{scopes_of}
use Rattle.book.specs.References.{scope_at}
use Rattle.book.specs.Judge.{judge}
use Rattle.book.specs.declared.Variable.{Variable}
use Rattle.acceptance.proofs.Acceptance.{accepted_count}
use Rattle.book.specs.declared.ValueType.TheVariants.{YesNo}
use Rattle.lists.specs.Inputs.{bad, cannot_give, inputs}
use Rattle.lists.specs.Reading.{Taken}
use Rattle.lists.specs.Writing.{result_length_at}
use Rattle.lists.proofs.Reading.{held_at, can_give}
use Rattle.lists.proofs.Lengths.{length_most}
use Rattle.evaluation.specs.Evaluate.{reply_of}
use Rattle.evaluation.specs.Run.{run_scope}
use Rattle.scopes.specs.Steps.{World, givens_from, entered_at}
use Rattle.scopes.specs.Known.{Known}
use Rattle.loaded.proofs.Taken.{taken_givens, taken_fitting}
use Rattle.tabulation.specs.Chosen.{unfit, bad_choice, in_order}
use Rattle.tabulation.specs.Assignments.{power}
use Rattle.tabulation.specs.Giving.{giving}
use Rattle.tabulation.specs.Tabulate.{row_of, row, table, asked, tabulate, Tabulates}
use Rattle.tabulation.specs.Answers.{Tabulable}
use Rattle.tabulation.proofs.Chosen.{order_repeated, order_fit, chosen_count, chosen_few}
use Rattle.tabulation.proofs.Halves.{rows_same}
use Rattle.tabulation.proofs.Rows.{row_run, table_length_lem}
use Rattle.rows.specs.Filling.{assign, cell_row, cell_rows, FillsRows}
use Rattle.rows.proofs.Cells.{givens_set}
use Rattle.tabulator.specs.Service.{TableAsked, WritesTable}
use Rattle.calculus.specs.declared.Value.{Value}
use Rattle.answers.specs.declared.Refusal.{Refusal}

-- chosen variables are judged by what is given alone
unfit_same : (variables : List Variable) (gs hs : List (Option Value)) → ((v : ℕ) → get_or gs v None ≡ get_or hs v None) → (chosen : List ℕ)
    → any (unfit variables gs) chosen ≡ any (unfit variables hs) chosen
unfolding any cannot_give
unfit_same variables gs hs same [] = refl
unfit_same variables gs hs same (v ∷ vs) = rw (same v, unfit_same variables gs hs same vs)

-- an assignment in the cells gives what it gives
assign_giving : (variables : List Variable) (gs : List (Option Value)) (n : ℕ) (vs : List ℕ) (a : List Bool) (cells : List ℕ)
    → any (unfit variables gs) vs ≡ false → length variables ≤ length cells → givens_from (assign cells vs a) 0 n ≡ giving (givens_from cells 0 n) vs a
unfolding any assign giving
assign_giving variables gs n [] a cells ok few = refl
assign_giving variables gs n (v ∷ vs) [] cells ok few = refl
assign_giving variables gs n (v ∷ vs) (b ∷ bs) cells ok few =
    let k = neither (unfit variables gs v) (any (unfit variables gs) vs) ok in
    let there = (can_give variables gs YesNo v k.0).known in
    let next = set cells v (value_cell (Truth b)) in
    assign_giving variables gs n vs bs next k.1 (omega (arith, few, length-set cells v (value_cell (Truth b))))
    ∙ ap (λ (g : List (Option Value)). giving g vs bs) (givens_set cells n v b (omega (arith, there, few)))

pub results_few : (book : List Scope) (i : ℕ) → length (scope_at book i).variables ≤ 32 → result_length_at book i ≤ 192
unfolding result_length_at
results_few book i few = omega (arith, few, length_most (scope_at book i).variables)

-- the length of the table, once that of the results is known
pub sized : (k : ℕ) {size s t : ℕ} → size ≡ power k * suc s → s ≡ t → size ≡ power k * suc t
sized k e f = e ∙ ap (λ (x : ℕ). power k * suc x) f

module _ (bytes : List ℕ) (i : ℕ) (chosen fixed : List ℕ) where
  pub refused_book : {memory : List ℕ} {f : Fault} → judge bytes ≡ Err f → Tabulates bytes i chosen fixed memory (Err (Book f)) memory
  unfolding tabulate
  refused_book {memory} {f} e = nothing_written (ap (λ (j : Result ℕ Fault). on_judged refuse j (asked bytes i chosen fixed (length memory))) e)

  module _ (n : ℕ) (ok : judge bytes ≡ Ok n) where
    is_asked : (room : ℕ) → tabulate bytes i chosen fixed room ≡ asked bytes i chosen fixed room
    unfolding tabulate
    is_asked room = ap (λ (j : Result ℕ Fault). on_judged refuse j (asked bytes i chosen fixed room)) ok

    count : n ≡ length (scopes_of bytes)
    count = accepted_count bytes n ok

    none_asked : (room : ℕ) → n ≤ i → asked bytes i chosen fixed room ≡ refuse NoSuchScope
    unfolding asked
    none_asked room l = rw (le-ltb i (length (scopes_of bytes)) (omega (arith, count)))

    pub refused_scope : {memory : List ℕ} → n ≤ i → Tabulates bytes i chosen fixed memory (Err NoSuchScope) memory
    refused_scope {memory} l = nothing_written (is_asked (length memory) ∙ none_asked (length memory) l)

    module _ (here : i < n) where
      abbrev variables : List Variable
      variables = (scope_at (scopes_of bytes) i).variables

      bad_asked : (room : ℕ) → inputs variables fixed ≡ bad → asked bytes i chosen fixed room ≡ refuse BadInput
      unfolding asked
      bad_asked room e = rw (lt-ltb i (length (scopes_of bytes)) (omega (arith, count)), e)

      pub refused_input : {memory : List ℕ} → inputs variables fixed ≡ bad → Tabulates bytes i chosen fixed memory (Err BadInput) memory
      refused_input {memory} e = nothing_written (is_asked (length memory) ∙ bad_asked (length memory) e)

      module _ {given : List ℕ} (taken : Taken variables fixed given) where
        same_choice : bad_choice variables (map given_of given) chosen ≡ bad_choice variables taken.givens chosen
        unfolding bad_choice
        same_choice = rw (unfit_same variables (map given_of given) taken.givens (λ v. held_at given v ∙ taken.decoded v) chosen)

        chosen_asked : (room : ℕ) → bad_choice variables (map given_of given) chosen ≡ true → asked bytes i chosen fixed room ≡ refuse BadChoice
        unfolding asked
        chosen_asked room e = rw (lt-ltb i (length (scopes_of bytes)) (omega (arith, count)), taken.list, sym same_choice ∙ e)

        pub refused_choice : {memory : List ℕ} → bad_choice variables (map given_of given) chosen ≡ true
            → Tabulates bytes i chosen fixed memory (Err BadChoice) memory
        refused_choice {memory} e = nothing_written (is_asked (length memory) ∙ chosen_asked (length memory) e)

        module _ (good : bad_choice variables (map given_of given) chosen ≡ false) where
          fits : bad_choice variables taken.givens chosen ≡ false
          fits = sym same_choice ∙ good

          tabulable : Tabulable bytes i chosen fixed
          tabulable =
              record { asked = record { scopes = n; accepted = ok; present = here }; given = taken.givens; read = taken.list; fit = fits }

          fitting_asked : (room : ℕ) → asked bytes i chosen fixed room ≡ fitting (table bytes i chosen fixed) room
          unfolding asked
          fitting_asked room = rw (lt-ltb i (length (scopes_of bytes)) (omega (arith, count)), taken.list, fits)

          fits_cells : bad_choice variables (givens_from given 0 (length variables)) chosen ≡ false
          fits_cells = ap (λ (gs : List (Option Value)). bad_choice variables gs chosen) (taken_givens taken) ∙ fits

          module _ (room : length given ≡ 32) (few : length variables ≤ 32) where
            -- a row by its cells
            same_row : (a : List Bool) → length a ≡ length (in_order chosen variables)
                → cell_row bytes i (assign given (in_order chosen variables) a) ≡ row bytes i chosen fixed a
            unfolding cell_row entered_at result_length_at
            same_row a e =
                ap (λ (gs : List (Option Value)). row_of (result_length_at (scopes_of bytes) i) (reply_of (run_scope (scopes_of bytes) i gs)))
                (assign_giving variables (givens_from given 0 (length variables)) (length variables) (in_order chosen variables) a given
                (order_fit variables (givens_from given 0 (length variables)) chosen fits_cells) (omega (arith, room, few))
                ∙ ap (λ (gs : List (Option Value)). giving gs (in_order chosen variables) a) (taken_givens taken))
                ∙ sym (row_run bytes n i ok here chosen fixed taken.givens taken.list fits a e)

            same_table : cell_rows bytes i (in_order chosen variables) given ≡ table bytes i chosen fixed
            unfolding cell_rows table
            same_table =
                rows_same (λ a. cell_row bytes i (assign given (in_order chosen variables) a)) (row bytes i chosen fixed) (length (in_order chosen variables)) same_row

            cells_long : length (cell_rows bytes i (in_order chosen variables) given) ≡ power (length chosen) * suc (result_length_at (scopes_of bytes) i)
            unfolding result_length_at
            cells_long = ap length same_table ∙ table_length_lem bytes i chosen fixed tabulable

            pub ordered_so : {index links orders ordered : List ℕ} → World bytes index links orders → take (length chosen) ordered ≡ in_order chosen variables
                → TableAsked bytes index links orders i chosen ordered given
            ordered_so world order =
                record {
                  enterable = record {
                    world = world;
                    scope = omega (arith, here, count);
                    given_room = room;
                    given_kept = taken.kept;
                    fitting = taken_fitting taken;
                  };
                  good = fits_cells;
                  order = order;
                  long = cells_long;
                }

            pub tabulated : {memory after : List ℕ} {r : Result ℕ Refusal} → WritesTable bytes i chosen given memory r after
                → Tabulates bytes i chosen fixed memory r after
            tabulated {memory} =
                same_response
                (is_asked (length memory) ∙ fitting_asked (length memory) ∙ ap (λ (t : List ℕ). fitting t (length memory)) (sym same_table))

-- Writing the table

module _ {bytes index links orders : List ℕ} {i : ℕ} {chosen ordered given : List ℕ} (o : TableAsked bytes index links orders i chosen ordered given) where
  abbrev own : List Variable
  own = (scope_at (scopes_of bytes) i).variables

  pub few_chosen : length chosen ≤ 12
  few_chosen = chosen_few own (givens_from given 0 (length own)) chosen o.good

  pub fills : {order memo part : List ℕ} → Known bytes memo → order ≡ take (length chosen) (drop 0 ordered)
      → length part ≡ power (length chosen) * suc (result_length_at (scopes_of bytes) i) → FillsRows bytes index links orders i order given memo part
  fills {order} {memo} {part} known same size =
      subst (λ (vs : List ℕ). FillsRows bytes index links orders i vs given memo part) (sym (same ∙ o.order))
      (record {
        enterable = o.enterable;
        known = known;
        distinct = order_repeated chosen own;
        fit = order_fit own (givens_from given 0 (length own)) chosen o.good;
        size = size ∙ ap (λ (k : ℕ). power k * suc (result_length_at (scopes_of bytes) i)) (sym (chosen_count own (givens_from given 0 (length own)) chosen o.good));
      })

  pub short_so : {memory : List ℕ} {size : ℕ} → size ≡ power (length chosen) * suc (result_length_at (scopes_of bytes) i) → length memory < size
      → WritesTable bytes i chosen given memory (Err BufferTooSmall) memory
  short_so {memory} whole l = produces_none (cell_rows bytes i (in_order chosen own) given) refl (omega (arith, whole, l, o.long))

  pub written_so : {memory part order : List ℕ} {size : ℕ} → order ≡ take (length chosen) (drop 0 ordered) → part ≡ cell_rows bytes i order given
      → size ≡ power (length chosen) * suc (result_length_at (scopes_of bytes) i) → size ≤ length memory
      → WritesTable bytes i chosen given memory (Ok size) (part ++ drop size memory)
  written_so {memory} {part} {order} {size} same filled whole enough =
      let is : part ≡ cell_rows bytes i (in_order chosen own) given = filled ∙ ap (λ (vs : List ℕ). cell_rows bytes i vs given) (same ∙ o.order) in
      let size_is : size ≡ length (cell_rows bytes i (in_order chosen own) given) = whole ∙ sym o.long in
      rw (is, size_is) (produces_all (cell_rows bytes i (in_order chosen own) given) refl (omega (arith, enough, size_is)))
