-- The service: "List every choice of no and yes for at most 12 chosen yes/no variables of a scope, with a fixed input list for the rest." The
-- paper's "sheet" is the table, its "line" a row.
use Rattle.std.specs.Prelude.{ℕ, ◌-◌, Bool, cond, List, ◌∷◌, ◌++◌, length, replicate, ltb, Result}
use Rattle.answers.specs.Response.{on_judged, Responds}
use Rattle.answers.specs.Numbers.{answer_numbers}
use Rattle.answers.specs.Production.{Production, refuse, fitting}
use Rattle.answers.specs.declared.Refusal.TheVariants.{NoSuchScope, BadInput, BadChoice}
use Rattle.book.specs.Decode.{scopes_of}
use Rattle.book.specs.Sharing.{gathered}
use Rattle.book.specs.References.{scope_at}
use Rattle.book.specs.Judge.{judge}
use Rattle.book.specs.declared.Variable.{Variable}
use Rattle.lists.specs.Inputs.{Inputs, bad, good, inputs}
use Rattle.lists.specs.Results.{result_length}
use Rattle.evaluation.specs.Evaluate.{Reply, evaluate}
use Rattle.tabulation.specs.Chosen.{bad_choice, in_order}
use Rattle.tabulation.specs.Assignments.{assignments, assigned}
use Rattle.answers.specs.declared.Refusal.{Refusal}

-- bytes, and zeros after them up to a length
abbrev pub padded : ℕ → List ℕ → List ℕ
padded size bytes = bytes ++ replicate (size - length bytes) 0

-- "Each line holds one byte of outcome (0 values, 1 empty, 2 conflict, 3 out of range) and the results, or as many zero bytes where there are no
-- values"; for its 3, since No. 3: "On the sheet, byte 3 is above and 4 below". The row of what evaluating replies, its results being of this length;
-- a refused reply, which has no outcome, would read as 0
unfoldable pub row_of : ℕ → Reply → List ℕ
row_of size reply = (answer_numbers reply.answer).outcome ∷ padded size reply.written

-- the row of an assignment, "with evaluation's answer": evaluating with the fixed input list and the records of the assignment; of a table that is
-- written no such evaluation is refused (row_answers)
unfoldable pub row : List ℕ → ℕ → List ℕ → List ℕ → List Bool → List ℕ
row bytes i chosen fixed a =
    let variables = (scope_at (scopes_of bytes) i).variables in
    let size = result_length variables in
    row_of size (evaluate bytes i (fixed ++ assigned (in_order chosen variables) a) size)

-- the rows of all assignments, one after the other
unfoldable pub table : List ℕ → ℕ → List ℕ → List ℕ → List ℕ
table bytes i chosen fixed =
    let variables = (scope_at (scopes_of bytes) i).variables in
    gathered (row bytes i chosen fixed) (assignments (length (in_order chosen variables)))

-- 14 where the fixed input list is bad; "Turned away: 18, .. after 14, before 15"
abbrev pub on_inputs : Inputs → List Variable → List ℕ → Production → Production
on_inputs bad variables chosen p = refuse BadInput
on_inputs (good given) variables chosen p = cond (bad_choice variables given chosen) (refuse BadChoice) p

-- 13: "scope asked for is absent"; 15: the whole table against the memory lent
unfoldable pub asked : List ℕ → ℕ → List ℕ → List ℕ → ℕ → Production
asked bytes i chosen fixed room =
    let book = scopes_of bytes in
    let variables = (scope_at book i).variables in
    cond (ltb i (length book)) (on_inputs (inputs variables fixed) variables chosen (fitting (table bytes i chosen fixed) room)) (refuse NoSuchScope)

-- tabulating scope i of a book for the chosen variables with a fixed input list, for a memory of this length
unfoldable pub tabulate : List ℕ → ℕ → List ℕ → List ℕ → ℕ → Production
tabulate bytes i chosen fixed room = on_judged refuse (judge bytes) (asked bytes i chosen fixed room)

-- the answer and the memory are those of tabulating
abbrev pub Tabulates : List ℕ → ℕ → List ℕ → List ℕ → List ℕ → Result ℕ Refusal → List ℕ → Type 0
Tabulates bytes i chosen fixed before = Responds (tabulate bytes i chosen fixed (length before)) before
