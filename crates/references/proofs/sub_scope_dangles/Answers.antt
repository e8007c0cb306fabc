-- `references::sub_scope_dangles` meets its contract.
use mathlib.Core.Path.{refl, ◌∙◌}
use native.Mathlib.Omega.{arith}
use borrow.Author.Tests.{tests}
use Rattle.std.proofs.Common.{rules}
use Rattle.std.proofs.lemmas.Iterator.{YieldsList-from_range}
use Rattle.std.proofs.lemmas.Iterator.Search.{any_from_yields_List}
use Rattle.book.specs.Decode.{scopes_of}
use Rattle.book.specs.Positions.{sub_scope_at}
use Rattle.book.specs.References.{scope_at}
use Rattle.references.specs.Dangling.{wrong_sub_scope, sub_scope_dangles}
use Rattle.references.proofs.Ranges.{any_numbered}
use Rattle.references.proofs.sub_scope_dangles.Goals as goal

pub returns : goal.returns
unfolding sub_scope_dangles sub_scope_at
returns c =
    let book = scopes_of c.args.book.now.bytes.now in
    let by_call =
    any_from_yields_List (λ k. wrong_sub_scope book (sub_scope_at book c.args.i k)) _ _ c.any.result c.any.ensures.ran
    (YieldsList-from_range 0 _ c.sub_scope_count.result refl (omega arith))
    (λ x r q k. search (rules, tests)) in
    by_call ∙ rw c.sub_scope_count.ensures (any_numbered (wrong_sub_scope book) 0 _ (scope_at book c.args.i).sub_scopes (λ k l. refl))
