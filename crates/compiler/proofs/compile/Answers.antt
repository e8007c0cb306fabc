-- `compiler::compile` meets its contract.
use Rattle.scan.proofs.Beginnings.{few_rows, all_rows}
use Rattle.compiler.proofs.compile.Goals as goal

pub compile_in-requires : goal.compile_in-requires
compile_in-requires c = few_rows _ (c.has_few_scopes.ensures c.if-has_few_scopes.true)

pub compile_in-requires-2 : goal.compile_in-requires-2
compile_in-requires-2 c = all_rows _
