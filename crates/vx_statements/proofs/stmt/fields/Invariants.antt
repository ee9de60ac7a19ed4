use Rattle.std.proofs.Common.{◌≡◌, [], drop, map}
use Rattle.vx_ast.specs.Written.{name_of}
use Rattle.vx_statements.specs.StatementFaults.{fields}
use Rattle.vx_expressions.specs.Views.{table, listed}
use Rattle.vx_statements.proofs.stmt.fields.Given as goal

abbrev pub invariant-loop-f : goal.invariant-loop-f
invariant-loop-f l = fields (table l.members.entries) [] (map name_of l.fs) ≡ fields (table l.members.entries) (listed l.names.keys) (map name_of (drop l.f-index l.fs))
