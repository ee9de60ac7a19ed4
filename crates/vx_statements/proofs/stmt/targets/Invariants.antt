use Rattle.std.proofs.Common.{◌≡◌, [], drop, map}
use Rattle.vx_ast.specs.Written.{name_of}
use Rattle.vx_statements.specs.StatementFaults.{targets}
use Rattle.vx_expressions.specs.Views.{known, listed}
use Rattle.vx_expressions.proofs.Rows.{onto}
use Rattle.vx_statements.proofs.stmt.targets.Given as goal

abbrev pub invariant-loop-x : goal.invariant-loop-x
invariant-loop-x l = targets (known l.variables.entries) [] (map name_of l.xs) ≡ onto l.types.items (targets (known l.variables.entries) (listed l.names.keys) (map name_of (drop l.x-index l.xs)))
