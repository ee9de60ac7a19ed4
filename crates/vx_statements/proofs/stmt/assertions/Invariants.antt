use Rattle.std.proofs.Common.{◌≡◌, drop}
use Rattle.vx_ast.specs.Written.{written_all}
use Rattle.vx_statements.specs.StatementFaults.{assertions}
use Rattle.vx_expressions.specs.Views.{setting}
use Rattle.vx_statements.proofs.stmt.assertions.Given as goal

abbrev pub invariant-loop-e : goal.invariant-loop-e
invariant-loop-e l = assertions (setting l.s) (written_all l.es) ≡ assertions (setting l.s) (written_all (drop l.e-index l.es))
