use Rattle.std.proofs.Common.{◌≡◌, drop}
use Rattle.vx_ast.specs.Written.{written_all}
use Rattle.vx_expressions.specs.Faults.{check_all}
use Rattle.vx_expressions.specs.Views.{setting}
use Rattle.vx_expressions.proofs.Rows.{onto}
use Rattle.vx_expressions.proofs.expr.+typing.Given as goal

abbrev pub invariant-check_all-loop-e : goal.invariant-check_all-loop-e
invariant-check_all-loop-e l = check_all (setting l.s) (written_all l.es) ≡ onto l.types.items (check_all (setting l.s) (written_all (drop l.e-index l.es)))
