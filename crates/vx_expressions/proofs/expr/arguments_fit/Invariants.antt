use Rattle.std.proofs.Common.{◌≡◌, drop}
use Rattle.vx_ast.specs.Written.{written_all}
use Rattle.vx_expressions.specs.Faults.{arguments_fit}
use Rattle.vx_expressions.specs.Views.{types_of}
use Rattle.vx_expressions.proofs.expr.arguments_fit.Given as goal

abbrev pub invariant-loop-i : goal.invariant-loop-i
invariant-loop-i l = arguments_fit (written_all l.es) l.found (types_of l.expected) ≡ arguments_fit (written_all (drop l.i l.es)) (drop l.i l.found) (drop l.i (types_of l.expected))
