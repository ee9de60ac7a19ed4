use Rattle.std.proofs.Common.{◌≡◌}
use Rattle.vx_statements.specs.StatementFaults.{targets_fit}
use Rattle.vx_expressions.specs.Views.{types_of}
use Rattle.vx_statements.proofs.stmt.targets_fit.Given as goal

abbrev pub invariant-loop-t : goal.invariant-loop-t
invariant-loop-t l = targets_fit l.at l.fn.ts (types_of l.fn.returns) ≡ targets_fit l.at l.t-iterator.a.rest.now (types_of l.t-iterator.b.rest.now)
