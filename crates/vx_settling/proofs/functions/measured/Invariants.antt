use Rattle.std.proofs.Common.{◌≡◌, drop, map}
use Rattle.vx_ast.specs.Written.{measure_of, written_clause}
use Rattle.vx_settling.proofs.functions.measured.Given as goal

abbrev pub invariant-loop-clause : goal.invariant-loop-clause
invariant-loop-clause l = measure_of (map written_clause (drop l.clause-index l.all)) ≡ measure_of (map written_clause l.all)
