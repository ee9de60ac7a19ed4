use Rattle.std.proofs.Common.{◌≡◌, drop, map}
use Rattle.vx_ast.specs.Written.{written_clause, measure_of}
use Rattle.vx_typing.proofs.groups.measure_of.Given as goal

abbrev pub invariant-loop-c : goal.invariant-loop-c
invariant-loop-c l = measure_of (map written_clause l.cs) ≡ measure_of (map written_clause (drop l.c-index l.cs))
