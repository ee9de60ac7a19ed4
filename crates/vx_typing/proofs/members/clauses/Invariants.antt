use Rattle.std.proofs.Common.{◌≡◌, drop, map}
use Rattle.vx_ast.specs.Written.{written_clause}
use Rattle.vx_typing.specs.MemberFaults.{clauses}
use Rattle.vx_expressions.specs.Views.{table, known}
use Rattle.vx_typing.proofs.members.clauses.Given as goal

abbrev pub invariant-loop-c : goal.invariant-loop-c
invariant-loop-c l = clauses (table l.members.entries) (known l.variables.entries) l.of (map written_clause l.cs) ≡ clauses (table l.members.entries) (known l.variables.entries) l.of (map written_clause (drop l.c-index l.cs))
