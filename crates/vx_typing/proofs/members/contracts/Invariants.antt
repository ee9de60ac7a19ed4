use Rattle.std.proofs.Common.{◌≡◌, drop, map}
use Rattle.vx_ast.specs.Written.{written_clause}
use Rattle.vx_typing.specs.MemberFaults.{contracts}
use Rattle.vx_expressions.specs.Views.{table, known}
use Rattle.vx_typing.proofs.members.contracts.Given as goal

abbrev pub invariant-loop-c : goal.invariant-loop-c
invariant-loop-c l = contracts (table l.members.entries) (known l.before.entries) (known l.after.entries) (map written_clause l.cs) ≡ contracts (table l.members.entries) (known l.before.entries) (known l.after.entries) (map written_clause (drop l.c-index l.cs))
