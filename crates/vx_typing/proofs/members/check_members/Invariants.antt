use Rattle.std.proofs.Common.{◌≡◌, drop, map}
use Rattle.vx_ast.specs.Written.{written_member}
use Rattle.vx_typing.specs.MemberFaults.{members}
use Rattle.vx_expressions.specs.Views.{table}
use Rattle.vx_typing.proofs.members.check_members.Given as goal

abbrev pub invariant-loop-m : goal.invariant-loop-m
invariant-loop-m l = members (table l.members.entries) (map written_member l.all) ≡ members (table l.members.entries) (map written_member (drop l.m-index l.all))
