use Rattle.std.proofs.Common.{◌≡◌, drop, map}
use Rattle.vx_ast.specs.Written.{written_declaration}
use Rattle.vx_typing.specs.MemberFaults.{leave_result}
use Rattle.vx_typing.proofs.parameters.leave_result.Given as goal

abbrev pub invariant-loop-declared : goal.invariant-loop-declared
invariant-loop-declared l = leave_result (map written_declaration l.all) ≡ leave_result (map written_declaration (drop l.declared-index l.all))
