use Rattle.std.proofs.Common.{◌≡◌, drop, map}
use Rattle.vx_ast.specs.Written.{written_declaration}
use Rattle.vx_typing.specs.MemberFaults.{declarations}
use Rattle.vx_statements.specs.Roles.{with_variables}
use Rattle.vx_expressions.specs.Views.{known}
use Rattle.vx_typing.proofs.parameters.declare_all.Given as goal

abbrev pub invariant-loop-declared : goal.invariant-loop-declared
invariant-loop-declared l = record {
  walk : declarations l.role (known l.initial.variables.entries) (map written_declaration l.all) ≡ declarations l.role (known l.variables.entries) (map written_declaration (drop l.declared-index l.all));
  known : with_variables l.role (map written_declaration l.all) (known l.initial.variables.entries) ≡ with_variables l.role (map written_declaration (drop l.declared-index l.all)) (known l.variables.entries);
}
