use Rattle.std.proofs.Common.{◌≡◌, drop}
use Rattle.vx_statements.specs.StatementFaults.{block}
use Rattle.vx_expressions.specs.Views.{table, known}
use Rattle.vx_statements.specs.Blocks.{Extends}
use Rattle.vx_ast.specs.Written.{written_list}
use Rattle.vx_statements.proofs.stmt.+blocks.Given as goal

abbrev pub invariant-statements-loop-s : goal.invariant-statements-loop-s
invariant-statements-loop-s l = record {
  walk : block (table l.members.entries) (known l.initial.variables.entries) (written_list l.all) ≡ block (table l.members.entries) (known l.variables.entries) (written_list (drop l.s-index l.all));
  kept : Extends (known l.initial.variables.entries) (known l.variables.entries);
}
