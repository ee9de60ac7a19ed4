use Rattle.std.proofs.Common.{◌≡◌, ◌++◌, drop, map}
use Rattle.vx_ast.specs.Written.{Program, written_member}
use Rattle.vx_graph.specs.Reach.{Rows}
use Rattle.vx_typing.specs.Members.{table_of}
use Rattle.vx_typing.specs.Numbered.{Tells}
use Rattle.vx_expressions.specs.Views.{table}
use Rattle.vx_typing.proofs.groups.rows_of.Given as goal

abbrev pub invariant-loop-m : goal.invariant-loop-m
invariant-loop-m l = (p : Program) → table l.members.entries ≡ table_of p → (after : Rows) → Tells p after (map written_member (drop l.m-index l.all)) → Tells p (l.rows.items ++ after) (map written_member l.all)
