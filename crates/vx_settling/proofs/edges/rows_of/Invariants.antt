use Rattle.std.proofs.Common.{◌++◌, drop, map}
use Rattle.vx_graph.specs.Reach.{Rows}
use Rattle.vx_settling.specs.Mentioned.{Tells}
use Rattle.vx_settling.specs.Tables.{listed}
use Rattle.vx_resolved.specs.Resolved.{member}
use Rattle.vx_settling.proofs.edges.rows_of.Given as goal

abbrev pub invariant-loop-m : goal.invariant-loop-m
invariant-loop-m l = (after : Rows) → Tells (listed l.table) after (map member (drop l.m-index l.table.program.now.members.items)) → Tells (listed l.table) (l.rows.items ++ after) (listed l.table)
