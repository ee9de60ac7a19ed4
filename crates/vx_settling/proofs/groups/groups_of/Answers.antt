use Rattle.std.proofs.Common.{subst}
use Rattle.vx_graph.specs.Groups.{roots}
use Rattle.vx_graph.specs.Views.{rows}
use Rattle.vx_settling.specs.Tables.{listed}
use Rattle.vx_settling.proofs.Ways.{grouped}
use Rattle.vx_resolved.specs.Numbers.{AreGroups}
use Rattle.vx_settling.proofs.groups.groups_of.Goals as goal

pub returns : goal.returns
returns c =
    subst (AreGroups (roots c.in_ok-groups.groups)) c.in_ok-table.ensures
    (grouped (listed c.in_ok-table.table) (rows c.in_ok-edges.edges) c.in_ok-edges.ensures (roots c.in_ok-groups.groups) c.in_ok-groups.ensures.members c.in_ok-groups.ensures.roots)
