use Rattle.std.proofs.Common.{◌∙◌, subst, ◌<◌}
use Rattle.vx_graph.specs.Groups.{roots}
use Rattle.vx_graph.specs.Views.{rows}
use Rattle.vx_typing.proofs.Graphs.{together}
use Rattle.vx_typing.proofs.groups.groups_of.Goals as goal

pub returns : goal.returns
returns c = λ p count same. record {
  count = c.in_ok-groups.ensures.members ∙ count;
  within = λ a r is. subst (λ n. r.0 < n) count (c.in_ok-groups.ensures.own a r is);
  groups = together (rows c.args.edges.now) p same (roots c.in_ok-groups.groups) c.in_ok-groups.ensures.roots;
}
