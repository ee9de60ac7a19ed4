use Rattle.std.proofs.Common.{◌∙◌, ap, rules}
use Rattle.vx_graph.specs.Groups.{root_at}
use Rattle.vx_graph.proofs.Marks.{no_roots}
use Rattle.vx_graph.proofs.groups.Grouping.new.Goals as goal

pub returns-clause-roots : goal.returns-clause-roots
returns-clause-roots c n = ap (λ rs. root_at rs n) (c.in_ok-vec.ensures.items_if_clones_equal (λ y e. search rules)) ∙ no_roots c.args.members n
