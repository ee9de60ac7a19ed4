use Rattle.std.proofs.Common.{◌∙◌, ap}
use Rattle.vx_graph.specs.Listed.{is_in}
use Rattle.vx_graph.proofs.Lists.{push_is_in}
use Rattle.vx_closure.proofs.mentions.add_member.Goals as goal

pub returns : goal.returns
returns c = λ m. ap (λ ms. is_in ms m) c.in_ok-push.ensures.items ∙ push_is_in c.args.row.now.items c.args.by m
