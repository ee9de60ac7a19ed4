use Rattle.std.proofs.Common.{◌∙◌, refl}
use Rattle.vx_graph.proofs.Those.{taken, skipped}
use Rattle.vx_graph.proofs.search.look.Goals as goal

pub returns-in_ok-push : goal.returns-in_ok-push
returns-in_ok-push c passes e t = taken passes c.args.member.0 c.args.ms.now.items c.push.new.self.items c.args.member (e ∙ c.if-kept.true) refl c.in_ok-push.ensures.items t

pub returns-else-kept : goal.returns-else-kept
returns-else-kept c passes e t = skipped passes c.args.member.0 c.args.ms.now.items (e ∙ c.if-kept.false) t
