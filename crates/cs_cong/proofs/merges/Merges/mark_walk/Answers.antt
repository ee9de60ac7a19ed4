use Rattle.std.proofs.Common.{◌∙◌, ◌++◌, List, ap}
use Rattle.cs_cong.specs.declared.paths.Edge.{Edge}
use Rattle.cs_cong.specs.Walks.{walk}
use Rattle.cs_cong.proofs.Explaining.{walk_marked}
use Rattle.cs_cong.proofs.merges.Merges.mark_walk.Goals as goal

pub returns-clause-marked : goal.returns-clause-marked
returns-clause-marked c same =
    walk_marked c.args.self.now.log.items c.args.time c.args.a c.args.b same c.mark.new.needs.all c.deref.result.now
    (c.deref.ensures.value ∙ c.in_ok-walk.ensures same ∙ ap (λ (es : List Edge). es ++ walk c.args.self.now.log.items c.args.time c.args.a c.args.b) c.new-edges.ensures.items)
    c.in_ok-mark.ensures.marked
