use Rattle.std.proofs.Common.{◌∙◌, ◌++◌, List, ap}
use Rattle.cs_cong.specs.declared.paths.Edge.{Edge}
use Rattle.cs_cong.specs.Walks.{walk}
use Rattle.cs_cong.proofs.Explaining.{walk_within}
use Rattle.cs_cong.proofs.merges.Merges.terms_between.Goals as goal

pub terms_of-requires : goal.terms_of-requires
terms_of-requires c =
    walk_within c.args.self.now.log.items c.args.time c.args.a c.args.b c.requires.time c.requires.joined c.deref.result.now
    (c.deref.ensures.value ∙ c.in_ok-walk.ensures c.requires.joined ∙ ap (λ (es : List Edge). es ++ walk c.args.self.now.log.items c.args.time c.args.a c.args.b) c.new-edges.ensures.items)
