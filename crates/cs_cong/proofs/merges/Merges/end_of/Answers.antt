use Rattle.std.proofs.Common.{ap}
use Rattle.cs_cong.specs.declared.merges.Link.{Link}
use Rattle.cs_cong.proofs.Trees.{at_link}
use Rattle.cs_cong.proofs.merges.Merges.end_of.Goals as goal

pub returns : goal.returns
returns c = ap (λ (x : Link). x.time) (at_link c.args.self.now.links.items c.args.at c.index.result.now c.requires c.index.ensures)
