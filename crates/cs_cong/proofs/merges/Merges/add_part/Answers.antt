use Rattle.cs_cong.proofs.Explaining.{part_path}
use Rattle.cs_cong.proofs.merges.Merges.add_part.Goals as goal

pub returns : goal.returns
returns c = part_path c.args.self.now.log.items c.args.time c.args.a c.args.b c.args.steps.now.items c.add_path.new.steps.items c.in_ok-add_path.ensures
