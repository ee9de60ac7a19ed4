use Rattle.std.proofs.Common.{arith}
use Rattle.std.proofs.lemmas.Grind.{common_steps}
use Rattle.cs_session.specs.Views.{all_of}
use Rattle.cs_session.proofs.Spread.{depth_is}
use Rattle.cs_session.proofs.levels.Levels.depth.Goals as goal

pub returns-clause-value : goal.returns-clause-value
returns-clause-value c =
    let s = c.args.self.now in
    grind (arith, common_steps, depth_is s.counts.items (all_of s))
