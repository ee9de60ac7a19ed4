use Rattle.std.proofs.Common.{refl, ◌∙◌}
use Rattle.cs_search.specs.Search.{learns_none}
use Rattle.cs_search.proofs.Learns.{learns_twice}
use Rattle.cs_ground.proofs.solving.solved.Goals as goal

pub loop-turn-init : goal.loop-turn-init
loop-turn-init c = record { sound = c.requires.sound; learns = learns_none; width = refl }

pub loop-turn-preserved : goal.loop-turn-preserved
loop-turn-preserved c =
    let was = c.loop-turn.invariant in
    let now = c.in_ok-solved.ensures in
    record {
      sound = now.sound;
      learns = learns_twice _ _ _ _ _ _ was.learns now.learns;
      width = now.width ∙ was.width;
    }

pub returns-in-Some-clause-learns : goal.returns-in-Some-clause-learns
returns-in-Some-clause-learns c = learns_twice _ _ _ _ _ _ c.loop-turn.invariant.learns c.in_ok-solved.ensures.learns
