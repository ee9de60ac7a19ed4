use Rattle.std.proofs.Common.{length, refl, ◌∙◌}
use Rattle.cs_search.specs.declared.search.Turn.TheVariants.{On}
use Rattle.cs_search.specs.Search.{learns_none}
use Rattle.cs_search.proofs.Learns.{learns_twice}
use Rattle.cs_search.proofs.Rounds.{measure_on, round_at}
use Rattle.cs_ground.proofs.solving.rounds.Goals as goal

pub loop-e-init : goal.loop-e-init
loop-e-init c = record { sound = c.requires.sound; learns = learns_none; width = refl }

pub loop-e-preserved : goal.loop-e-preserved
loop-e-preserved c =
    let was = c.loop-e.invariant in
    let now = c.in-Ok.ensures in
    record {
      sound = now.sound;
      learns = learns_twice _ _ _ _ _ _ was.learns now.learns;
      width = now.width ∙ was.width;
    }

pub loop-e-smaller : goal.loop-e-smaller
loop-e-smaller c =
    let was = c.loop-e.invariant in
    let now = c.in-Ok.ensures in
    measure_on c.loop-e.search.made.values.items c.round.new.search.made.values.items (length c.loop-e.search.made.values.items) c.loop-e.meter c.round.new.meter
    (round_at c.round.new.search.clauses.items c.loop-e.search.made.values.items c.round.new.search.made.values.items c.loop-e.meter c.round.new.meter c.in-Ok.turn On c.in-On.is now.round) now.width refl

pub returns-in-Ended-clause-learns : goal.returns-in-Ended-clause-learns
returns-in-Ended-clause-learns c = learns_twice _ _ _ _ _ _ c.loop-e.invariant.learns c.in-Ok.ensures.learns

pub returns-in-Spent-clause-learns : goal.returns-in-Spent-clause-learns
returns-in-Spent-clause-learns c = learns_twice _ _ _ _ _ _ c.loop-e.invariant.learns c.in-Ok.ensures.learns
