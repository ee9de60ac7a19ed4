use Rattle.std.proofs.Common.{◌≤◌, vec_len, ◌∙◌, arith}
use Rattle.cs_search.proofs.Trails.{popped_within, popped_sound, popped_take, popped_room}
use Rattle.cs_search.proofs.assignment.take_back.Goals as goal

pub index_mut-requires : goal.index_mut-requires
index_mut-requires c = omega (arith, c.loop-made.made.values.ok.0, popped_within _ _ _ _ c.in-Some.entry c.in-Some.ensures.items c.loop-made.invariant.sound)

pub loop-made-preserved-in-Some : goal.loop-made-preserved-in-Some
loop-made-preserved-in-Some c =
    let room : c.args.cut ≤ vec_len c.pop.new.self = popped_room c.args.cut _ _ _ _ c.in-Some.entry c.in-Some.ensures.items c.loop-made.made.trail.ok.0 c.pop.new.self.ok.0 (omega arith) in
    record {
      room = room;
      trail = popped_take _ _ _ c.in-Some.entry c.in-Some.ensures.items (omega (arith, room, c.pop.new.self.ok.0)) ∙ c.loop-made.invariant.trail;
      values = c.loop-made.invariant.values;
      sound = popped_sound _ _ _ _ c.in-Some.entry c.in-Some.ensures.items c.loop-made.invariant.sound;
    }
