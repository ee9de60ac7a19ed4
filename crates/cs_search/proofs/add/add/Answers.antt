use Rattle.cs_search.proofs.Widens.{added_search, room_over}
use Rattle.cs_search.proofs.Queues.{queued_pushed}
use Rattle.cs_search.proofs.Rewinds.{queued_widened}
use Rattle.cs_search.proofs.add.add.Goals as goal

pub returns-clause-sound : goal.returns-clause-sound
returns-clause-sound c =
    let b = c.back_to_base.new.search in
    let v = c.widen.new.values.items in
    let ok = c.in_ok-widen.ensures in
    let clauses = c.in_ok-push.ensures.items in
    record {
      sound = added_search b.clauses.items _ b.made.values.items v b.made.trail.items c.args.clause c.back_to_base.ensures.sound.sound c.back_to_base.ensures.forced ok.same (room_over v _ c.args.clause.literals.items c.deref.ensures.value ok.room) clauses;
      queued = queued_pushed b.clauses.items _ c.args.clause v b.made.trail.items b.queue clauses (queued_widened b.clauses.items b.made.values.items v b.made.trail.items b.queue ok.same c.back_to_base.ensures.sound.queued);
    }
