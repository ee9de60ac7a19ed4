use Rattle.std.proofs.Common.{length}
use Rattle.cs_search.proofs.Rounds.{extended_search, extended_over, none_closed}
use Rattle.cs_search.proofs.Rewinds.{queued_over}
use Rattle.cs_search.proofs.search.spread.Goals as goal

pub returns-clause-closed : goal.returns-clause-closed
returns-clause-closed c = none_closed c.args.search.now.clauses.items _ c.propagate.new.made.values.items (length c.propagate.new.made.trail.items) c.in_ok-found.found c.deref.ensures.value c.in_ok-found.ensures.closed

pub returns-clause-sound : goal.returns-clause-sound
returns-clause-sound c =
    let s = c.args.search.now in
    let n = c.propagate.new.made in
    record {
      sound = extended_search s.clauses.items s.made.values.items n.values.items s.made.trail.items n.trail.items c.requires.sound.sound (extended_over s.clauses.items _ _ _ _ _ c.deref.ensures.value c.in_ok-found.ensures.extended);
      queued = queued_over s.clauses.items _ n.values.items n.trail.items c.propagate.new.queue c.deref.ensures.value c.in_ok-found.ensures.queued;
    }
