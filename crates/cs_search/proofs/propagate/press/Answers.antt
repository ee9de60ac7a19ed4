use Rattle.std.proofs.Common.{length}
use Rattle.cs_search.proofs.Queues.{held_true}
use Rattle.cs_search.proofs.propagate.press.Goals as goal

pub returns-then-held-clause-seen : goal.returns-then-held-clause-seen
returns-then-held-clause-seen c =
    let m = c.args.made.now in
    held_true c.args.clauses.now m.values.items c.force.new.made.values.items m.trail.items c.args.queue.now c.args.number (length c.force.new.made.trail.items) c.args.away c.args.stays c.requires.queued c.requires.beside (c.in_ok-held.ensures.truth c.if-held.true)

pub returns-clause-seen : goal.returns-clause-seen
returns-clause-seen c = c.in_ok-held.ensures.conflict c.if-held.false
