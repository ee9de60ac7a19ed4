use Rattle.cs_search.proofs.Queues.{elsewhere_over, elsewhere_held}
use Rattle.cs_search.proofs.propagate.visit.Goals as goal

pub returns-in-None-clause-seen : goal.returns-in-None-clause-seen
returns-in-None-clause-seen c =
    let m = c.args.made.now in
    let q = c.args.queue.now in
    let free = elsewhere_over q.watches.items _ c.args.number c.args.away c.deref.ensures.value c.in-None.ensures in
    (elsewhere_held c.args.clauses.now m.values.items m.trail.items q c.args.number c.args.away c.requires.sound c.requires.falsified c.requires.queued free, free)
