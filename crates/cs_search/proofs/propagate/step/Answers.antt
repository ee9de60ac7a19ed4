use Rattle.std.proofs.Common.{◌<◌, ◌+◌, refl, length, arith}
use Rattle.std.proofs.lemmas.Option.{slice_get_read}
use Rattle.cs_search.proofs.Guards.{kept_length}
use Rattle.cs_search.proofs.Queues.{walked_false, queued_advanced, none_at}
use Rattle.cs_search.proofs.propagate.step.Goals as goal

pub visit_row-requires-clause-falsified : goal.visit_row-requires-clause-falsified
visit_row-requires-clause-falsified c =
    let m = c.args.made.now in
    let h = c.args.queue.now.head in
    let e = c.index.result.now in
    walked_false c.args.clauses.now m.values.items m.trail.items h e c.negate-away.result c.requires.sound (slice_get_read m.trail.items _ h e refl c.requires.within c.index.ensures) c.negate-away.ensures

pub returns-in-None-clause-queued : goal.returns-in-None-clause-queued
returns-in-None-clause-queued c =
    let m = c.args.made.now in
    let n = c.visit_row.new.made in
    let q = c.visit_row.new.queue in
    let ok = c.in_ok-at.ensures in
    let grown = kept_length c.args.clauses.now m.values.items n.values.items m.trail.items n.trail.items ok.extended in
    let lt : q.head < length n.trail.items = omega (arith, grown, c.requires.within, ok.head) in
    queued_advanced c.args.clauses.now n.values.items n.trail.items q record { watches = q.watches; rows = q.rows; head = c.visit_row.new.queue.head + 1 } 0 refl refl refl lt (none_at c.in_ok-at.field-0 c.in-None.is ok.watched) ok.queued
