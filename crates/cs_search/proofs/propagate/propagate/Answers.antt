use Rattle.cs_search.proofs.Passes.{extended_twice}
use Rattle.std.proofs.Common.{◌≡◌, ◌∙◌, length}
use Rattle.cs_search.proofs.Queues.{none_at, none_then, closed_all}
use Rattle.cs_search.proofs.propagate.propagate.Goals as goal

pub returns-in_ok-found-in-None-clause-closed : goal.returns-in_ok-found-in-None-clause-closed
returns-in_ok-found-in-None-clause-closed c =
    let n = c.drain.new.made in
    let q = c.drain.new.queue in
    let ok = c.in_ok-found-in-None.ensures in
    let count : length q.watches.items ≡ length c.args.clauses.now = ok.count ∙ none_at c.in_ok-at.field-0 c.in-None.is c.in_ok-at.ensures.all in
    none_then c.in_ok-found-in-None.found (λ walked. closed_all c.args.clauses.now n.values.items n.trail.items q walked count ok.queued) ok.walked

pub drain-requires-clause-sound : goal.drain-requires-clause-sound
drain-requires-clause-sound c = c.in_ok-at.ensures.extended.sound

pub drain-requires-clause-queued : goal.drain-requires-clause-queued
drain-requires-clause-queued c = c.in_ok-at.ensures.queued

pub returns-in-Some-clause-extended : goal.returns-in-Some-clause-extended
returns-in-Some-clause-extended c = c.in_ok-at.ensures.extended

pub returns-in-Some-clause-queued : goal.returns-in-Some-clause-queued
returns-in-Some-clause-queued c = c.in_ok-at.ensures.queued

pub returns-in_ok-found-in-None-clause-extended : goal.returns-in_ok-found-in-None-clause-extended
returns-in_ok-found-in-None-clause-extended c = extended_twice c.args.clauses.now c.args.made.now.values.items c.enter_all.new.made.values.items c.drain.new.made.values.items c.args.made.now.trail.items c.enter_all.new.made.trail.items c.drain.new.made.trail.items c.in_ok-at.ensures.extended c.in_ok-found-in-None.ensures.extended

pub returns-in_ok-found-in-None-clause-queued : goal.returns-in_ok-found-in-None-clause-queued
returns-in_ok-found-in-None-clause-queued c = c.in_ok-found-in-None.ensures.queued

pub returns-in_ok-found-in-None-clause-conflict : goal.returns-in_ok-found-in-None-clause-conflict
returns-in_ok-found-in-None-clause-conflict c = c.in_ok-found-in-None.ensures.conflict

pub returns-in_ok-found-in-None-clause-walked : goal.returns-in_ok-found-in-None-clause-walked
returns-in_ok-found-in-None-clause-walked c = c.in_ok-found-in-None.ensures.walked
