use Rattle.std.proofs.Common.{◌∙◌, length}
use Rattle.cs_search.proofs.Queues.{queued_extends}
use Rattle.cs_search.proofs.Choices.{left_forced, entered_forced, conflict_when}
use Rattle.cs_search.proofs.propagate.enter_forced.Goals as goal

pub force-requires-clause-left : goal.force-requires-clause-left
force-requires-clause-left c =
    let q = c.args.queue.now in
    let m = c.args.made.now in
    left_forced c.args.clauses.now m.values.items m.trail.items (length q.watches.items) c.len.result c.args.pair c.requires.sound.sound (c.len.ensures ∙ q.watches.ok.0) c.requires.chosen

pub returns-then-not-held-clause-queued : goal.returns-then-not-held-clause-queued
returns-then-not-held-clause-queued c = queued_extends c.args.clauses.now _ _ _ _ c.args.queue.now c.requires.sound.sound c.in_ok-held.ensures.extended c.requires.queued

pub returns-then-not-held-clause-conflict : goal.returns-then-not-held-clause-conflict
returns-then-not-held-clause-conflict c t =
    let q = c.args.queue.now in
    let m = c.force.new.made in
    conflict_when c.args.clauses.now m.values.items (length m.trail.items) (length q.watches.items) c.len.result c.in_ok-held.held (c.len.ensures ∙ q.watches.ok.0) c.if-not-held.true c.in_ok-held.ensures.conflict

pub returns-clause-queued : goal.returns-clause-queued
returns-clause-queued c =
    let m = c.args.made.now in
    let n = c.force.new.made in
    entered_forced c.args.clauses.now m.values.items n.values.items m.trail.items n.trail.items c.args.queue.now c.watch_both.new.queue c.args.pair c.requires.sound c.in_ok-held.ensures.extended c.requires.chosen (c.in_ok-held.ensures.truth c.if-not-held.false)
    c.in_ok-watch_both.ensures.watches c.in_ok-watch_both.ensures.rows c.watch_both.ensures.head c.requires.queued

pub returns-then-not-held-clause-extended : goal.returns-then-not-held-clause-extended
returns-then-not-held-clause-extended c = c.in_ok-held.ensures.extended

pub returns-clause-extended : goal.returns-clause-extended
returns-clause-extended c = c.in_ok-held.ensures.extended
