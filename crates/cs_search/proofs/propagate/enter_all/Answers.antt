use Rattle.cs_search.proofs.Passes.{extended_itself, extended_twice}
use Rattle.std.proofs.Common.{◌∙◌, length, sym}
use Rattle.cs_search.proofs.Rounds.{extended_search}
use Rattle.cs_search.proofs.Choices.{conflict_at}
use Rattle.cs_search.proofs.propagate.enter_all.Goals as goal

pub enter-requires-clause-sound : goal.enter-requires-clause-sound
enter-requires-clause-sound c = extended_search c.args.clauses.now _ _ _ _ c.requires.sound c.loop-alloc.invariant.extended

pub returns-then-not-held-clause-conflict : goal.returns-then-not-held-clause-conflict
returns-then-not-held-clause-conflict c =
    let q = c.loop-alloc.queue in
    let n = c.enter.new.made in
    conflict_at c.args.clauses.now n.values.items (length n.trail.items) c.len-number.result (length q.watches.items) (sym (c.len-number.ensures ∙ q.watches.ok.0)) (c.in_ok-held.ensures.conflict c.if-not-held.true)

pub loop-alloc-init : goal.loop-alloc-init
loop-alloc-init c = record { extended = extended_itself c.args.clauses.now c.args.made.now.values.items c.args.made.now.trail.items c.requires.sound.sound; queued = c.requires.queued }

pub enter-requires-clause-queued : goal.enter-requires-clause-queued
enter-requires-clause-queued c = c.loop-alloc.invariant.queued

pub loop-alloc-preserved : goal.loop-alloc-preserved
loop-alloc-preserved c = record { extended = extended_twice c.args.clauses.now c.args.made.now.values.items c.loop-alloc.made.values.items c.enter.new.made.values.items c.args.made.now.trail.items c.loop-alloc.made.trail.items c.enter.new.made.trail.items c.loop-alloc.invariant.extended c.in_ok-held.ensures.extended; queued = c.in_ok-held.ensures.queued }

pub returns-then-not-held-clause-extended : goal.returns-then-not-held-clause-extended
returns-then-not-held-clause-extended c = extended_twice c.args.clauses.now c.args.made.now.values.items c.loop-alloc.made.values.items c.enter.new.made.values.items c.args.made.now.trail.items c.loop-alloc.made.trail.items c.enter.new.made.trail.items c.loop-alloc.invariant.extended c.in_ok-held.ensures.extended

pub returns-then-not-held-clause-queued : goal.returns-then-not-held-clause-queued
returns-then-not-held-clause-queued c = c.in_ok-held.ensures.queued

pub returns-clause-extended : goal.returns-clause-extended
returns-clause-extended c = c.loop-alloc.invariant.extended

pub returns-clause-queued : goal.returns-clause-queued
returns-clause-queued c = c.loop-alloc.invariant.queued
