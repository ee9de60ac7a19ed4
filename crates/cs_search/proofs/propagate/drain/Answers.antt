use Rattle.cs_search.proofs.Passes.{extended_itself, extended_twice}
use Rattle.std.proofs.Common.{refl, ◌∙◌}
use Rattle.cs_search.proofs.propagate.drain.Goals as goal

pub loop-queue-init : goal.loop-queue-init
loop-queue-init c = record { extended = extended_itself c.args.clauses.now c.args.made.now.values.items c.args.made.now.trail.items c.requires.sound; queued = c.requires.queued; count = refl }

pub step-requires-clause-sound : goal.step-requires-clause-sound
step-requires-clause-sound c = c.loop-queue.invariant.extended.sound

pub step-requires-clause-queued : goal.step-requires-clause-queued
step-requires-clause-queued c = c.loop-queue.invariant.queued

pub loop-queue-preserved : goal.loop-queue-preserved
loop-queue-preserved c = record { extended = extended_twice c.args.clauses.now c.args.made.now.values.items c.loop-queue.made.values.items c.step.new.made.values.items c.args.made.now.trail.items c.loop-queue.made.trail.items c.step.new.made.trail.items c.loop-queue.invariant.extended c.in_ok-found.ensures.extended; queued = c.in_ok-found.ensures.queued; count = c.in_ok-found.ensures.count ∙ c.loop-queue.invariant.count }

pub returns-then-is_some-clause-extended : goal.returns-then-is_some-clause-extended
returns-then-is_some-clause-extended c = extended_twice c.args.clauses.now c.args.made.now.values.items c.loop-queue.made.values.items c.step.new.made.values.items c.args.made.now.trail.items c.loop-queue.made.trail.items c.step.new.made.trail.items c.loop-queue.invariant.extended c.in_ok-found.ensures.extended

pub returns-then-is_some-clause-queued : goal.returns-then-is_some-clause-queued
returns-then-is_some-clause-queued c = c.in_ok-found.ensures.queued

pub returns-then-is_some-clause-count : goal.returns-then-is_some-clause-count
returns-then-is_some-clause-count c = c.in_ok-found.ensures.count ∙ c.loop-queue.invariant.count

pub returns-clause-extended : goal.returns-clause-extended
returns-clause-extended c = c.loop-queue.invariant.extended

pub returns-clause-queued : goal.returns-clause-queued
returns-clause-queued c = c.loop-queue.invariant.queued

pub returns-clause-count : goal.returns-clause-count
returns-clause-count c = c.loop-queue.invariant.count
