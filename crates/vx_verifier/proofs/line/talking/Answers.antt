use Rattle.std.proofs.Common.{◌++◌, ◌∷◌, [], List, map, subst}
use Rattle.std.proofs.lemmas.Result.{IfOk-weaker}
use Rattle.vx_smt_meaning.specs.Views.{declared_symbol}
use Rattle.vx_verifier.specs.declared.line.Child.{Child}
use Rattle.vx_verifier.specs.declared.line.Child.TheVariants.{NotStarted}
use Rattle.vx_rules.specs.Trees.{Question}
use Rattle.vx_pool.specs.Events.{Event}
use Rattle.vx_pool.specs.Events as event
use Rattle.vx_report.specs.declared.run.Cause.{Cause}
use Rattle.vx_verifier.specs.Lanes.{IsHeld, HearsOf, TellsOf}
use Rattle.vx_verifier.specs.Outsets.{hub}
use Rattle.vx_verifier.proofs.Children.{at_child, fault_earlier, lost_again}
use Rattle.vx_verifier.proofs.Moved.{moved_same}
use Rattle.vx_verifier.proofs.line.talking.Goals as goal

pub returns-in-NotStarted-clause-told : goal.returns-in-NotStarted-clause-told
returns-in-NotStarted-clause-told g c = IfOk-weaker c.start.result _ _ (λ d told. λ events t. told events (at_child g.W.Link.Link.dialogue g.K.Begun.outset c.args.lane _ events _ _ c.in-NotStarted.is t).heard_of) c.start.ensures.told

pub returns-in-NotStarted-clause-fault : goal.returns-in-NotStarted-clause-fault
returns-in-NotStarted-clause-fault g c =
    let w = g.W.Spawner in
    let l = g.W.Link.Link in
    let old = hub w.starts w.owed w.ended w.faults w.steady c.args.spawner.now in
    let new = hub w.starts w.owed w.ended w.faults w.steady c.start.new.spawner in
    fault_earlier c.start.result
    (λ a x. (events : List (Event Cause)) (q : Question) → HearsOf l.dialogue g.K.Begun.outset c.args.lane NotStarted old events → TellsOf l.dialogue g.K.Begun.outset c.args.lane a new (events ++ event.Lost q x ∷ []))
    (λ a x. (events : List (Event Cause)) (q : Question) → TellsOf l.dialogue g.K.Begun.outset c.args.lane c.args.child old events → TellsOf l.dialogue g.K.Begun.outset c.args.lane a new (events ++ event.Lost q x ∷ []))
    (λ a x told. λ events q t. told events q (at_child g.W.Link.Link.dialogue g.K.Begun.outset c.args.lane _ events _ _ c.in-NotStarted.is t).heard_of) c.start.ensures.fault

pub returns-in-Talking-clause-held : goal.returns-in-Talking-clause-held
returns-in-Talking-clause-held g c =
    let w = g.W.Spawner in
    let l = g.W.Link.Link in
    subst (λ (x : Child _). IsHeld l.steady l.faults g.K.Begun.outset c.args.lane c.args.command.now (map declared_symbol c.args.functions.now) x (hub w.starts w.owed w.ended w.faults w.steady c.args.spawner.now))
    c.in-Talking.is c.requires

pub returns-in-Talking-clause-told : goal.returns-in-Talking-clause-told
returns-in-Talking-clause-told g c = λ events t. (at_child g.W.Link.Link.dialogue g.K.Begun.outset c.args.lane _ events _ _ c.in-Talking.is t).heard_of

pub returns-in-Talking-clause-moved : goal.returns-in-Talking-clause-moved
returns-in-Talking-clause-moved g c =
    let w = g.W.Spawner in
    moved_same c.args.lane (hub w.starts w.owed w.ended w.faults w.steady c.args.spawner.now)

pub returns-in-Lost-clause-held : goal.returns-in-Lost-clause-held
returns-in-Lost-clause-held g c =
    let w = g.W.Spawner in
    let l = g.W.Link.Link in
    subst (λ (x : Child _). IsHeld l.steady l.faults g.K.Begun.outset c.args.lane c.args.command.now (map declared_symbol c.args.functions.now) x (hub w.starts w.owed w.ended w.faults w.steady c.args.spawner.now))
    c.in-Lost.is c.requires

pub returns-in-Lost-clause-fault : goal.returns-in-Lost-clause-fault
returns-in-Lost-clause-fault g c = λ events q t. lost_again g.W.Link.Link.dialogue g.K.Begun.outset c.args.lane _ q events (at_child g.W.Link.Link.dialogue g.K.Begun.outset c.args.lane _ events _ _ c.in-Lost.is t)

pub returns-in-Lost-clause-moved : goal.returns-in-Lost-clause-moved
returns-in-Lost-clause-moved g c =
    let w = g.W.Spawner in
    moved_same c.args.lane (hub w.starts w.owed w.ended w.faults w.steady c.args.spawner.now)
