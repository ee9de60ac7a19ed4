use Rattle.std.proofs.Common.{map, refl, ap, ◌∙◌, subst}
use Rattle.vx_ends.specs.declared.piece.Ending.{Ending}
use Rattle.vx_smt_meaning.specs.Views.{declared_symbol}
use Rattle.vx_verifier.specs.declared.line.Child.{Child}
use Rattle.vx_verifier.specs.declared.line.Child.TheVariants.{Talking, Lost}
use Rattle.vx_verifier.specs.Lanes.{IsHeld, links_out}
use Rattle.vx_verifier.specs.Outsets.{hub}
use Rattle.vx_verifier.proofs.Held.{back, held_back, is_owed, told_back, told_unstarted, told_lost}
use Rattle.vx_verifier.proofs.Moved.{moved_back, moved_same}
use Rattle.vx_verifier.proofs.line.end.Goals as goal

pub finish-requires : goal.finish-requires
finish-requires g c =
    let w = g.W.Spawner in
    let l = g.W.Link.Link in
    let held = subst (λ (x : Child _). IsHeld l.steady l.faults g.K.Begun.outset c.args.line.lane c.args.line.command.now (map declared_symbol c.args.line.functions.now) x (hub w.starts w.owed w.ended w.faults w.steady c.args.spawner.now)) c.in-Talking.is c.requires in
    is_owed (g.K.Begun.outset.first.owed c.args.line.lane) (w.owed c.args.spawner.now c.args.line.lane) held.owed

pub returns-in-Talking-clause-back : goal.returns-in-Talking-clause-back
returns-in-Talking-clause-back g c =
    let w = g.W.Spawner in
    let l = g.W.Link.Link in
    let o = g.K.Begun.outset in
    let shown = hub w.starts w.owed w.ended w.faults w.steady in
    let fs = map declared_symbol c.args.line.functions.now in
    let e : Ending = record { lane = c.args.line.lane; dialogue = l.dialogue c.close.result; faults = l.faults c.close.result } in
    let held = subst (λ (x : Child _). IsHeld l.steady l.faults o c.args.line.lane c.args.line.command.now fs x (shown c.args.spawner.now)) c.in-Talking.is c.requires in
    back l.steady l.faults o c.args.line.lane c.args.line.command.now fs Lost (shown c.finish.new.self) refl
    (held_back l.steady l.faults o c.args.line.lane c.args.line.command.now fs (Talking c.in-Talking.dialogue) Lost (shown c.args.spawner.now) (shown c.finish.new.self) e refl refl refl c.finish.ensures.ended refl c.finish.ensures.owed
    c.finish.ensures.starts c.finish.ensures.faults c.finish.ensures.fixed (λ _ steady. (ap l.faults c.close.ensures ∙ steady.1, tt)) held)

pub returns-in-Talking-clause-told : goal.returns-in-Talking-clause-told
returns-in-Talking-clause-told g c = λ events told.
    let w = g.W.Spawner in
    let l = g.W.Link.Link in
    let o = g.K.Begun.outset in
    let shown = hub w.starts w.owed w.ended w.faults w.steady in
    let fs = map declared_symbol c.args.line.functions.now in
    let e : Ending = record { lane = c.args.line.lane; dialogue = l.dialogue c.close.result; faults = l.faults c.close.result } in
    let held = subst (λ (x : Child _). IsHeld l.steady l.faults o c.args.line.lane c.args.line.command.now fs x (shown c.args.spawner.now)) c.in-Talking.is c.requires in
    told_back l.steady l.faults o c.args.line.lane c.args.line.command.now fs l.dialogue c.args.line.child c.in-Talking.dialogue (shown c.args.spawner.now) (shown c.finish.new.self) e events c.in-Talking.is
    c.finish.ensures.ended refl (ap l.dialogue c.close.ensures)
    (held_back l.steady l.faults o c.args.line.lane c.args.line.command.now fs (Talking c.in-Talking.dialogue) Lost (shown c.args.spawner.now) (shown c.finish.new.self) e refl refl refl c.finish.ensures.ended refl c.finish.ensures.owed
    c.finish.ensures.starts c.finish.ensures.faults c.finish.ensures.fixed (λ _ steady. (ap l.faults c.close.ensures ∙ steady.1, tt)) held) told

pub returns-in-Talking-clause-moved : goal.returns-in-Talking-clause-moved
returns-in-Talking-clause-moved g c =
    let w = g.W.Spawner in
    let l = g.W.Link.Link in
    let shown = hub w.starts w.owed w.ended w.faults w.steady in
    let e : Ending = record { lane = c.args.line.lane; dialogue = l.dialogue c.close.result; faults = l.faults c.close.result } in
    moved_back c.args.line.lane (shown c.args.spawner.now) (shown c.finish.new.self) e
    c.finish.ensures.ended refl c.finish.ensures.owed c.finish.ensures.starts c.finish.ensures.faults c.finish.ensures.fixed

pub returns-in-NotStarted-clause-back : goal.returns-in-NotStarted-clause-back
returns-in-NotStarted-clause-back g c =
    let w = g.W.Spawner in
    let l = g.W.Link.Link in
    back l.steady l.faults g.K.Begun.outset c.args.line.lane c.args.line.command.now (map declared_symbol c.args.line.functions.now) c.args.line.child (hub w.starts w.owed w.ended w.faults w.steady c.args.spawner.now)
    (ap links_out c.in-NotStarted.is) c.requires

pub returns-in-NotStarted-clause-told : goal.returns-in-NotStarted-clause-told
returns-in-NotStarted-clause-told g c = λ events told.
    let w = g.W.Spawner in
    let l = g.W.Link.Link in
    told_unstarted l.steady l.faults g.K.Begun.outset c.args.line.lane c.args.line.command.now (map declared_symbol c.args.line.functions.now) l.dialogue c.args.line.child (hub w.starts w.owed w.ended w.faults w.steady c.args.spawner.now) events
    c.in-NotStarted.is c.requires told

pub returns-in-NotStarted-clause-moved : goal.returns-in-NotStarted-clause-moved
returns-in-NotStarted-clause-moved g c =
    let w = g.W.Spawner in
    moved_same c.args.line.lane (hub w.starts w.owed w.ended w.faults w.steady c.args.spawner.now)

pub returns-in-Lost-clause-back : goal.returns-in-Lost-clause-back
returns-in-Lost-clause-back g c =
    let w = g.W.Spawner in
    let l = g.W.Link.Link in
    back l.steady l.faults g.K.Begun.outset c.args.line.lane c.args.line.command.now (map declared_symbol c.args.line.functions.now) c.args.line.child (hub w.starts w.owed w.ended w.faults w.steady c.args.spawner.now)
    (ap links_out c.in-Lost.is) c.requires

pub returns-in-Lost-clause-told : goal.returns-in-Lost-clause-told
returns-in-Lost-clause-told g c = λ events told.
    let w = g.W.Spawner in
    let l = g.W.Link.Link in
    told_lost l.steady l.faults g.K.Begun.outset c.args.line.lane c.args.line.command.now (map declared_symbol c.args.line.functions.now) l.dialogue c.args.line.child (hub w.starts w.owed w.ended w.faults w.steady c.args.spawner.now) events
    c.in-Lost.is c.requires told

pub returns-in-Lost-clause-moved : goal.returns-in-Lost-clause-moved
returns-in-Lost-clause-moved g c =
    let w = g.W.Spawner in
    moved_same c.args.line.lane (hub w.starts w.owed w.ended w.faults w.steady c.args.spawner.now)
