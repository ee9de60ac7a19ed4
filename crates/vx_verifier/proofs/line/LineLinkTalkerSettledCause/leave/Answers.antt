use Rattle.std.proofs.Common.{◌++◌, ◌∷◌, [], map, refl, sym, subst}
use Rattle.vx_smt_meaning.specs.Views.{declared_symbol}
use Rattle.vx_pool.specs.Events as event
use Rattle.vx_verifier.specs.declared.line.Line.{Line}
use Rattle.vx_verifier.specs.declared.line.Child.{Child}
use Rattle.vx_verifier.specs.Lanes.{IsHeld, IsReady}
use Rattle.vx_verifier.specs.Outsets.{hub}
use Rattle.vx_verifier.proofs.Children.{at_child}
use Rattle.vx_verifier.proofs.Moved.{moved_same, moves_by}
use Rattle.vx_verifier.proofs.line.LineLinkTalkerSettledCause.leave.Goals as goal

pub left-child-requires : goal.left-child-requires
left-child-requires g c = subst (λ (x : Child _). IsReady x) (sym c.replace.ensures.value) c.requires.told.1.heard_of.ready

pub returns-clause-held : goal.returns-clause-held
returns-clause-held g c =
    let w = g.W.Spawner in
    let l = g.W.Link.Link in
    let o = g.K.Begun.outset in
    let self = c.args.self.now in
    let fs = map declared_symbol self.functions.now in
    let h = hub w.starts w.owed w.ended w.faults w.steady c.args._hub.now in
    subst (λ (x : Child _). IsHeld l.steady l.faults o self.lane self.command.now fs x h) (sym c.put.ensures)
    (c.left-child.ensures.held o self.lane self.command.now fs h (subst (λ (x : Child _). IsHeld l.steady l.faults o self.lane self.command.now fs x h) (sym c.replace.ensures.value) c.requires.held))

pub returns-clause-told : goal.returns-clause-told
returns-clause-told g c = λ log told.
    let w = g.W.Spawner in
    let l = g.W.Link.Link in
    let o = g.K.Begun.outset in
    let lane = c.args.self.now.lane in
    let h = hub w.starts w.owed w.ended w.faults w.steady c.args._hub.now in
    at_child l.dialogue o lane h (log ++ event.Left ∷ []) c.left-child.result c.put.new.place (sym c.put.ensures)
    (c.left-child.ensures.told o lane h log (at_child l.dialogue o lane h log c.args.self.now.child c.replace.result (sym c.replace.ensures.value) told))

pub returns-clause-moves : goal.returns-clause-moves
returns-clause-moves g c =
    let w = g.W.Spawner in
    let l = g.W.Link.Link in
    let shown = hub w.starts w.owed w.ended w.faults w.steady in
    moves_by l.dialogue l.steady l.faults g.K.Begun.outset (λ (t : Line _ _). t.lane) (λ (t : Line _ _). t.command.now) (λ (t : Line _ _). map declared_symbol t.functions.now) (λ (t : Line _ _). t.child) shown
    c.args.self.now c.args._hub.now _ c.args._hub.now refl c.requires.held.within (moved_same c.args.self.now.lane (shown c.args._hub.now))
