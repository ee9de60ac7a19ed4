use Rattle.std.proofs.Common.{map, refl}
use Rattle.vx_smt_meaning.specs.Views.{declared_symbol}
use Rattle.vx_verifier.specs.declared.line.Line.{Line}
use Rattle.vx_verifier.specs.Outsets.{hub}
use Rattle.vx_verifier.proofs.Moved.{moved_same, moves_by}
use Rattle.vx_verifier.proofs.line.LineLinkTalkerSettledCause.renew.Goals as goal

pub returns-clause-told : goal.returns-clause-told
returns-clause-told g c = λ log q cause lost. lost

pub returns-clause-moves : goal.returns-clause-moves
returns-clause-moves g c =
    let w = g.W.Spawner in
    let l = g.W.Link.Link in
    let shown = hub w.starts w.owed w.ended w.faults w.steady in
    moves_by l.dialogue l.steady l.faults g.K.Begun.outset (λ (t : Line _ _). t.lane) (λ (t : Line _ _). t.command.now) (λ (t : Line _ _). map declared_symbol t.functions.now) (λ (t : Line _ _). t.child) shown
    c.args.self.now c.args._hub.now _ c.args._hub.now refl c.requires.held.within (moved_same c.args.self.now.lane (shown c.args._hub.now))
