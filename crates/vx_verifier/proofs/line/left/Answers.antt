use Rattle.std.proofs.Common.{refl, sym, subst}
use Rattle.vx_dialogue.specs.Steady.{IsSteady}
use Rattle.vx_verifier.specs.declared.line.Child.{Child}
use Rattle.vx_verifier.specs.declared.line.Child.TheVariants.{Talking}
use Rattle.vx_verifier.specs.Lanes.{IsHeld}
use Rattle.vx_verifier.proofs.Children.{leaves, leaves_unstarted, leaves_lost}
use Rattle.vx_verifier.proofs.Held.{held_with}
use Rattle.vx_verifier.proofs.line.left.Goals as goal

pub returns-in-Ok-clause-held : goal.returns-in-Ok-clause-held
returns-in-Ok-clause-held g c = λ o lane command functions h held.
    let l = g.L.Link in
    let talking = subst (λ (x : Child _). IsHeld l.steady l.faults o lane command functions x h) c.in-Talking.is held in
    held_with l.steady l.faults o lane command functions (Talking c.in-Talking.dialogue) (Talking c.leave.new.self) h refl refl
    (λ steady. subst (IsSteady l.steady l.faults) (sym c.leave.ensures.link) steady) talking

pub returns-in-Ok-clause-told : goal.returns-in-Ok-clause-told
returns-in-Ok-clause-told g c = λ o lane h events told.
    leaves g.L.Link.dialogue o lane c.args.child c.in-Talking.dialogue c.leave.new.self h events c.in-Talking.is c.in-Ok.ensures.stands c.leave.ensures.free c.leave.ensures.failed c.in-Ok.ensures.left told

pub returns-in-NotStarted-clause-held : goal.returns-in-NotStarted-clause-held
returns-in-NotStarted-clause-held g c = λ o lane command functions h held.
    subst (λ (x : Child _). IsHeld g.L.Link.steady g.L.Link.faults o lane command functions x h) c.in-NotStarted.is held

pub returns-in-NotStarted-clause-told : goal.returns-in-NotStarted-clause-told
returns-in-NotStarted-clause-told g c = λ o lane h events told. leaves_unstarted g.L.Link.dialogue o lane c.args.child h events c.in-NotStarted.is told

pub returns-in-Lost-clause-held : goal.returns-in-Lost-clause-held
returns-in-Lost-clause-held g c = λ o lane command functions h held.
    subst (λ (x : Child _). IsHeld g.L.Link.steady g.L.Link.faults o lane command functions x h) c.in-Lost.is held

pub returns-in-Lost-clause-told : goal.returns-in-Lost-clause-told
returns-in-Lost-clause-told g c = λ o lane h events told. leaves_lost g.L.Link.dialogue o lane c.args.child h events c.in-Lost.is told
