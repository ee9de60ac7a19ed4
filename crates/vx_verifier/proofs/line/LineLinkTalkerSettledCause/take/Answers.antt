use Rattle.std.proofs.Common.{◌++◌, ◌∷◌, [], List, map, refl, ◌∙◌, sym, subst}
use Rattle.std.proofs.lemmas.Result.{IfOk-weaker}
use Rattle.vx_smt_meaning.specs.Views.{declared_symbol}
use Rattle.vx_rules.specs.Trees.{Question}
use Rattle.vx_pool.specs.Events.{Event}
use Rattle.vx_pool.specs.Events as event
use Rattle.vx_report.specs.declared.run.Cause.{Cause}
use Rattle.vx_verifier.specs.declared.line.Line.{Line}
use Rattle.vx_verifier.specs.declared.line.Child.{Child}
use Rattle.vx_verifier.specs.declared.line.Child.TheVariants.{Talking}
use Rattle.vx_verifier.specs.Lanes.{AsksOf, IsHeld, TellsOf}
use Rattle.vx_verifier.specs.Outsets.{hub}
use Rattle.vx_verifier.proofs.Children.{at_child, stop_earlier}
use Rattle.vx_verifier.proofs.Held.{is_owed}
use Rattle.vx_verifier.proofs.Moved.{moves_by}
use Rattle.vx_verifier.proofs.line.LineLinkTalkerSettledCause.take.Goals as goal

pub hear-child-requires-clause-owed : goal.hear-child-requires-clause-owed
hear-child-requires-clause-owed g c =
    let w = g.W.Spawner in
    let l = g.W.Link.Link in
    let self = c.args.self.now in
    let held = subst (λ (x : Child _). IsHeld l.steady l.faults g.K.Begun.outset self.lane self.command.now (map declared_symbol self.functions.now) x (hub w.starts w.owed w.ended w.faults w.steady c.args.hub.now))
    (sym c.replace.ensures.value ∙ c.in-Talking.is) c.requires.held in
    is_owed (g.K.Begun.outset.first.owed self.lane) (w.owed c.args.hub.now self.lane) held.owed

pub hear-child-requires-clause-asked : goal.hear-child-requires-clause-asked
hear-child-requires-clause-asked g c =
    let w = g.W.Spawner in
    let l = g.W.Link.Link in
    let a = c.requires.asked in (
      a.0,
      a.1,
      subst (λ (x : Child _). AsksOf l.dialogue g.K.Begun.outset c.args.self.now.lane x (hub w.starts w.owed w.ended w.faults w.steady c.args.hub.now) a.0 a.1) (sym c.replace.ensures.value ∙ c.in-Talking.is) a.2,
    )

pub returns-clause-held : goal.returns-clause-held
returns-clause-held g c =
    let w = g.W.Spawner in
    let l = g.W.Link.Link in
    let self = c.args.self.now in
    let fs = map declared_symbol self.functions.now in
    let old = hub w.starts w.owed w.ended w.faults w.steady c.args.hub.now in
    let new = hub w.starts w.owed w.ended w.faults w.steady c.hear-child.new.spawner in
    subst (λ (x : Child _). IsHeld l.steady l.faults g.K.Begun.outset self.lane self.command.now fs x new) (sym c.put.ensures) (c.hear-child.ensures.held self.command.now fs
    (subst (λ (x : Child _). IsHeld l.steady l.faults g.K.Begun.outset self.lane self.command.now fs x old) (sym c.replace.ensures.value ∙ c.in-Talking.is) c.requires.held))

pub returns-clause-told : goal.returns-clause-told
returns-clause-told g c =
    let w = g.W.Spawner in
    let l = g.W.Link.Link in
    let o = g.K.Begun.outset in
    let lane = c.args.self.now.lane in
    let old = hub w.starts w.owed w.ended w.faults w.steady c.args.hub.now in
    let new = hub w.starts w.owed w.ended w.faults w.steady c.hear-child.new.spawner in
    IfOk-weaker c.hear-child.result.1 _ _ (λ reply told. λ log q a.
    at_child l.dialogue o lane new (log ++ event.Answered q reply ∷ []) c.hear-child.result.0 c.put.new.place (sym c.put.ensures)
    (told log q (subst (λ (x : Child _). AsksOf l.dialogue o lane x old log q) (sym c.replace.ensures.value ∙ c.in-Talking.is) a))) c.hear-child.ensures.told

pub returns-clause-fault : goal.returns-clause-fault
returns-clause-fault g c =
    let w = g.W.Spawner in
    let l = g.W.Link.Link in
    let o = g.K.Begun.outset in
    let lane = c.args.self.now.lane in
    let old = hub w.starts w.owed w.ended w.faults w.steady c.args.hub.now in
    let new = hub w.starts w.owed w.ended w.faults w.steady c.hear-child.new.spawner in
    stop_earlier c.hear-child.result.1
    (λ x. (events : List (Event Cause)) (q : Question) → AsksOf l.dialogue o lane (Talking c.in-Talking.dialogue) old events q → TellsOf l.dialogue o lane c.hear-child.result.0 new (events ++ event.Lost q x ∷ []))
    (λ x. (events : List (Event Cause)) (q : Question) → AsksOf l.dialogue o lane c.args.self.now.child old events q → TellsOf l.dialogue o lane c.put.new.place new (events ++ event.Lost q x ∷ []))
    (λ x told. λ log q a. at_child l.dialogue o lane new (log ++ event.Lost q x ∷ []) c.hear-child.result.0 c.put.new.place (sym c.put.ensures)
    (told log q (subst (λ (y : Child _). AsksOf l.dialogue o lane y old log q) (sym c.replace.ensures.value ∙ c.in-Talking.is) a))) c.hear-child.ensures.fault

pub returns-clause-moves : goal.returns-clause-moves
returns-clause-moves g c =
    let w = g.W.Spawner in
    let l = g.W.Link.Link in
    let shown = hub w.starts w.owed w.ended w.faults w.steady in
    moves_by l.dialogue l.steady l.faults g.K.Begun.outset (λ (t : Line _ _). t.lane) (λ (t : Line _ _). t.command.now) (λ (t : Line _ _). map declared_symbol t.functions.now) (λ (t : Line _ _). t.child) shown
    c.args.self.now c.args.hub.now _ c.hear-child.new.spawner refl c.requires.held.within c.hear-child.ensures.moved
