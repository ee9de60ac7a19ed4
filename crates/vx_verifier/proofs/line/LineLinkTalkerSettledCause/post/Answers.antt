use Rattle.std.proofs.Common.{◌++◌, ◌∷◌, [], List, map, refl, sym, subst}
use Rattle.std.proofs.lemmas.Result.{on_ok_weaker}
use Rattle.vx_smt_meaning.specs.Views.{declared_symbol}
use Rattle.vx_rules.specs.Trees.{Question}
use Rattle.vx_stack.specs.Stack.{query}
use Rattle.vx_pool.specs.Events.{Event}
use Rattle.vx_pool.specs.Events as event
use Rattle.vx_report.specs.declared.run.Cause.{Cause}
use Rattle.vx_verifier.specs.declared.line.Line.{Line}
use Rattle.vx_verifier.specs.declared.line.Child.{Child}
use Rattle.vx_verifier.specs.declared.line.Child.TheVariants.{Talking}
use Rattle.vx_verifier.specs.Lanes.{AsksOf, HearsOf, IsHeld, TellsOf}
use Rattle.vx_verifier.specs.Outsets.{hub}
use Rattle.vx_verifier.proofs.Children.{at_child, fault_on, stop_earlier}
use Rattle.vx_verifier.proofs.Held.{is_owed}
use Rattle.vx_verifier.proofs.Moved.{moved_more, moves_by}
use Rattle.vx_verifier.proofs.line.LineLinkTalkerSettledCause.post.Goals as goal

pub tell-child-requires-clause-owed : goal.tell-child-requires-clause-owed
tell-child-requires-clause-owed g c = is_owed (g.K.Begun.outset.first.owed c.args.self.now.lane) (g.W.Spawner.owed c.talking.new.spawner c.args.self.now.lane) c.in-Ok.ensures.held.owed

pub tell-child-requires-clause-told : goal.tell-child-requires-clause-told
tell-child-requires-clause-told g c =
    let w = g.W.Spawner in
    let t = c.requires.told in (
      t.0,
      c.in-Ok.ensures.told t.0 (at_child g.W.Link.Link.dialogue g.K.Begun.outset c.args.self.now.lane (hub w.starts w.owed w.ended w.faults w.steady c.args.hub.now) t.0 c.args.self.now.child c.replace-child.result
          (sym c.replace-child.ensures.value) t.1),
      t.2,
      t.3,
    )

pub returns-in-Ok-clause-held : goal.returns-in-Ok-clause-held
returns-in-Ok-clause-held g c =
    let w = g.W.Spawner in
    let l = g.W.Link.Link in
    let self = c.args.self.now in
    let fs = map declared_symbol self.functions.now in
    subst (λ (x : Child _). IsHeld l.steady l.faults g.K.Begun.outset self.lane self.command.now fs x (hub w.starts w.owed w.ended w.faults w.steady c.tell-child.new.spawner)) (sym c.put.ensures)
    (c.tell-child.ensures.held self.command.now fs c.in-Ok.ensures.held)

pub returns-in-Ok-clause-told : goal.returns-in-Ok-clause-told
returns-in-Ok-clause-told g c =
    let w = g.W.Spawner in
    let l = g.W.Link.Link in
    let o = g.K.Begun.outset in
    let lane = c.args.self.now.lane in
    let old = hub w.starts w.owed w.ended w.faults w.steady c.args.hub.now in
    let new = hub w.starts w.owed w.ended w.faults w.steady c.tell-child.new.spawner in
    on_ok_weaker c.tell-child.result.1 (λ told. λ log t.
    subst (λ (x : Child _). AsksOf l.dialogue o lane x new log (query c.args.query.now)) (sym c.put.ensures)
    (told log (c.in-Ok.ensures.told log (at_child l.dialogue o lane old log c.args.self.now.child c.replace-child.result (sym c.replace-child.ensures.value) t)))) c.tell-child.ensures.told

pub returns-in-Ok-clause-fault : goal.returns-in-Ok-clause-fault
returns-in-Ok-clause-fault g c =
    let w = g.W.Spawner in
    let l = g.W.Link.Link in
    let o = g.K.Begun.outset in
    let lane = c.args.self.now.lane in
    let old = hub w.starts w.owed w.ended w.faults w.steady c.args.hub.now in
    let between = hub w.starts w.owed w.ended w.faults w.steady c.talking.new.spawner in
    let new = hub w.starts w.owed w.ended w.faults w.steady c.tell-child.new.spawner in
    let q = query c.args.query.now in
    stop_earlier c.tell-child.result.1
    (λ x. (events : List (Event Cause)) → HearsOf l.dialogue o lane (Talking c.in-Ok.dialogue) between events → TellsOf l.dialogue o lane c.tell-child.result.0 new (events ++ event.Lost q x ∷ []))
    (λ x. (events : List (Event Cause)) → TellsOf l.dialogue o lane c.args.self.now.child old events → TellsOf l.dialogue o lane c.put.new.place new (events ++ event.Lost q x ∷ []))
    (λ x told. λ log t. at_child l.dialogue o lane new (log ++ event.Lost q x ∷ []) c.tell-child.result.0 c.put.new.place (sym c.put.ensures)
    (told log (c.in-Ok.ensures.told log (at_child l.dialogue o lane old log c.args.self.now.child c.replace-child.result (sym c.replace-child.ensures.value) t)))) c.tell-child.ensures.fault

pub returns-in-Ok-clause-moves : goal.returns-in-Ok-clause-moves
returns-in-Ok-clause-moves g c =
    let w = g.W.Spawner in
    let l = g.W.Link.Link in
    let shown = hub w.starts w.owed w.ended w.faults w.steady in
    moves_by l.dialogue l.steady l.faults g.K.Begun.outset (λ (t : Line _ _). t.lane) (λ (t : Line _ _). t.command.now) (λ (t : Line _ _). map declared_symbol t.functions.now) (λ (t : Line _ _). t.child) shown
    c.args.self.now c.args.hub.now _ c.tell-child.new.spawner refl c.requires.held.within
    (moved_more c.args.self.now.lane (shown c.args.hub.now) (shown c.talking.new.spawner) (shown c.tell-child.new.spawner) c.talking.ensures.moved c.tell-child.ensures.moved)

pub returns-in-Err-clause-held : goal.returns-in-Err-clause-held
returns-in-Err-clause-held g c =
    let w = g.W.Spawner in
    let l = g.W.Link.Link in
    let self = c.args.self.now in
    let fs = map declared_symbol self.functions.now in
    subst (λ (x : Child _). IsHeld l.steady l.faults g.K.Begun.outset self.lane self.command.now fs x (hub w.starts w.owed w.ended w.faults w.steady c.talking.new.spawner)) (sym c.put-in-Err.ensures) c.in-Err.ensures.held

pub returns-in-Err-clause-fault : goal.returns-in-Err-clause-fault
returns-in-Err-clause-fault g c =
    let w = g.W.Spawner in
    let l = g.W.Link.Link in
    let o = g.K.Begun.outset in
    let lane = c.args.self.now.lane in
    let old = hub w.starts w.owed w.ended w.faults w.steady c.args.hub.now in
    let new = hub w.starts w.owed w.ended w.faults w.steady c.talking.new.spawner in
    let q = query c.args.query.now in
    fault_on c.in-Err.stop
    (λ x. (events : List (Event Cause)) (q : Question) → TellsOf l.dialogue o lane c.replace-child.result old events → TellsOf l.dialogue o lane c.in-Err.child new (events ++ event.Lost q x ∷ []))
    (λ x. (events : List (Event Cause)) → TellsOf l.dialogue o lane c.args.self.now.child old events → TellsOf l.dialogue o lane c.put-in-Err.new.place new (events ++ event.Lost q x ∷ []))
    (λ x told. λ log t. at_child l.dialogue o lane new (log ++ event.Lost q x ∷ []) c.in-Err.child c.put-in-Err.new.place (sym c.put-in-Err.ensures)
    (told log q (at_child l.dialogue o lane old log c.args.self.now.child c.replace-child.result (sym c.replace-child.ensures.value) t))) c.in-Err.ensures.fault

pub returns-in-Err-clause-moves : goal.returns-in-Err-clause-moves
returns-in-Err-clause-moves g c =
    let w = g.W.Spawner in
    let l = g.W.Link.Link in
    let shown = hub w.starts w.owed w.ended w.faults w.steady in
    moves_by l.dialogue l.steady l.faults g.K.Begun.outset (λ (t : Line _ _). t.lane) (λ (t : Line _ _). t.command.now) (λ (t : Line _ _). map declared_symbol t.functions.now) (λ (t : Line _ _). t.child) shown
    c.args.self.now c.args.hub.now _ c.talking.new.spawner refl c.requires.held.within c.talking.ensures.moved
