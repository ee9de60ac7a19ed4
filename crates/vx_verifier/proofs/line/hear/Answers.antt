use Rattle.std.proofs.Common.{◌≡◌, ◌<◌, ◌++◌, ◌∷◌, [], refl, ap, ◌∙◌, sym, subst, Err, is_err}
use Rattle.vx_ends.specs.declared.piece.Ending.{Ending}
use Rattle.vx_dialogue.specs.Dialogue.{link_of}
use Rattle.vx_dialogue.specs.History.{Breaks}
use Rattle.vx_dialogue.specs.Scripts.{Posts, script}
use Rattle.vx_dialogue.specs.declared.talk.Talk.TheVariants as talk
use Rattle.vx_verifier.specs.declared.line.Child.TheVariants.{Talking, Lost}
use Rattle.vx_verifier.specs.Outsets.{hub}
use Rattle.vx_verifier.proofs.Children.{above_none, answers, taken_steady, unanswered}
use Rattle.vx_verifier.proofs.Held.{held_back, held_with}
use Rattle.vx_verifier.proofs.Moved.{moved_back, moved_same}
use Rattle.vx_verifier.proofs.line.hear.Goals as goal

pub returns-in-Ok-clause-held : goal.returns-in-Ok-clause-held
returns-in-Ok-clause-held g c = λ command functions held.
    let l = g.W.Link.Link in
    let a = c.requires.asked in
    held_with l.steady l.faults g.K.Begun.outset c.args.lane command functions (Talking c.args.dialogue) (Talking c.take.new.self) _ refl refl
    (λ steady. taken_steady l.dialogue g.K.Begun.outset c.args.lane _ a.0 a.1 c.args.dialogue (link_of c.take.new.self) l.steady l.faults c.take.ensures.steady a.2 steady) held

pub returns-in-Ok-clause-told : goal.returns-in-Ok-clause-told
returns-in-Ok-clause-told g c = λ events q asked.
    answers g.W.Link.Link.dialogue g.K.Begun.outset c.args.lane c.args.dialogue c.take.new.self _ q c.in-Ok.reply events c.in-Ok.ensures.reply c.take.ensures.free
    (c.take.ensures.failed ∙ ap is_err c.in-Ok.is) c.in-Ok.ensures.scope asked

pub returns-in-Ok-clause-moved : goal.returns-in-Ok-clause-moved
returns-in-Ok-clause-moved g c =
    let w = g.W.Spawner in
    moved_same c.args.lane (hub w.starts w.owed w.ended w.faults w.steady c.args.spawner.now)

pub returns-in-Err-clause-held : goal.returns-in-Err-clause-held
returns-in-Err-clause-held g c = λ command functions held.
    let w = g.W.Spawner in
    let l = g.W.Link.Link in
    let a = c.requires.asked in
    let e : Ending = record { lane = c.args.lane; dialogue = l.dialogue c.close.result; faults = l.faults c.close.result } in
    held_back l.steady l.faults g.K.Begun.outset c.args.lane command functions (Talking c.args.dialogue) Lost (hub w.starts w.owed w.ended w.faults w.steady c.args.spawner.now)
    (hub w.starts w.owed w.ended w.faults w.steady c.finish.new.self) e refl refl refl c.finish.ensures.ended refl c.finish.ensures.owed c.finish.ensures.starts c.finish.ensures.faults c.finish.ensures.fixed
    (λ _ steady. (
      ap l.faults c.close.ensures ∙ (taken_steady l.dialogue g.K.Begun.outset c.args.lane _ a.0 a.1 c.args.dialogue (link_of c.take.new.self) l.steady l.faults c.take.ensures.steady a.2 steady).1,
      tt,
    )) held

pub returns-in-Err-clause-fault : goal.returns-in-Err-clause-fault
returns-in-Err-clause-fault g c =
    let w = g.W.Spawner in
    let l = g.W.Link.Link in
    let link = c.close.result in
    let e : Ending = record { lane = c.args.lane; dialogue = l.dialogue link; faults = l.faults link } in
    let same : link ≡ link_of c.take.new.self = c.close.ensures in
    let rose : c.in-Err.talk ≡ talk.Pipe → 0 < l.faults link = λ h. subst (λ x. 0 < l.faults x) (sym same) (above_none _ _ (c.take.ensures.cause.rose (c.in-Err.is ∙ ap Err h))) in
    let works = c.requires.asked.2.awaits.6 in
    let shut : c.in-Err.talk ≡ talk.Closed → ⊥ = λ h. let failed = c.take.ensures.closed.0 (c.in-Err.is ∙ ap Err h) in cc (works, failed) in
    unanswered l.dialogue g.K.Begun.outset c.args.lane c.args.dialogue (hub w.starts w.owed w.ended w.faults w.steady c.args.spawner.now) (hub w.starts w.owed w.ended w.faults w.steady c.finish.new.self) e c.in-Err.talk
    c.stop_of.result c.stop_of.ensures c.finish.ensures.ended refl
    (λ certify functions turns path condition checks awaits named. subst (λ x. Breaks c.in-Err.talk (script certify functions (turns ++ Posts path condition ∷ [])) (l.dialogue x) checks) (sym same)
    (c.in-Err.ensures.fault certify functions turns path condition checks awaits named)) rose shut

pub returns-in-Err-clause-moved : goal.returns-in-Err-clause-moved
returns-in-Err-clause-moved g c =
    let w = g.W.Spawner in
    let l = g.W.Link.Link in
    let e : Ending = record { lane = c.args.lane; dialogue = l.dialogue c.close.result; faults = l.faults c.close.result } in
    moved_back c.args.lane (hub w.starts w.owed w.ended w.faults w.steady c.args.spawner.now) (hub w.starts w.owed w.ended w.faults w.steady c.finish.new.self) e
    c.finish.ensures.ended refl c.finish.ensures.owed c.finish.ensures.starts c.finish.ensures.faults c.finish.ensures.fixed
