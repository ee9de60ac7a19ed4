use Rattle.std.proofs.Common.{◌≡◌, ◌<◌, ◌++◌, ◌∷◌, [], map, refl, ap, ◌∙◌, sym, subst, Err, is_err}
use Rattle.vx_ends.specs.declared.piece.Ending.{Ending}
use Rattle.vx_segments.specs.Segments.{terms}
use Rattle.vx_segments.specs.Views.{entry}
use Rattle.vx_stack.specs.Stack.{query}
use Rattle.vx_dialogue.specs.Bases.{path_behind}
use Rattle.vx_dialogue.specs.Dialogue.{link_of, scope_of}
use Rattle.vx_dialogue.specs.History.{Breaks}
use Rattle.vx_dialogue.specs.Scripts.{Posts, script}
use Rattle.vx_dialogue.specs.declared.talk.Talk.TheVariants as talk
use Rattle.vx_verifier.specs.declared.line.Child.TheVariants.{Talking, Lost}
use Rattle.vx_verifier.specs.Outsets.{hub}
use Rattle.vx_verifier.proofs.Children.{above_none, asks, posted_steady, stays_at, unposted}
use Rattle.vx_verifier.proofs.Held.{held_back, held_with}
use Rattle.vx_verifier.proofs.Moved.{moved_back, moved_same}
use Rattle.vx_verifier.proofs.line.tell.Goals as goal

pub path_for-requires : goal.path_for-requires
path_for-requires g c =
    let t = c.requires.told in
    stays_at g.W.Link.Link.dialogue g.K.Begun.outset c.args.lane _ (query c.args.query.now) c.args.stays t.0 c.args.dialogue t.1 t.3

pub returns-in-Err-clause-moved : goal.returns-in-Err-clause-moved
returns-in-Err-clause-moved g c =
    let w = g.W.Spawner in
    moved_same c.args.lane (hub w.starts w.owed w.ended w.faults w.steady c.args.spawner.now)

pub returns-in-Ok-post-clause-held : goal.returns-in-Ok-post-clause-held
returns-in-Ok-post-clause-held g c = λ command functions held.
    let l = g.W.Link.Link in
    let t = c.requires.told in
    let is = ap (λ es. terms (path_behind c.in-Ok.path.0 (scope_of c.args.dialogue) (map entry es))) c.deref.ensures.value ∙ c.in-Ok.ensures in
    held_with l.steady l.faults g.K.Begun.outset c.args.lane command functions (Talking c.args.dialogue) (Talking c.post.new.self) _ refl refl
    (λ steady. posted_steady l.dialogue g.K.Begun.outset c.args.lane _ t.0 c.args.dialogue (link_of c.post.new.self) l.steady l.faults (query c.args.query.now)
    (path_behind c.in-Ok.path.0 (scope_of c.args.dialogue) (map entry c.deref.result.now)) is t.2 c.post.ensures.steady t.1 steady) held

pub returns-in-Ok-post-clause-told : goal.returns-in-Ok-post-clause-told
returns-in-Ok-post-clause-told g c = λ events heard.
    let l = g.W.Link.Link in
    let is = ap (λ es. terms (path_behind c.in-Ok.path.0 (scope_of c.args.dialogue) (map entry es))) c.deref.ensures.value ∙ c.in-Ok.ensures in
    asks l.dialogue g.K.Begun.outset c.args.lane c.args.dialogue c.post.new.self _ (query c.args.query.now)
    (path_behind c.in-Ok.path.0 (scope_of c.args.dialogue) (map entry c.deref.result.now)) events is c.requires.told.2 c.in-Ok-post.ensures.asks c.post.ensures.asked
    (c.post.ensures.failed ∙ ap is_err c.in-Ok-post.is) heard

pub returns-in-Ok-post-clause-moved : goal.returns-in-Ok-post-clause-moved
returns-in-Ok-post-clause-moved g c =
    let w = g.W.Spawner in
    moved_same c.args.lane (hub w.starts w.owed w.ended w.faults w.steady c.args.spawner.now)

pub returns-clause-held : goal.returns-clause-held
returns-clause-held g c = λ command functions held.
    let w = g.W.Spawner in
    let l = g.W.Link.Link in
    let t = c.requires.told in
    let link = c.close.result in
    let e : Ending = record { lane = c.args.lane; dialogue = l.dialogue link; faults = l.faults link } in
    let is = ap (λ es. terms (path_behind c.in-Ok.path.0 (scope_of c.args.dialogue) (map entry es))) c.deref.ensures.value ∙ c.in-Ok.ensures in
    held_back l.steady l.faults g.K.Begun.outset c.args.lane command functions (Talking c.args.dialogue) Lost (hub w.starts w.owed w.ended w.faults w.steady c.args.spawner.now)
    (hub w.starts w.owed w.ended w.faults w.steady c.finish.new.self) e refl refl refl c.finish.ensures.ended refl c.finish.ensures.owed c.finish.ensures.starts c.finish.ensures.faults c.finish.ensures.fixed
    (λ _ steady. (
      ap l.faults c.close.ensures ∙ (posted_steady l.dialogue g.K.Begun.outset c.args.lane _ t.0 c.args.dialogue (link_of c.post.new.self) l.steady l.faults (query c.args.query.now)
          (path_behind c.in-Ok.path.0 (scope_of c.args.dialogue) (map entry c.deref.result.now)) is t.2 c.post.ensures.steady t.1 steady).1,
      tt,
    )) held

pub returns-clause-fault : goal.returns-clause-fault
returns-clause-fault g c =
    let w = g.W.Spawner in
    let l = g.W.Link.Link in
    let link = c.close.result in
    let path = path_behind c.in-Ok.path.0 (scope_of c.args.dialogue) (map entry c.deref.result.now) in
    let is = ap (λ es. terms (path_behind c.in-Ok.path.0 (scope_of c.args.dialogue) (map entry es))) c.deref.ensures.value ∙ c.in-Ok.ensures in
    let e : Ending = record { lane = c.args.lane; dialogue = l.dialogue link; faults = l.faults link } in
    let same : link ≡ link_of c.post.new.self = c.close.ensures in
    let rose : c.in-Err-post.talk ≡ talk.Pipe → 0 < l.faults link =
    λ h. subst (λ x. 0 < l.faults x) (sym same) (above_none _ _ (c.post.ensures.cause.rose (c.in-Err-post.is ∙ ap Err h))) in
    let shut : c.in-Err-post.talk ≡ talk.Closed → ⊥ = λ h. let failed = c.post.ensures.closed.0 (c.in-Err-post.is ∙ ap Err h) in let works = c.requires.told.1.ready.1 in cc in
    unposted l.dialogue g.K.Begun.outset c.args.lane c.args.dialogue (hub w.starts w.owed w.ended w.faults w.steady c.args.spawner.now) (hub w.starts w.owed w.ended w.faults w.steady c.finish.new.self) e c.in-Err-post.talk
    c.stop_of.result (query c.args.query.now) path c.stop_of.ensures is c.requires.told.2 c.finish.ensures.ended refl
    (λ certify functions turns checks stands named. subst (λ x. Breaks c.in-Err-post.talk (script certify functions (turns ++ Posts path (query c.args.query.now).condition ∷ [])) (l.dialogue x) checks) (sym same)
    (c.in-Err-post.ensures.fault certify functions turns checks stands named)) rose shut

pub returns-clause-moved : goal.returns-clause-moved
returns-clause-moved g c =
    let w = g.W.Spawner in
    let l = g.W.Link.Link in
    let e : Ending = record { lane = c.args.lane; dialogue = l.dialogue c.close.result; faults = l.faults c.close.result } in
    moved_back c.args.lane (hub w.starts w.owed w.ended w.faults w.steady c.args.spawner.now) (hub w.starts w.owed w.ended w.faults w.steady c.finish.new.self) e
    c.finish.ensures.ended refl c.finish.ensures.owed c.finish.ensures.starts c.finish.ensures.faults c.finish.ensures.fixed
