use Rattle.std.proofs.Common.{[], ◌∷◌, ◌++◌, length, refl, ◌∙◌, ap}
use Rattle.cs_search.proofs.Learns.{pushed_search, closed_over}
use Rattle.cs_search.proofs.Tops.{forces_there}
use Rattle.cs_search.proofs.Queues.{queued_pushed}
use Rattle.cs_search.proofs.learn.teach.Goals as goal

pub returns-clause-sound : goal.returns-clause-sound
returns-clause-sound c =
    let s = c.args.search.now in
    let b = c.back_to.new.search in
    let values = s.made.values.items in
    let trail = s.made.trail.items in
    let closed = closed_over values values trail trail c.args.clause.literals.items _ c.cut_for-cut.result refl refl c.deref.ensures.value c.cut_for-cut.ensures.closed in
    let clauses = c.in_ok-push.ensures.items ∙ ap (λ x. x.clauses.items ++ c.args.clause ∷ []) c.back_to.ensures.same in
    record {
      sound = pushed_search s.clauses.items _ values b.made.values.items trail b.made.trail.items c.args.clause (length trail) c.cut_for-cut.result c.requires.sound.sound c.requires.all_false closed c.back_to.ensures.sound c.back_to.ensures.trail c.back_to.ensures.values clauses;
      queued = queued_pushed s.clauses.items _ c.args.clause b.made.values.items b.made.trail.items b.queue clauses c.back_to.ensures.queued;
    }

pub returns-clause-forces : goal.returns-clause-forces
returns-clause-forces c =
    let s = c.args.search.now in
    let values = s.made.values.items in
    let trail = s.made.trail.items in
    forces_there s.clauses.items values c.back_to.new.search.made.values.items values trail c.back_to.new.search.made.trail.items trail c.args.clause.literals.items _ c.cut_for-cut.result c.requires.sound.sound.sound
    c.back_to.ensures.sound c.back_to.ensures.trail c.cut_for-cut.ensures.within c.requires.all_false c.deref.ensures.value c.cut_for-cut.ensures.forces
