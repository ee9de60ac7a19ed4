use Rattle.std.proofs.Common.{List, [], ◌∷◌, ◌++◌, length, refl, sym, ◌∙◌, ap, subst, arith}
use Rattle.std.proofs.lemmas.Option.{slice_get_within}
use Rattle.cs_certificate.specs.declared.literal.Clause.{Clause}
use Rattle.cs_search.specs.Extended.{IsConflict, AreClosed}
use Rattle.cs_search.proofs.Analyses.{only_at}
use Rattle.cs_search.proofs.Learns.{closed_at_start, forced_free, learned_search, learns_one, learned_over, settled_over, false_over}
use Rattle.cs_search.proofs.Queues.{queued_pushed}
use Rattle.cs_search.proofs.search.learn_conflict.Goals as goal

pub analyse-requires-clause-closed : goal.analyse-requires-clause-closed
analyse-requires-clause-closed c =
    let s = c.args.search.now in
    let P : List Clause → Type 0 = λ x. AreClosed x s.made.values.items c.args.start (length x) in
    subst P (sym c.deref.ensures.value) (closed_at_start s.clauses.items s.made.values.items s.made.trail.items c.args.start c.requires.sound.sound c.requires.decision)

pub analyse-requires-clause-conflict : goal.analyse-requires-clause-conflict
analyse-requires-clause-conflict c =
    let s = c.args.search.now in
    let P : List Clause → Type 0 = λ x. IsConflict x s.made.values.items (length s.made.trail.items) c.args.conflict in
    subst P (sym c.deref.ensures.value) c.requires.conflict

pub settle-cut-requires-clause-within : goal.settle-cut-requires-clause-within
settle-cut-requires-clause-within c =
    let d = c.requires.decision.decision in
    let lt = slice_get_within c.args.search.now.made.trail.items c.args.start d.0 d.1 in
    let e = ap (λ x. length x) c.deref-3.ensures.value in
    omega (arith, lt, e)

pub settle-cut-requires-clause-leaves : goal.settle-cut-requires-clause-leaves
settle-cut-requires-clause-leaves c = only_at _ _ _ _ _ _ _ (sym c.deref-2.ensures.value) (sym c.deref-4.ensures.value) refl c.in_ok-learned.ensures.leaves

pub settle-cut-requires-clause-free : goal.settle-cut-requires-clause-free
settle-cut-requires-clause-free c f =
    let s = c.args.search.now in
    let l = c.in_ok-learned.learned in
    forced_free _ s.made.values.items c.args.start (length s.made.trail.items) l.literals.items l.hints.items l.forced c.in_ok-learned.ensures (false_over _ _ c.args.start l.forced c.deref-2.ensures.value f)

pub back_to-requires-clause-room : goal.back_to-requires-clause-room
back_to-requires-clause-room c =
    let d = c.requires.decision.decision in
    let lt = slice_get_within c.args.search.now.made.trail.items c.args.start d.0 d.1 in
    omega (arith, lt, c.settle-cut.ensures.within)

pub returns-clause-sound : goal.returns-clause-sound
returns-clause-sound c =
    let s = c.args.search.now in
    let b = c.back_to.new.search in
    let l = c.in_ok-learned.learned in
    let learned = learned_over s.clauses.items _ s.made.values.items c.args.start (length s.made.trail.items) l.literals.items l.hints.items l.forced c.deref.ensures.value c.in_ok-learned.ensures in
    let settled = settled_over s.made.values.items _ s.made.trail.items _ l.literals.items _ l.forced c.settle-cut.result c.deref-2.ensures.value c.deref-3.ensures.value c.deref-4.ensures.value c.settle-cut.ensures.settled in
    let clauses = c.in_ok-push.ensures.items ∙ ap (λ x. x.clauses.items ++ record { literals = l.literals } ∷ []) c.back_to.ensures.same in
    record {
      sound = learned_search s.clauses.items _ s.made.values.items b.made.values.items s.made.trail.items b.made.trail.items record { literals = l.literals } c.args.start (length s.made.trail.items) c.settle-cut.result l.hints.items l.forced
          c.requires.sound.sound learned settled c.back_to.ensures.sound c.back_to.ensures.trail c.back_to.ensures.values clauses;
      queued = queued_pushed s.clauses.items _ record { literals = l.literals } b.made.values.items b.made.trail.items b.queue clauses c.back_to.ensures.queued;
    }

pub returns-clause-learns : goal.returns-clause-learns
returns-clause-learns c =
    let s = c.args.search.now in
    let l = c.in_ok-learned.learned in
    let learned = learned_over s.clauses.items _ s.made.values.items c.args.start (length s.made.trail.items) l.literals.items l.hints.items l.forced c.deref.ensures.value c.in_ok-learned.ensures in
    let clauses = c.in_ok-push.ensures.items ∙ ap (λ x. x.clauses.items ++ record { literals = l.literals } ∷ []) c.back_to.ensures.same in
    let steps = c.in_ok-push-2.ensures.items ∙ ap (λ x. x.steps.items ++ record { numbers = l.hints } ∷ []) c.back_to.ensures.same in
    learns_one s.clauses.items _ s.steps.items _ s.made.values.items s.made.trail.items record { literals = l.literals } record { numbers = l.hints } c.args.start (length s.made.trail.items) l.forced
    c.requires.sound.sound c.requires.decision learned clauses steps
