use Rattle.std.proofs.Common.{refl, ◌∙◌, ap, arith}
use Rattle.std.proofs.lemmas.Option.{slice_get_read}
use Rattle.cs_search.specs.Learned.{is_mark}
use Rattle.cs_search.proofs.Mets.{met_more, joined_new, counted_early, counted_late, mark_within, late_fits}
use Rattle.cs_search.proofs.analyse.meet_false.Goals as goal

pub returns-then-place-start-clause-met : goal.returns-then-place-start-clause-met
returns-then-place-start-clause-met c =
    let made = c.args.made.now in
    let old = c.args.found.now in
    let r = c.requires in
    met_more c.args.clauses.now made c.args.start c.args.k c.args.place c.args.literal old _ r.sound r.met r.fell (mark_within made c.args.start c.args.k c.args.literal c.args.place old r.met r.fell)
    c.in_ok-push.ensures.items refl (counted_early c.args.clauses.now made c.args.start c.args.k c.args.place c.args.literal old r.sound r.met r.fell c.if-place-start.true)

pub returns-then-place-start-clause-joined : goal.returns-then-place-start-clause-joined
returns-then-place-start-clause-joined c = joined_new c.args.made.now.values.items _ _ c.args.literal (c.args.place, c.requires.fell) c.in_ok-push.ensures.items

pub overflow_add-found : goal.overflow_add-found
overflow_add-found c =
    let made = c.args.made.now in
    let old = c.args.found.now in
    let r = c.requires in
    let within = mark_within made c.args.start c.args.k c.args.literal c.args.place old r.met r.fell in
    let off = ap is_mark (slice_get_read old.marks.items _ c.args.literal.number c.index.result.now refl within c.index.ensures) ∙ c.if-index.false in
    let e = counted_late c.args.clauses.now made c.args.start c.args.k c.args.place c.args.literal old r.sound r.met r.fell r.within c.if-place-start.false within off in
    let lt = late_fits made c.args.start c.args.k old.late _ e in
    let fits = c.ranges.k.fits in
    omega (arith, lt, fits)

pub returns-clause-met : goal.returns-clause-met
returns-clause-met c =
    let made = c.args.made.now in
    let old = c.args.found.now in
    let r = c.requires in
    let within = mark_within made c.args.start c.args.k c.args.literal c.args.place old r.met r.fell in
    let off = ap is_mark (slice_get_read old.marks.items _ c.args.literal.number c.index.result.now refl within c.index.ensures) ∙ c.if-index.false in
    let e = counted_late c.args.clauses.now made c.args.start c.args.k c.args.place c.args.literal old r.sound r.met r.fell r.within c.if-place-start.false within off in
    met_more c.args.clauses.now made c.args.start c.args.k c.args.place c.args.literal old _ r.sound r.met r.fell within c.in_ok-push.ensures.items refl (omega (arith, e))

pub returns-clause-joined : goal.returns-clause-joined
returns-clause-joined c = joined_new c.args.made.now.values.items _ _ c.args.literal (c.args.place, c.requires.fell) c.in_ok-push.ensures.items
