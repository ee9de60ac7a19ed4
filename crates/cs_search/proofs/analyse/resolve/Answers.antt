use Rattle.std.proofs.Common.{rules, ◌≡◌, ◌<◌, length, sym, ◌∙◌, ap}
use Rattle.cs_search.proofs.Passes.{at_index}
use Rattle.cs_search.proofs.Analyses.{reason_within}
use Rattle.cs_search.proofs.Mets.{reason_false, joined_over}
use Rattle.cs_search.proofs.analyse.resolve.Goals as goal

pub offset_bounds-clauses-reason : goal.offset_bounds-clauses-reason
offset_bounds-clauses-reason c =
    let e = c.requires.entry in
    let within : c.args.reason < length c.args.clauses.now = reason_within _ _ c.args.made.now.trail.items c.args.k c.args.reason e.0 c.requires.sound e.1 e.2 in
    search rules

pub bounds-clauses-reason : goal.bounds-clauses-reason
bounds-clauses-reason c =
    let e = c.requires.entry in
    reason_within _ _ c.args.made.now.trail.items c.args.k c.args.reason e.0 c.requires.sound e.1 e.2

pub meet_all-requires-clause-within : goal.meet_all-requires-clause-within
meet_all-requires-clause-within c =
    let e = c.requires.entry in
    let k = c.index-clauses-reason.result in
    let within = reason_within _ _ c.args.made.now.trail.items c.args.k c.args.reason e.0 c.requires.sound e.1 e.2 in
    let here = at_index c.args.clauses.now c.args.reason k within c.index-clauses-reason.is in
    reason_false c.args.clauses.now c.args.made.now.values.items c.args.made.now.trail.items c.args.k c.args.reason e.0 k c.requires.sound e.1 e.2 here _ (c.deref.ensures.value ∙ ap (λ x. x.literals.items) (sym c.index-clauses-reason.is))

pub returns-clause-joined : goal.returns-clause-joined
returns-clause-joined c x here =
    let e = c.requires.entry in
    let k = c.index-clauses-reason.result in
    let within = reason_within _ _ c.args.made.now.trail.items c.args.k c.args.reason e.0 c.requires.sound e.1 e.2 in
    let at = at_index c.args.clauses.now c.args.reason k within c.index-clauses-reason.is in
    let same : k ≡ x = let y = sym at ∙ here in cc in
    joined_over c.args.made.now.values.items _ x.literals.items _ _ (c.deref.ensures.value ∙ (ap (λ y. y.literals.items) (sym c.index-clauses-reason.is) ∙ ap (λ y. y.literals.items) same)) c.in_ok-meet_all.ensures.joined
