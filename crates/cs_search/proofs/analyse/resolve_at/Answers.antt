use Rattle.std.proofs.Common.{◌+◌, refl, sym, ◌∙◌, subst}
use Rattle.std.proofs.lemmas.Option.{slice_get_read}
use Rattle.cs_certificate.specs.declared.literal.Literal.{Literal}
use Rattle.cs_search.specs.Learned.{IsForcing}
use Rattle.cs_search.proofs.Analyses.{reason_within, no_decision}
use Rattle.cs_search.proofs.Settles.{some_at}
use Rattle.cs_search.proofs.Mets.{mark_at, walked_passed, walked_alone, not_alone, walked_on}
use Rattle.cs_search.proofs.analyse.resolve_at.Goals as goal

pub is_met-requires : goal.is_met-requires
is_met-requires c =
    let e = c.index-entry.result.now in
    let at = slice_get_read c.args.made.now.trail.items _ c.args.k e refl c.requires.within c.index-entry.ensures in
    mark_at c.args.clauses.now c.args.made.now _ _ c.args.k e c.args.found.now c.requires.sound at c.requires.walked.met

pub returns-then-not-is_met-clause-on : goal.returns-then-not-is_met-clause-on
returns-then-not-is_met-clause-on c =
    let e = c.index-entry.result.now in
    let at = slice_get_read c.args.made.now.trail.items _ c.args.k e refl c.requires.within c.index-entry.ensures in
    walked_passed c.args.clauses.now c.args.made.now c.args.start c.args.k e c.args.found.now c.requires.sound at (sym c.is_met.ensures ∙ c.if-not-is_met.true) c.requires.walked

pub returns-then-found-eq1-clause-learned : goal.returns-then-found-eq1-clause-learned
returns-then-found-eq1-clause-learned c =
    let e = c.index-entry.result.now in
    let at = slice_get_read c.args.made.now.trail.items _ c.args.k e refl c.requires.within c.index-entry.ensures in
    let P : Literal → Type 0 = λ l. IsForcing c.args.clauses.now c.args.made.now c.args.start (c.args.k + 1) c.args.found.now l in
    subst P (sym c.negate.ensures) (walked_alone c.args.clauses.now c.args.made.now c.args.start c.args.k e c.args.found.now c.requires.sound c.requires.above at (sym c.is_met.ensures ∙ c.if-not-is_met.false) c.if-found-eq1.true c.requires.walked)

pub resolve-requires-clause-entry : goal.resolve-requires-clause-entry
resolve-requires-clause-entry c =
    let e = c.index-entry.result.now in
    let at = slice_get_read c.args.made.now.trail.items _ c.args.k e refl c.requires.within c.index-entry.ensures in
    (e, at, c.in-Some.is, sym c.is_met.ensures ∙ c.if-not-is_met.false)

pub returns-in-None-clause-on : goal.returns-in-None-clause-on
returns-in-None-clause-on c =
    let e = c.index-entry.result.now in
    let at = slice_get_read c.args.made.now.trail.items _ c.args.k e refl c.requires.within c.index-entry.ensures in
    let many = not_alone c.args.clauses.now c.args.made.now c.args.start c.args.k e c.args.found.now c.requires.sound c.requires.above at (sym c.is_met.ensures ∙ c.if-not-is_met.false) c.if-found-eq1.false c.requires.walked.met in
    absurd (no_decision _ _ c.args.made.now.trail.items c.args.start c.args.k e _ _ c.requires.sound c.requires.decision c.requires.above at c.in-None.is c.requires.walked.resolved many)

pub returns-in_ok-resolve-in-Some-clause-on : goal.returns-in_ok-resolve-in-Some-clause-on
returns-in_ok-resolve-in-Some-clause-on c =
    let e = c.index-entry.result.now in
    let at = slice_get_read c.args.made.now.trail.items _ c.args.k e refl c.requires.within c.index-entry.ensures in
    let within = reason_within _ _ c.args.made.now.trail.items c.args.k c.in-Some.reason e c.requires.sound at c.in-Some.is in
    let x = some_at c.args.clauses.now c.in-Some.reason within in
    let r = c.in_ok-resolve-in-Some.ensures in
    walked_on c.args.clauses.now c.args.made.now c.args.start c.args.k c.in-Some.reason e x.0 c.args.found.now c.resolve.new.found c.requires.sound c.requires.above at c.in-Some.is x.1
    (sym c.is_met.ensures ∙ c.if-not-is_met.false) c.if-found-eq1.false c.requires.walked r.met (r.joined x.0 x.1) r.hints
