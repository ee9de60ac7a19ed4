use Rattle.std.proofs.Common.{◌≡◌, None, Some, refl, sym, ◌∙◌}
use Rattle.std.proofs.lemmas.Option.{slice_get_read}
use Rattle.cs_search.proofs.Analyses.{reason_within}
use Rattle.cs_search.proofs.Settles.{some_at}
use Rattle.cs_search.proofs.Mets.{mark_at, unwound_passed, unwound_on}
use Rattle.cs_search.proofs.analyse.reduce_at.Goals as goal

pub is_met-requires : goal.is_met-requires
is_met-requires c =
    let e = c.index-entry.result.now in
    let at = slice_get_read c.args.made.now.trail.items _ c.args.k e refl c.requires.within c.index-entry.ensures in
    mark_at c.args.clauses.now c.args.made.now _ _ c.args.k e c.args.found.now c.requires.sound at c.requires.unwound.met

pub returns-then-not-is_met : goal.returns-then-not-is_met
returns-then-not-is_met c =
    let e = c.index-entry.result.now in
    let at = slice_get_read c.args.made.now.trail.items _ c.args.k e refl c.requires.within c.index-entry.ensures in
    unwound_passed c.args.clauses.now c.args.made.now c.args.k e c.args.found.now c.requires.sound at (sym c.is_met.ensures ∙ c.if-not-is_met.true) c.requires.unwound

pub unreachable-requires : goal.unreachable-requires
unreachable-requires c =
    let e = c.index-entry.result.now in
    let at = slice_get_read c.args.made.now.trail.items _ c.args.k e refl c.requires.within c.index-entry.ensures in
    let w = c.requires.forced c.args.k e c.requires.within at in
    let x : None ≡ Some w.0 = sym c.in-None.is ∙ w.1 in cc

pub resolve-requires-clause-entry : goal.resolve-requires-clause-entry
resolve-requires-clause-entry c =
    let e = c.index-entry.result.now in
    let at = slice_get_read c.args.made.now.trail.items _ c.args.k e refl c.requires.within c.index-entry.ensures in
    (e, at, c.in-Some.is, sym c.is_met.ensures ∙ c.if-not-is_met.false)

pub returns : goal.returns
returns c =
    let e = c.index-entry.result.now in
    let at = slice_get_read c.args.made.now.trail.items _ c.args.k e refl c.requires.within c.index-entry.ensures in
    let within = reason_within _ _ c.args.made.now.trail.items c.args.k c.in-Some.reason e c.requires.sound at c.in-Some.is in
    let x = some_at c.args.clauses.now c.in-Some.reason within in
    let r = c.in_ok-resolve-in-Some.ensures in
    unwound_on c.args.clauses.now c.args.made.now c.args.k c.in-Some.reason e x.0 c.args.found.now c.resolve.new.found c.requires.sound at c.in-Some.is x.1 c.requires.unwound r.met (r.joined x.0 x.1) r.hints
