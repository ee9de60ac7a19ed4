use Rattle.std.proofs.Common.{◌≡◌, List, length, sym, ◌∙◌, subst, ap}
use Rattle.cs_certificate.specs.declared.literal.Literal.{Literal}
use Rattle.cs_search.specs.Learned.{IsJoined}
use Rattle.cs_search.proofs.Passes.{at_index}
use Rattle.cs_search.proofs.Analyses.{conflict_within}
use Rattle.cs_search.proofs.Mets.{conflict_fell, joined_over, met_over, met_hints}
use Rattle.cs_search.proofs.analyse.meet_conflict.Goals as goal

pub meet_all-requires-clause-met : goal.meet_all-requires-clause-met
meet_all-requires-clause-met c = c.in_ok-found.ensures.met c.len.result

pub meet_all-requires-clause-within : goal.meet_all-requires-clause-within
meet_all-requires-clause-within c =
    let clauses = c.args.clauses.now in
    let values = c.args.made.now.values.items in
    let n = length c.args.made.now.trail.items in
    let k = c.index-clauses-conflict.result in
    let at = at_index clauses c.args.conflict k (conflict_within clauses values n c.args.conflict c.requires.conflict) c.index-clauses-conflict.is in
    conflict_fell clauses values n c.len.result c.args.conflict k at c.requires.conflict (c.len.ensures ∙ c.args.made.now.trail.ok.0) _ (c.deref.ensures.value ∙ ap (λ x. x.literals.items) (sym c.index-clauses-conflict.is))

pub returns-clause-met : goal.returns-clause-met
returns-clause-met c = met_over c.args.made.now c.args.start _ _ _ (c.len.ensures ∙ c.args.made.now.trail.ok.0)
    (met_hints c.args.made.now c.args.start c.len.result c.meet_all.new.found c.push.new.self c.in_ok-meet_all.ensures.met)

pub returns-clause-joined : goal.returns-clause-joined
returns-clause-joined c x here =
    let clauses = c.args.clauses.now in
    let values = c.args.made.now.values.items in
    let n = length c.args.made.now.trail.items in
    let k = c.index-clauses-conflict.result in
    let at = at_index clauses c.args.conflict k (conflict_within clauses values n c.args.conflict c.requires.conflict) c.index-clauses-conflict.is in
    let same : k ≡ x = let y = sym at ∙ here in cc in
    let P : List Literal → Type 0 = λ y. IsJoined values y x.literals.items c.meet_all.new.found.met.items in
    subst P c.in_ok-found.ensures.none (joined_over values _ x.literals.items _ _ (c.deref.ensures.value ∙ (ap (λ y. y.literals.items) (sym c.index-clauses-conflict.is) ∙ ap (λ y. y.literals.items) same)) c.in_ok-meet_all.ensures.joined)
