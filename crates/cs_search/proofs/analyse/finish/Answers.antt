use Rattle.std.proofs.Common.{◌++◌, ◌∷◌, [], ◌∙◌, ap}
use Rattle.cs_search.specs.Learned.{before}
use Rattle.cs_search.proofs.Mets.{learned_clause}
use Rattle.cs_search.proofs.analyse.finish.Goals as goal

pub returns : goal.returns
returns c =
    let l = c.in_ok-push_all_before.ensures ∙ (ap (λ x. x ++ before c.deref.result.now c.args.start c.deref-2.result.now) (c.in_ok-push.ensures.items ∙ ap (λ x. x ++ c.args.forced ∷ []) c.new-literals.ensures.items) ∙
    (ap (λ x. c.args.forced ∷ before x c.args.start c.deref-2.result.now) c.deref.ensures.value ∙ ap (λ x. c.args.forced ∷ before c.args.made.now.values.items c.args.start x) c.deref-2.ensures.value)) in
    learned_clause c.args.clauses.now c.args.made.now c.args.start c.args.k c.args.found c.args.forced _ c.requires.above c.requires.forcing l
