use Rattle.std.proofs.Common.{sym, ◌∙◌, ap}
use Rattle.std.specs.List.{slice_get}
use Rattle.cs_search.proofs.Settles.{take_kept}
use Rattle.cs_search.proofs.add.back_to_base.Goals as goal

pub returns-clause-forced : goal.returns-clause-forced
returns-clause-forced c j e at =
    let trail = c.args.search.now.made.trail.items in
    let w = take_kept trail c.base_of-base.result j e (ap (λ x. slice_get x j) (sym c.back_to.ensures.trail) ∙ at) in
    c.base_of-base.ensures.forced j e w.1 (ap (λ x. slice_get x j) c.deref.ensures.value ∙ w.0)
