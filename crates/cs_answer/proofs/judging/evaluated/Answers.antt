use Rattle.std.proofs.Common.{map, subst, sym}
use Rattle.vx_terms.specs.Interpretations.{AllTrue}
use Rattle.vx_terms.specs.Views.{term}
use Rattle.cs_model.specs.Models.{interpretation}
use Rattle.cs_answer.proofs.judging.evaluated.Goals as goal

pub returns-in-Ok-false-clause-told : goal.returns-in-Ok-false-clause-told
returns-in-Ok-false-clause-told c =
    let is = rw c.in-Ok-false.field-0-is at c.in-Ok-false.ensures.value in
    c.unmodelled.ensures.told c.args.model (
    λ holds.
    let true_too = is.1 (subst (λ ts. AllTrue (interpretation c.args.model.entries.items) (map (λ x. term x.value) ts)) (sym c.deref.ensures.value) holds) in cc)
