use Rattle.cs_model.specs.Models.{interpretation}
use Rattle.cs_model.proofs.Leaving.{passed_on, by_one}
use Rattle.cs_model.proofs.valuing.is_model.Goals as goal

pub returns-in_err-evaluate-clause-over : goal.returns-in_err-evaluate-clause-over
returns-in_err-evaluate-clause-over c =
    let i = interpretation c.args.model.now.entries.items in
    let one = by_one i c.args.assertions.now c.loop-assertion.assertion-index c.assertion-item.result c.deref.result.now c.loop-assertion-test.true c.assertion-item.is c.deref.ensures in
    passed_on c.from_residual.result c.in_err-evaluate.field-0.0 _ c.from_residual.ensures.1 (one c.in_err-evaluate.field-0.0 c.in_err-evaluate.ensures.over)
