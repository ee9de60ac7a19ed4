use Rattle.vx_heap.specs.Views.{held_term}
use Rattle.vx_terms.specs.Terms.{Truth}
use Rattle.vx_eval.proofs.Given.{gives}
use Rattle.vx_eval.proofs.waits.truth.Goals as goal

pub returns : goal.returns
returns c = λ p.
    gives p c.args.hole.now.value c.in_ok-clone.field-0.value (held_term c.in_ok-value.value) (Truth c.args.b) c.in_ok-clone.ensures.cases c.in_ok-value.ensures
