use Rattle.std.proofs.Common.{ap, ◌∙◌}
use Rattle.vx_states.specs.Entering.{back_to}
use Rattle.vx_funcs.proofs.measure.go_inside.Goals as goal

pub returns-clause-caller : goal.returns-clause-caller
returns-clause-caller c = λ w. ap (λ y. back_to y w) c.in_ok-caller-2.ensures.ok ∙ c.in_ok-caller.ensures w
