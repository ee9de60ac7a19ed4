use Rattle.std.proofs.Common.{ap, ◌∙◌}
use Rattle.vx_states.specs.declared.entering.Caller.{Caller}
use Rattle.vx_states.specs.Entering.{back_to}
use Rattle.vx_stack.specs.declared.waiting.Called.{Called}
use Rattle.vx_members.proofs.calls.called_from.Goals as goal

pub returns-clause-caller : goal.returns-clause-caller
returns-clause-caller c =
    λ s. ap (λ (y : Called). back_to y.caller.value s) c.in_ok-new.ensures.ok ∙ ap (λ (y : Caller). back_to y s) c.in_ok-caller-2.ensures.ok ∙ c.in_ok-caller.ensures s
