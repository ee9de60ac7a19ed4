use Rattle.std.proofs.Common.{ap, ◌∙◌}
use Rattle.vx_rules.specs.Trees.{Impossible}
use Rattle.vx_states.specs.SymStates.{state}
use Rattle.vx_stack.specs.Stack.{going}
use Rattle.vx_stack.proofs.conts.impossible.Goals as goal

pub returns : goal.returns
returns c = λ p. ap (λ n. going p n (state c.in_ok-state.state)) c.in_ok-next.ensures.ok ∙ ap Impossible c.in_ok-state.ensures
