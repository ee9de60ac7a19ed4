use Rattle.std.proofs.Common.{ap, ◌∙◌}
use Rattle.vx_stack.specs.Stack.{frame_tree}
use Rattle.vx_states.specs.SymStates.{state}
use Rattle.vx_stack.proofs.frame.Side.copy.Goals as goal

pub returns : goal.returns
returns c p = ap (λ f. f (state c.in_ok-copy-2.field-0)) (c.in_ok-copy.ensures p) ∙ ap (frame_tree p c.args.self.now.frame) c.in_ok-copy-2.ensures
