use Rattle.std.proofs.Common.{ap, ◌∙◌}
use Rattle.vx_heap.specs.Views.{heap}
use Rattle.vx_rules.specs.States.{with_heap}
use Rattle.vx_states.specs.SymStates.{state}
use Rattle.vx_consume.proofs.waits.in_heap.Goals as goal

pub returns : goal.returns
returns c = c.exchange_heap-before.ensures.after ∙ ap (λ h. with_heap (heap h) (state c.args.state)) c.in_ok-clone.ensures.cases
