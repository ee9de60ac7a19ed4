use Rattle.std.proofs.Common.{sym, ap}
use Rattle.vx_rules.specs.Trees.{Ask}
use Rattle.vx_states.specs.SymStates.{state}
use Rattle.vx_stack.specs.Stack.{going, query}
use Rattle.vx_stack.proofs.Steps.{checked_ask}
use Rattle.vx_stack.proofs.conts.Conts.check_impossible.Goals as goal

pub returns : goal.returns
returns c = λ p. checked_ask p c.args.query _ _ _ _ c.requires c.in_ok-push.ensures (ap (λ n. Ask (query c.args.query) (going p n (state c.args.state))) (sym c.in_ok-impossible.ensures.ok))
