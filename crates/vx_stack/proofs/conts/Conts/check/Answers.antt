use Rattle.std.proofs.Common.{sym, ap}
use Rattle.vx_rules.specs.Trees.{Ask}
use Rattle.vx_stack.specs.Stack.{frame_tree, query}
use Rattle.vx_stack.proofs.Steps.{checked_ask}
use Rattle.vx_stack.proofs.conts.Conts.check.Goals as goal

pub returns : goal.returns
returns c = λ p. checked_ask p c.args.query _ _ _ _ c.requires c.in_ok-push.ensures (ap (λ x. Ask (query c.args.query) (frame_tree p c.args.frame x)) (sym c.in_ok-add_fact.ensures))
