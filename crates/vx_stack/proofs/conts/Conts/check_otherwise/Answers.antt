use Rattle.std.proofs.Common.{sym, ap}
use Rattle.vx_rules.specs.Trees.{Probe}
use Rattle.vx_stack.specs.Stack.{side_tree, query}
use Rattle.vx_stack.proofs.Steps.{stepped_as}
use Rattle.vx_stack.proofs.conts.Conts.check_otherwise.Goals as goal

pub returns : goal.returns
returns c = λ p.
    stepped_as p c.check_both.result _ _ _ c.check_both.new.self.sides.items
    (ap (λ t. Probe (query c.args.query) t (side_tree p c.args.otherwise)) (sym (c.in_ok-refuted.ensures p)))
    (c.check_both.ensures p)
