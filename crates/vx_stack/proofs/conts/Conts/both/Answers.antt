use Rattle.std.proofs.Common.{ap₂, sym}
use Rattle.vx_resolved.specs.Settled.{settled}
use Rattle.vx_rules.specs.Trees.{Fork}
use Rattle.vx_stack.specs.Stack.{frame_tree}
use Rattle.vx_stack.proofs.Steps.{stepped_as}
use Rattle.vx_stack.proofs.conts.Conts.both.Goals as goal

pub returns : goal.returns
returns c =
    let p = settled c.args.program.now in
    stepped_as p _ _ _ _ _ (ap₂ (λ a b. Fork (frame_tree p c.args.left a) (frame_tree p c.args.right b)) (sym c.open.ensures) (sym c.open-2.ensures)) c.push_both.ensures
