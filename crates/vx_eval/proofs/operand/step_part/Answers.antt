use Rattle.std.proofs.Common.{ap, sym}
use Rattle.vx_resolved.specs.Resolved.{expr}
use Rattle.vx_resolved.specs.Settled.{settled}
use Rattle.vx_rules.specs.Members.{rules}
use Rattle.vx_rules.specs.Rules.{eval}
use Rattle.vx_rules.specs.Trees.{Step}
use Rattle.vx_states.specs.SymStates.{state}
use Rattle.vx_stack.specs.declared.frame.Hole.{Hole}
use Rattle.vx_stack.specs.Stack.{giving, operand}
use Rattle.vx_stack.proofs.Steps.{stepped_as}
use Rattle.vx_eval.proofs.operand.step_part.Goals as goal

pub returns : goal.returns
returns c =
    let p = settled c.args.program.now in
    let s = state c.args.state in
    stepped_as p _ _ _ _ _
    (sym (ap (λ (y : Hole). Step (eval p (rules p) (expr c.args.e.now.value) s (operand p c.args.operand (giving p y)))) c.in_ok-clone.ensures.cases)) c.eval.ensures
