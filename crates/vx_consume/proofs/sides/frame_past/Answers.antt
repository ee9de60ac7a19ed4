use Rattle.std.proofs.Common.{ap, ◌∙◌}
use Rattle.vx_resolved.specs.Settled.{settled}
use Rattle.vx_stack.specs.declared.frame.Hole.{Hole}
use Rattle.vx_terms.specs.Build.{unit}
use Rattle.vx_terms.specs.Terms.{Term}
use Rattle.vx_rules.specs.Rules.{Going}
use Rattle.vx_stack.specs.Stack.{giving}
use Rattle.vx_consume.proofs.sides.frame_past.Goals as goal

pub returns : goal.returns
returns c =
    let p = settled c.args.program.now in
    ap {B = Going} (λ (t : Term). giving p c.in_ok-clone.field-0.value t) c.in_ok-unit.ensures ∙ ap {B = Going} (λ (h : Hole). giving p h unit) c.in_ok-clone.ensures.cases
