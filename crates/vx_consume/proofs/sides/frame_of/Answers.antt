use Rattle.std.proofs.Common.{ap, ◌∙◌}
use Rattle.vx_resolved.specs.Resolved.{assertion}
use Rattle.vx_resolved.specs.Settled.{settled}
use Rattle.vx_stack.specs.Stack.{giving, going}
use Rattle.vx_consume.proofs.Trees.{consumes_from}
use Rattle.vx_consume.proofs.sides.frame_of.Goals as goal

pub returns : goal.returns
returns c =
    let p = settled c.args.program.now in
    ap (going p) c.in_ok-new.ensures.ok
    ∙ consumes_from p (assertion c.in_ok-clone.field-0.value) (assertion c.args.a.now.value) c.in_ok-clone-2.field-0.value c.args.x.now.value (giving p c.in_ok-clone-3.field-0.value) (giving p c.args.hole.now.value)
    (ap assertion c.in_ok-clone.ensures.cases) c.in_ok-clone-2.ensures.cases (ap (giving p) c.in_ok-clone-3.ensures.cases)
