use Rattle.std.proofs.Common.{string_bytes, ap, ◌∙◌}
use Rattle.vx_stack.specs.Stack.{context, giving}
use Rattle.vx_consume.proofs.Trees.{wraps}
use Rattle.vx_consume.proofs.waits.hole_of_wrap.Goals as goal

pub returns : goal.returns
returns c = λ p.
    ap (giving p) c.in_ok-new.ensures.ok
    ∙ wraps p (string_bytes c.in_ok-clone.field-0.value) (string_bytes c.args.field.now.value) (context c.args.codes) (giving p c.in_ok-clone-2.field-0.value) (giving p c.args.hole.now.value)
    (ap string_bytes c.in_ok-clone.ensures.cases) (ap (giving p) c.in_ok-clone-2.ensures.cases)
