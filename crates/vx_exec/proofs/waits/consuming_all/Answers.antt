use Rattle.std.proofs.Common.{ap}
use Rattle.vx_resolved.specs.Resolved.{assertion}
use Rattle.vx_heap.specs.Views.{held_term}
use Rattle.vx_terms.specs.Build.{whole_amount}
use Rattle.vx_stack.specs.Stack.{context, giving}
use Rattle.vx_stack.proofs.Steps.{consumes}
use Rattle.vx_exec.proofs.waits.consuming_all.Goals as goal

pub returns : goal.returns
returns c = λ p.
    consumes p (assertion c.in_ok-clone.field-0.value) (assertion c.args.a.now.value) (context c.args.codes) (held_term c.in_ok-whole.whole) whole_amount (giving p c.in_ok-hole.hole.value) (giving p c.args.hole)
    (ap assertion c.in_ok-clone.ensures.cases) c.in_ok-whole.ensures (ap (giving p) c.in_ok-hole.ensures.ok)
