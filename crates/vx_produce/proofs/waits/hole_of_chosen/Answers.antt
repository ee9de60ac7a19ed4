use Rattle.std.proofs.Common.{◌≡◌, refl}
use Rattle.vx_stack.specs.declared.frame.Hole.TheVariants as holes
use Rattle.vx_stack.specs.declared.waiting.Produced.TheVariants as waits
use Rattle.vx_stack.specs.Stack.{giving, going, produced}
use Rattle.vx_produce.proofs.waits.hole_of_chosen.Goals as goal

pub returns : goal.returns
returns c = λ p i t s.
    let e : giving p (holes.Produced (waits.Chosen c.in_ok-clone.field-0 c.in_ok-clone-2.field-0 c.in_ok-clone-3.field-0) c.in_ok-clone-4.field-0) t s ≡ produced p (waits.Chosen c.args.first.now c.args.second.now c.args.x.now) (going p c.args.next.now.value) t s = rw (c.in_ok-clone.ensures.cases, c.in_ok-clone-2.ensures.cases, c.in_ok-clone-3.ensures.cases, c.in_ok-clone-4.ensures.cases) refl in
    e i
