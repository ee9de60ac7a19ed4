use Rattle.std.proofs.Common.{◌≡◌, refl}
use Rattle.vx_stack.specs.declared.frame.Hole.TheVariants as holes
use Rattle.vx_stack.specs.declared.waiting.Produced.TheVariants as waits
use Rattle.vx_stack.specs.Stack.{giving, going, produced}
use Rattle.vx_produce.proofs.waits.hole_of_fact.Goals as goal

pub returns : goal.returns
returns c = λ p i t s.
    let e : giving p (holes.Produced (waits.Fact c.in_ok-copy_optional.field-0) c.in_ok-clone.field-0) t s ≡ produced p (waits.Fact c.args.x.now.snapshot) (going p c.args.next.now.value) t s = rw (c.in_ok-copy_optional.ensures, c.in_ok-clone.ensures.cases) refl in
    e i
