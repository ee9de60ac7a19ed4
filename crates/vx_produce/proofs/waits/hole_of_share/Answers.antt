use Rattle.std.proofs.Common.{◌≡◌, refl}
use Rattle.vx_stack.specs.declared.frame.Hole.TheVariants as holes
use Rattle.vx_stack.specs.declared.waiting.Produced.TheVariants as waits
use Rattle.vx_stack.specs.Stack.{giving, going, produced}
use Rattle.vx_produce.proofs.waits.hole_of_share.Goals as goal

pub returns : goal.returns
returns c = λ p i t s.
    let e : giving p (holes.Produced (waits.Share c.args.place c.in_ok-clone.field-0 c.in_ok-clone-2.field-0 c.in_ok-clone-3.field-0 c.args.is_inner) c.in_ok-clone-4.field-0) t s ≡ produced p (waits.Share c.args.place c.args.field.now c.args.share.now c.args.x.now c.args.is_inner) (going p c.args.next.now.value) t s = rw (c.in_ok-clone.ensures.cases, c.in_ok-clone-2.ensures.cases, c.in_ok-clone-3.ensures.cases, c.in_ok-clone-4.ensures.cases) refl in
    e i
