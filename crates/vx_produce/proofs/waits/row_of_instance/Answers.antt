use Rattle.std.proofs.Common.{◌≡◌, refl}
use Rattle.vx_stack.specs.declared.frame.Row.TheVariants as rows
use Rattle.vx_stack.specs.Stack.{giving_all}
use Rattle.vx_produce.proofs.waits.row_of_instance.Goals as goal

pub returns : goal.returns
returns c = λ p i ts s.
    let e : giving_all p (rows.Produce c.args.place c.in_ok-clone.field-0 c.in_ok-clone-2.field-0 c.in_ok-clone-3.field-0 c.args.is_inner c.in_ok-clone-4.field-0) ts s ≡ giving_all p (rows.Produce c.args.place c.args.predicate.now c.args.share.now c.args.x.now c.args.is_inner c.args.next.now) ts s = rw (c.in_ok-clone.ensures.cases, c.in_ok-clone-2.ensures.cases, c.in_ok-clone-3.ensures.cases, c.in_ok-clone-4.ensures.cases) refl in
    e i
