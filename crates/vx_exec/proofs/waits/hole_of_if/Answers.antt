use Rattle.std.proofs.Common.{refl, ap}
use Rattle.vx_resolved.specs.Resolved.{block}
use Rattle.vx_stack.specs.Stack.{going}
use Rattle.vx_exec.proofs.Branches.{branches}
use Rattle.vx_exec.proofs.Forms.{gives_as}
use Rattle.vx_exec.proofs.waits.hole_of_if.Goals as goal

pub returns : goal.returns
returns c = λ p.
    let on = going p c.args.next.now.value in
    gives_as p _ _ _
    (branches p _ _ (block c.args.a.now.value) (block c.args.b.now.value) c.args.kept c.args.kept on on (ap block c.in_ok-clone.ensures.cases) (ap block c.in_ok-clone-2.ensures.cases) refl refl)
    (c.hole_of.ensures p)
