use Rattle.std.proofs.Common.{refl}
use Rattle.vx_exec.proofs.Forms.{gives_as}
use Rattle.vx_exec.proofs.waits.hole_of_unfold.Goals as goal

pub returns : goal.returns
returns c = λ p. gives_as p _ _ _ (rw (c.in_ok-clone.ensures.cases, c.in_ok-clone-2.ensures.cases) refl) (c.hole_of.ensures p)
