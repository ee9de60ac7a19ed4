use Rattle.cs_derivation.specs.View.{reached}
use Rattle.cs_opposites.proofs.Gained.{has_none}
use Rattle.cs_opposites.proofs.steps.begun.Goals as goal

pub returns-in-Ok : goal.returns-in-Ok
returns-in-Ok c = λ stack is sorted. has_none stack (reached c.in-Ok.derivation) (c.in-Ok.ensures stack is sorted)
