use Rattle.cs_certificate.specs.Certificate.{Stack}
use Rattle.cs_derivation.specs.View.{reached}
use Rattle.cs_ground.specs.Steps.{IsClausal, Collects, OfFirst, IsInputOf}
use Rattle.cs_ground.proofs.clauses.add_inputs.Given as goal

abbrev pub invariant-loop-number : goal.invariant-loop-number
invariant-loop-number l = (stack : Stack) → IsClausal stack (reached l.initial.derivation) → Collects stack (OfFirst IsInputOf l.number) (reached l.initial.derivation) (reached l.derivation)
