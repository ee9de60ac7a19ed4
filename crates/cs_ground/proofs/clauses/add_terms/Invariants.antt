use Rattle.cs_certificate.specs.Certificate.{Stack}
use Rattle.cs_derivation.specs.View.{reached}
use Rattle.cs_ground.specs.Steps.{IsClausal, Collects, OfFirst, IsOf}
use Rattle.cs_ground.proofs.clauses.add_terms.Given as goal

abbrev pub invariant-loop-t : goal.invariant-loop-t
invariant-loop-t l = (stack : Stack) → IsClausal stack (reached l.initial.derivation) → Collects stack (OfFirst IsOf l.t) (reached l.initial.derivation) (reached l.derivation)
