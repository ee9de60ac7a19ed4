use Rattle.cs_certificate.specs.Certificate.{Stack}
use Rattle.cs_derivation.specs.View.{reached}
use Rattle.cs_ground.specs.Steps.{IsClausal, Collects, OfFirst, IsChainOfTwo}
use Rattle.cs_ground.proofs.joins.add_chains_of_one.Given as goal

abbrev pub invariant-loop-j : goal.invariant-loop-j
invariant-loop-j l = (stack : Stack) → IsClausal stack (reached l.initial.derivation) → Collects stack (OfFirst (IsChainOfTwo l.count l.i) l.j) (reached l.initial.derivation) (reached l.derivation)
