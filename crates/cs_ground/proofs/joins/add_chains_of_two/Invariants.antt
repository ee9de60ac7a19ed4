use Rattle.cs_certificate.specs.Certificate.{Stack}
use Rattle.cs_derivation.specs.View.{reached}
use Rattle.cs_ground.specs.Steps.{IsClausal, Collects, OfFirst, IsChainOf}
use Rattle.cs_ground.proofs.joins.add_chains_of_two.Given as goal

abbrev pub invariant-loop-k : goal.invariant-loop-k
invariant-loop-k l = (stack : Stack) → IsClausal stack (reached l.initial.derivation) → Collects stack (OfFirst (IsChainOf l.i l.j) l.k) (reached l.initial.derivation) (reached l.derivation)
