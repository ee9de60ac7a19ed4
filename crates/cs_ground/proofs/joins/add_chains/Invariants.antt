use Rattle.cs_certificate.specs.Certificate.{Stack}
use Rattle.cs_derivation.specs.View.{reached}
use Rattle.cs_ground.specs.Steps.{IsClausal, Collects, OfFirst, IsChainOfOne}
use Rattle.cs_ground.proofs.joins.add_chains.Given as goal

abbrev pub invariant-loop-i : goal.invariant-loop-i
invariant-loop-i l = (stack : Stack) → IsClausal stack (reached l.initial.derivation) → Collects stack (OfFirst (IsChainOfOne l.count) l.i) (reached l.initial.derivation) (reached l.derivation)
