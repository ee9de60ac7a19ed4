use Rattle.cs_certificate.specs.Certificate.{Stack}
use Rattle.cs_derivation.specs.View.{reached}
use Rattle.cs_ground.proofs.Collected.{Row}
use Rattle.cs_ground.specs.Steps.{IsClausal, Collects, OfFirst}
use Rattle.cs_ground.proofs.clauses.add_rows.Given as goal

abbrev pub invariant-loop-row : goal.invariant-loop-row
invariant-loop-row l = (stack : Stack) → IsClausal stack (reached l.initial.derivation) → Collects stack (OfFirst (Row l.t) l.row) (reached l.initial.derivation) (reached l.derivation)
