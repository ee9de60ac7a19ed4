use Rattle.cs_certificate.specs.Certificate.{Stack}
use Rattle.cs_derivation.specs.View.{reached}
use Rattle.cs_ground.specs.Steps.{IsClausal, Collects, OfFirst}
use Rattle.cs_ground.proofs.Collected.{AliasAt}
use Rattle.cs_ground.proofs.joins.add_aliases.Given as goal

abbrev pub invariant-loop-alias : goal.invariant-loop-alias
invariant-loop-alias l = (stack : Stack) → IsClausal stack (reached l.initial.derivation) → Collects stack (OfFirst (AliasAt l.aliases) l.alias-index) (reached l.initial.derivation) (reached l.derivation)
