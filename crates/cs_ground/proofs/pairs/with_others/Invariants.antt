use Rattle.std.proofs.Common.{map}
use Rattle.vx_terms.specs.Views.{term}
use Rattle.cs_certificate.specs.Certificate.{Stack, Contains}
use Rattle.cs_derivation.specs.View.{reached}
use Rattle.cs_ground.specs.Steps.{IsNaming, NamesWith, AllIn}
use Rattle.cs_ground.proofs.Naming.{FirstOf}
use Rattle.cs_ground.proofs.pairs.with_others.Given as goal

abbrev pub invariant-loop-b : goal.invariant-loop-b
invariant-loop-b l =
    (stack : Stack) → IsNaming stack (reached l.initial.derivation) → Contains (reached l.initial.derivation).terms (term l.a.value) → AllIn (reached l.initial.derivation).terms (map (λ x. term x.value) l.others) →
    NamesWith stack (reached l.initial.derivation) (reached l.derivation) (term l.a.value) (FirstOf (λ x. term x.value) l.others l.b-index)
