use Rattle.std.proofs.Common.{map}
use Rattle.vx_terms.specs.Views.{term}
use Rattle.cs_certificate.specs.Certificate.{Stack}
use Rattle.cs_derivation.specs.View.{reached}
use Rattle.cs_ground.specs.Steps.{IsNaming, AllIn}
use Rattle.cs_ground.proofs.Naming.{NamesUpTo}
use Rattle.cs_ground.proofs.pairs.with_pairs.Given as goal

abbrev pub invariant-loop-at : goal.invariant-loop-at
invariant-loop-at l =
    (stack : Stack) → IsNaming stack (reached l.initial.derivation) → AllIn (reached l.initial.derivation).terms (map (λ x. term x.value) l.terms) →
    NamesUpTo stack (reached l.initial.derivation) (reached l.derivation) (map (λ x. term x.value) l.terms) l.at
