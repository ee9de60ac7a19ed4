use Rattle.std.proofs.Common.{map}
use Rattle.vx_terms.specs.Views.{term}
use Rattle.cs_certificate.specs.Certificate.{Stack}
use Rattle.cs_derivation.specs.View.{reached}
use Rattle.cs_ground.specs.Steps.{IsNaming, NamesAliases, AllIn}
use Rattle.cs_ground.proofs.Naming.{FirstOf}
use Rattle.cs_ground.proofs.aliases.with_aliases.Given as goal

abbrev pub invariant-loop-t : goal.invariant-loop-t
invariant-loop-t l =
    (stack : Stack) → IsNaming stack (reached l.initial.derivation) → AllIn (reached l.initial.derivation).terms (map (λ x. term x.value) l.terms) →
    NamesAliases stack (reached l.initial.derivation) (reached l.derivation) l.aliases.items (FirstOf (λ x. term x.value) l.terms l.t-index)
