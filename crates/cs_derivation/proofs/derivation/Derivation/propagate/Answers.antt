use Rattle.std.proofs.Common.{ap₂, map, Some, subst}
use Rattle.vx_terms.specs.Interpretations.{Each}
use Rattle.cs_certificate.specs.Certificate.{Propagate}
use Rattle.cs_writable.specs.Writable.{IsSmallLiteral}
use Rattle.cs_derivation.specs.Taken.{numbered}
use Rattle.cs_derivation.proofs.Small.{all_small}
use Rattle.cs_derivation.proofs.derivation.Derivation.propagate.Goals as goal

pub returns : goal.returns
returns c = λ stack stands.
    let literals = subst (Each IsSmallLiteral) c.in_ok-clause.ensures.value c.in_ok-clause.ensures.small in
    let hints = all_small c.args.hints.now c.type_inv.hints in
    c.take.ensures stack (Propagate (map numbered c.args.literals.now) c.args.hints.now) (ap₂ (λ ls hs. Some (Propagate ls hs)) c.in_ok-clause.ensures.value c.in_ok-hints.ensures) (literals, hints) stands
