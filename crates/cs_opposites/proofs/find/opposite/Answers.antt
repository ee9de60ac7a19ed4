use Rattle.std.proofs.Common.{ap, subst}
use Rattle.vx_terms.specs.Views.{term}
use Rattle.cs_certificate.specs.Certificate.{At}
use Rattle.cs_opposites.specs.Found.{IsPlaced}
use Rattle.cs_opposites.proofs.Entered.{unopposed}
use Rattle.cs_opposites.proofs.find.opposite.Goals as goal

pub returns-in-Some : goal.returns-in-Some
returns-in-Some c = λ ts h at.
    let x = term c.in-Not.part.value in
    (x, subst (IsPlaced ts x) c.in-Some.is (c.in_ok-other-in-Not.ensures ts h), subst (λ t. At ts c.args.place (term t)) c.in-Not.is at)

pub returns-in-None : goal.returns-in-None
returns-in-None c = λ ts h at.
    let x = term c.in-Not.part.value in
    unopposed ts (term c.args.t.now) x (ap term c.in-Not.is) (subst (IsPlaced ts x) c.in-None.is (c.in_ok-other-in-Not.ensures ts h))
