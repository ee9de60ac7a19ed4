use Rattle.std.proofs.Common.{sym, ◌∙◌, ap, subst}
use Rattle.vx_terms.specs.Views.{term}
use Rattle.cs_numbers.specs.Listed.{terms_in}
use Rattle.cs_numbers.specs.Numbering.{place}
use Rattle.cs_opposites.specs.Found.{IsPlaced}
use Rattle.cs_opposites.proofs.Entered.{placed}
use Rattle.cs_opposites.proofs.find.asserted.Goals as goal

pub returns : goal.returns
returns c = λ ts h.
    let all = terms_in c.args.terms.now in
    let t = term c.args.t.now.value in
    subst (IsPlaced ts t) (sym c.at.ensures) (placed all ts c.args.places.now t c.in_ok-number.number (ap (λ t. place all (term t)) (sym c.deref.ensures) ∙ c.in_ok-number.ensures) h)
