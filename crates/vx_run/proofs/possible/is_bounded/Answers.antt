use Rattle.std.proofs.Common.{not, sym, ◌∙◌, ap}
use Rattle.vx_frac.specs.Fractions.{Fraction, at_most}
use Rattle.vx_meaning.specs.States.{amount}
use Rattle.vx_run.specs.Given as given
use Rattle.vx_run.specs.Held.{location, resource}
use Rattle.vx_run.specs.Holding.{holdings}
use Rattle.vx_run.specs.declared.resource.Resource.{Resource}
use Rattle.vx_run.proofs.Permitted.{bounded}
use Rattle.vx_run.proofs.possible.is_bounded.Goals as goal

pub returns-in-At : goal.returns-in-At
returns-in-At c =
    let all = holdings c.args.all.now in
    let most = given.most_of (location c.in-At.l) in
    let total = amount all (resource c.args.r.now) in
    ap not c.is_less.ensures
    ∙ sym (bounded c.most_of.result c.amount.result total c.amount.ensures)
    ∙ ap (λ (q : Fraction). at_most total q) c.most_of.ensures
    ∙ ap (λ (x : Resource). at_most (amount all (resource x)) most) c.in-At.is
    ∙ sym (ap (λ (x : Resource). given.bounded all (resource x)) c.in-At.is)
