use Rattle.std.proofs.Common.{◌≡◌, true, sym, ◌∙◌, ap, subst}
use Rattle.vx_frac.specs.Fractions.{Fraction, same_fraction}
use Rattle.vx_meaning.specs.States.{amount}
use Rattle.vx_run.specs.Held.{resource, told_total}
use Rattle.vx_run.specs.Holding.{holdings}
use Rattle.vx_run.specs.declared.entries.Entries.{Entries}
use Rattle.vx_run.proofs.Totals.{in_lowest_terms}
use Rattle.vx_run.proofs.holdings.Holdings.amount.Goals as goal

pub returns : goal.returns
returns c =
    let r = resource c.args.r.now in
    let h = holdings c.args.self.now in
    in_lowest_terms c.total.result (amount h r)
    (subst (λ (q : Fraction). same_fraction q (amount h r) ≡ true) (sym (c.total.ensures ∙ ap (λ (x : Entries). told_total x r) c.deref.ensures)) (c.args.self.now.totals r))
