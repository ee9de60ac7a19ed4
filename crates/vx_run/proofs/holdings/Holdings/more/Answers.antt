use Rattle.std.proofs.Common.{◌≡◌, ℕ, true, false, refl, sym, ◌∙◌, ap}
use Rattle.vx_frac.specs.declared.Op.TheVariants as calls
use Rattle.vx_frac.specs.Fraction.{fraction}
use Rattle.vx_frac.proofs.Reduced.{lowest_fraction}
use Rattle.vx_meaning.specs.States.{Holdings, amount, gained}
use Rattle.vx_run.specs.Going.{Going, gives}
use Rattle.vx_run.specs.Held.{resource}
use Rattle.vx_run.specs.Holding.{holdings}
use Rattle.vx_run.proofs.Totals.{fits_on, leaves_as, sum_is}
use Rattle.vx_run.proofs.holdings.Holdings.more.Goals as goal

pub entered-requires : goal.entered-requires
entered-requires c =
    c.in-Ok.ensures.value ∙ sum_is (fraction c.amount.result) (fraction c.args.a) (amount (holdings c.args.self.now) (resource c.args.r.now)) c.amount.ensures

pub returns-in_ok-entered-in-Ok : goal.returns-in_ok-entered-in-Ok
returns-in_ok-entered-in-Ok c =
    let h = holdings c.args.self.now in
    let r = resource c.args.r.now in
    let a = fraction c.args.a in
    ap (λ (x : Holdings). let g : Going ℕ Holdings = gives x in g) c.in_ok-entered-in-Ok.ensures
    ∙ fits_on c.args.at calls.Add (amount h r) a c.amount.result c.args.a (gained r a h) c.amount.ensures (sym (lowest_fraction c.args.a)) (c.in-Ok.ensures.fits.0 refl)

pub returns-in-Err : goal.returns-in-Err
returns-in-Err c =
    let h = holdings c.args.self.now in
    let r = resource c.args.r.now in
    let a = fraction c.args.a in
    leaves_as c.args.at calls.Add (amount h r) a c.amount.result c.args.a c.in-Err.call c.wide.result (gained r a h) c.amount.ensures (sym (lowest_fraction c.args.a))
    c.wide.ensures c.in-Err.ensures.over (λ t. let e : false ≡ true = c.in-Err.ensures.fits.1 t in cc)
