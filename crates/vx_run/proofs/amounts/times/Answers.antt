use Rattle.std.proofs.Common.{◌≡◌, ℕ, true, false, refl, sym, ◌∙◌, ap}
use Rattle.vx_frac.specs.declared.Op.TheVariants as calls
use Rattle.vx_frac.specs.Fraction.{fraction}
use Rattle.vx_frac.specs.Fractions.{Fraction, lowest, product}
use Rattle.vx_frac.proofs.Reduced.{lowest_fraction}
use Rattle.vx_run.specs.Going.{Going, gives}
use Rattle.vx_run.proofs.Totals.{fits_on, leaves_as}
use Rattle.vx_run.proofs.amounts.times.Goals as goal

pub returns-in-Ok : goal.returns-in-Ok
returns-in-Ok c =
    let q = c.args.q in
    let a = c.args.a in
    ap (λ (x : Fraction). let g : Going ℕ Fraction = gives x in g) c.in-Ok.ensures.value
    ∙ fits_on c.args.at calls.Mul (fraction q) (fraction a) q a (lowest (product (fraction q) (fraction a))) (sym (lowest_fraction q)) (sym (lowest_fraction a)) (c.in-Ok.ensures.fits.0 refl)

pub returns-in-Err : goal.returns-in-Err
returns-in-Err c =
    let q = c.args.q in
    let a = c.args.a in
    leaves_as c.args.at calls.Mul (fraction q) (fraction a) q a c.in-Err.call c.wide.result (lowest (product (fraction q) (fraction a))) (sym (lowest_fraction q)) (sym (lowest_fraction a)) c.wide.ensures c.in-Err.ensures.over (λ t. let e : false ≡ true = c.in-Err.ensures.fits.1 t in cc)
