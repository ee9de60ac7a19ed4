use Rattle.std.proofs.Common.{◌≡◌, ℤ, ◌*ℤ◌, sym, subst}
use Rattle.std.specs.Int.{w128}
use Rattle.std.proofs.lemmas.Int.{quot_is, quot_fits}
use Rattle.vx_frac.proofs.Divides.{exact}
use Rattle.vx_frac.proofs.divide.Goals as goal

pub returns : goal.returns
returns c =
    let fits = quot_fits w128 c.args.number c.args.divisor c.ranges.number c.requires.positive in
    subst (λ (x : ℤ). x *ℤ c.args.divisor ≡ c.args.number)
    (sym (quot_is w128 c.args.number c.args.divisor c.ranges.number c.ranges.divisor fits))
    (exact c.args.number c.args.divisor c.requires.divides)
