use Rattle.std.proofs.Common.{rules, ◌≡◌, subst, ℤ, to_z, of_z}
use Rattle.std.specs.Int.{w128, int_div_euclid}
use Rattle.vx_frac.specs.Fraction.{fraction}
use Rattle.cs_sums.specs.Between.{IsFloor}
use Rattle.cs_sums.proofs.Floors.{floor_of}
use Rattle.cs_sums.proofs.stop.floor.Goals as goal

pub returns : goal.returns
returns c =
    let e : int_div_euclid c.args.a.num c.args.a.den ≡ to_z w128 (of_z w128 c.div_euclid.result) = search rules in
    subst (λ (z : ℤ). IsFloor z (fraction c.args.a)) e (floor_of c.args.a.num c.args.a.den c.args.a.positive)
