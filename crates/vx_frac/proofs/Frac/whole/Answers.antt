use Rattle.std.proofs.Common.{◌<ℤ◌, pos, arith}
use Rattle.std.proofs.Math.Nat.{eq-one_of_dvd-one}
use Rattle.std.proofs.lemmas.Int.{ints}
use Rattle.vx_frac.proofs.Frac.whole.Goals as goal

one_positive : pos 0 <ℤ pos 1
one_positive = omega (arith, ints)

pub invariant_of-result : goal.invariant_of-result
invariant_of-result c = record { positive = one_positive; lowest = λ d a b. eq-one_of_dvd-one b }
