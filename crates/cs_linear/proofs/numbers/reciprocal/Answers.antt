use Rattle.std.proofs.Common.{rules, ◌≡◌, pos, neg_ℤ, ◌<ℤ◌}
use Rattle.vx_frac.specs.Fraction.{fraction, ratio}
use Rattle.vx_frac.specs.Fractions.{lowest}
use Rattle.cs_linear.proofs.Reciprocals.{positive_reciprocal, negative_reciprocal}
use Rattle.cs_linear.proofs.numbers.reciprocal.Goals as goal

pub returns-then-num-gt0-clause-value : goal.returns-then-num-gt0-clause-value
returns-then-num-gt0-clause-value c =
    let e : fraction c.new.result ≡ lowest (ratio c.args.a.den c.args.a.num) = search rules in
    let lt : pos 0 <ℤ c.args.a.num = search rules in
    positive_reciprocal (fraction c.new.result) c.args.a.num c.args.a.den lt c.args.a.positive e

pub returns-in-Some-clause-value : goal.returns-in-Some-clause-value
returns-in-Some-clause-value c =
    let e : fraction c.new-in-Some.result ≡ lowest (ratio (neg_ℤ c.args.a.den) c.in-Some.den) = search rules in
    let n : c.args.a.num ≡ neg_ℤ c.in-Some.den = search rules in
    let lt : pos 0 <ℤ c.in-Some.den = search rules in
    negative_reciprocal (fraction c.new-in-Some.result) c.args.a.num c.args.a.den c.in-Some.den lt c.args.a.positive n e
