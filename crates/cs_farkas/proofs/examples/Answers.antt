use Rattle.std.proofs.Common.{refl}
use Rattle.vx_frac.specs.Fractions.{lowest}
use Rattle.cs_farkas.proofs.examples.Goals as goal

pub returns : goal.returns
unfolding lowest
returns c = record {
  adds_up = refl;
  signs_turned = refl;
  column_left = refl;
  too_large_sum = refl;
  too_large_product = refl;
  small_sum = refl;
  small_product = refl;
  no_equation = refl;
  no_comparison = refl;
  too_few = refl;
  no_literal = refl;
  not_less = refl;
  not_at_most = refl;
  less = refl;
  at_most = refl;
  equals = refl;
  no_sum = refl;
  literal = refl;
  part = refl;
  sum = refl;
  difference = refl;
  left_literal = refl;
  right_literal = refl;
  product = refl;
  quotient = refl;
  raised = refl;
  not_raised = refl;
  strict = refl;
  strict_int = refl;
  times_none = refl;
  at_least_none = refl;
  below_none = refl;
  any_on_equation = refl;
}
