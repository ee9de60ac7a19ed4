use Rattle.std.proofs.Common.{refl}
use Rattle.cs_certificate.proofs.examples.Goals as goal

pub returns : goal.returns
returns c = record {
  definition = refl;
  no_third_row = refl;
  no_bool_row = refl;
  chain = refl;
  chain_back = refl;
  no_link = refl;
  congruence = refl;
  other_heads = refl;
  split = refl;
  no_bound = refl;
  not_whole = refl;
  trichotomy = refl;
  no_order = refl;
  quotient = refl;
  remainder = refl;
  bounded = refl;
  no_fourth_row = refl;
  by_zero = refl;
  pick = refl;
  pick_else = refl;
  no_choice = refl;
}
