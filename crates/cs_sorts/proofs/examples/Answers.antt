use Rattle.std.proofs.Common.{refl}
use Rattle.cs_sorts.proofs.examples.Goals as goal

pub returns : goal.returns
returns c = record {
  and_of_bool = refl;
  and_of_int = refl;
  equal_of_any = refl;
  less_of_real = refl;
  less_of_bool = refl;
  div_of_int = refl;
  div_of_real = refl;
  sum = refl;
  mixed_sum = refl;
  choice = refl;
  choice_by_int = refl;
  mixed_choice = refl;
  negation = refl;
  no_negation = refl;
  comparison = refl;
  application = refl;
  ill_sorted_part = refl;
  bools = refl;
  no_bools = refl;
  one_sort = refl;
  fewer_sorts = refl;
  declared = refl;
  other_arguments = refl;
  live = refl;
  not_live = refl;
}
