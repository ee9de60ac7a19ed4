use Rattle.std.proofs.Common.{refl}
use Rattle.cs_numbers.proofs.examples.Goals as goal

pub returns : goal.returns
returns c = record {
  numbers = refl;
  known = refl;
  unknown = refl;
  next = refl;
  again = refl;
  second = refl;
  nowhere = refl;
  both = refl;
  one_missing = refl;
  behind = refl;
  node = refl;
  no_node = refl;
  node_by_number = refl;
  no_number = refl;
  kept = refl;
  not_kept = refl;
  no_nodes = refl;
  input = refl;
  no_input = refl;
}
