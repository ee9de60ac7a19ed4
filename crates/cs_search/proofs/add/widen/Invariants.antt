use Rattle.std.proofs.Common.{◌<◌, length, take}
use Rattle.std.specs.List.{All}
use Rattle.cs_search.specs.Widened.{IsWidened}
use Rattle.cs_search.proofs.add.widen.Given as goal

abbrev pub invariant-loop-literal : goal.invariant-loop-literal
invariant-loop-literal l = record {
  same : IsWidened l.initial.values.items l.values.items;
  room : All (λ x. x.number < length l.values.items) (take l.literal-index l.literals);
}
