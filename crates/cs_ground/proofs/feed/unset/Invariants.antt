use Rattle.std.proofs.Common.{◌≡◌, length}
use Rattle.std.specs.List.{All}
use Rattle.cs_search.specs.declared.Value.TheVariants.{Unset}
use Rattle.cs_ground.proofs.feed.unset.Given as goal

abbrev pub invariant-loop-atom : goal.invariant-loop-atom
invariant-loop-atom l = record {
  count : length l.values.items ≡ l._atom;
  unset : All (λ x. x ≡ Unset) l.values.items;
}
