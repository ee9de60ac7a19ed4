use Rattle.std.proofs.Common.{◌≡◌, ◌<◌, ℕ, true, length}
use Rattle.std.specs.Prelude.{All}
use Rattle.vx_graph.specs.Listed.{is_in, is_marked}
use Rattle.vx_graph.specs.Rooted.{Rooted}
use Rattle.vx_graph.proofs.groups.all_groups.Given as goal

abbrev pub invariant-loop-member : goal.invariant-loop-member
invariant-loop-member l = record {
  members : length l.grouping.roots.items ≡ length l.edges.targets.items;
  within : All (λ m. m.0 < length l.edges.targets.items) l.ends.items;
  rooted : Rooted l.edges.targets.items l.grouping.roots.items l.grouping.left.items;
  all : (n : ℕ) → is_marked l.grouping.left.items n ≡ true → is_in l.ends.items n ≡ true;
}

abbrev pub decreases-loop-member : goal.decreases-loop-member
decreases-loop-member l = length l.ends.items
