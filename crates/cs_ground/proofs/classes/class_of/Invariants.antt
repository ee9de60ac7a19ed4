use Rattle.std.proofs.Common.{◌≡◌, ◌<◌, ℕ, false}
use Rattle.cs_table.specs.Table.{nodes_in}
use Rattle.cs_ground.specs.Assigned.{is_equated}
use Rattle.cs_ground.proofs.classes.class_of.Given as goal

abbrev pub invariant-loop-other : goal.invariant-loop-other
invariant-loop-other l = (m : ℕ) → m < l.other → is_equated (nodes_in l.nodes) l.truths m l.number ≡ false
