use Rattle.std.proofs.Common.{◌≡◌, map, take}
use Rattle.cs_ground.specs.Assigned.{is_true}
use Rattle.cs_ground.proofs.classes.truths_of.Given as goal

abbrev pub invariant-loop-atom : goal.invariant-loop-atom
invariant-loop-atom l = l.truths.items ≡ map (is_true l.values) (take l.atom-index l.places)
