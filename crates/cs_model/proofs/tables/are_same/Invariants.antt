use Rattle.std.proofs.Common.{◌≡◌, drop}
use Rattle.cs_model.specs.Elements.{elements, same_elements}
use Rattle.cs_model.proofs.tables.are_same.Given as goal

abbrev pub invariant-loop-at : goal.invariant-loop-at
invariant-loop-at l = same_elements (elements l.xs) (elements l.ys) ≡ same_elements (elements (drop l.at l.xs)) (elements (drop l.at l.ys))
