use Rattle.std.proofs.Common.{take}
use Rattle.cs_sums.specs.Parts.{AreParts}
use Rattle.cs_sums.proofs.values.parts_of.Given as goal

abbrev pub invariant-loop-entry : goal.invariant-loop-entry
invariant-loop-entry l = AreParts l.columns.columns.items (take l.entry-index l.entries) l.parts.items
