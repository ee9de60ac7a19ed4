use Rattle.cs_table.specs.Table.{nodes_in}
use Rattle.cs_ground.specs.Assigned.{AreClasses}
use Rattle.cs_ground.proofs.classes.classes_of.Given as goal

abbrev pub invariant-loop-number : goal.invariant-loop-number
invariant-loop-number l = AreClasses (nodes_in l.nodes) l.truths l.number l.classes.items
