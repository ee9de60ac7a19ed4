use Rattle.std.proofs.Common.{sym, subst}
use Rattle.cs_table.specs.Table.{nodes_in}
use Rattle.cs_ground.specs.Assigned.{AreClasses}
use Rattle.cs_ground.proofs.Numbers.{class_more}
use Rattle.cs_ground.proofs.classes.classes_of.Goals as goal

pub loop-number-preserved : goal.loop-number-preserved
loop-number-preserved c =
    subst (AreClasses (nodes_in c.args.nodes.now) c.args.truths.now _) (sym c.in_ok-push.ensures.items)
    (class_more _ _ _ _ c.class_of.result c.loop-number.invariant c.class_of.ensures)
