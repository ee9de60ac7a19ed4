use Rattle.vx_edge.proofs.Owed.{owed_on}
use Rattle.vx_edge.proofs.child.ChildSpawnerSpawner.start.Goals as goal

pub returns-2-clause-owed : goal.returns-2-clause-owed
returns-2-clause-owed c other = rw (c.in-Ok-push-2.ensures.items, c.reserve.ensures.items) (owed_on c.args.self.now.lanes_out.items c.args.lane other)
