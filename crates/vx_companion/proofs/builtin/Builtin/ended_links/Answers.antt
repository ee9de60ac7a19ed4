use Rattle.vx_companion.proofs.Ended.{by_companion}
use Rattle.vx_companion.proofs.builtin.Builtin.ended_links.Goals as goal

pub returns-clause-by_companion : goal.returns-clause-by_companion
returns-clause-by_companion c = rw c.deref.ensures.value (by_companion c.args.self.now.ended.items)
