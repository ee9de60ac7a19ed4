use Rattle.cs_cong.proofs.Settles.{settled_closed}
use Rattle.cs_cong.proofs.waiting.Waiting.next_pair.Goals as goal

pub returns-in_default-clause-closed : goal.returns-in_default-clause-closed
returns-in_default-clause-closed c = settled_closed c.args.terms.now c.args.merges.now.log.items c.look.self c.look.invariant c.in_default.ensures.last
