use Rattle.vx_graph.specs.Views.{rows}
use Rattle.vx_resolved.specs.Settled.{settled}
use Rattle.vx_closure.proofs.Leading.{leading, leading_below}
use Rattle.vx_closure.proofs.closure.leaders.Goals as goal

pub returns-clause-within : goal.returns-clause-within
returns-clause-within c = leading_below (settled c.args.program.now) c.requires.distinct (rows c.args.mentioners.now) c.requires.mentioners c.in_ok-found.found.items c.args.member.0 c.in_ok-found.ensures.members

pub returns-clause-members : goal.returns-clause-members
returns-clause-members c = leading (settled c.args.program.now) c.requires.distinct (rows c.args.mentioners.now) c.requires.mentioners c.in_ok-found.found.items c.args.member.0 c.in_ok-found.ensures.members
