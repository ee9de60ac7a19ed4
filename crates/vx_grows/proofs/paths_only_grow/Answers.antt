use Rattle.vx_grows.proofs.GrowMembers.{members_grow}
use Rattle.vx_grows.proofs.paths_only_grow.Goals as goal

pub returns : goal.returns
returns c = members_grow
