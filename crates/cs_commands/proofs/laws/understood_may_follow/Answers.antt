use Rattle.cs_commands.proofs.Following.{understood_follows}
use Rattle.cs_commands.proofs.laws.understood_may_follow.Goals as goal

pub returns : goal.returns
returns c = understood_follows
