use Rattle.cs_commands.proofs.Apart.{stay_apart}
use Rattle.cs_commands.proofs.laws.stays_apart.Goals as goal

pub returns : goal.returns
returns c = stay_apart
