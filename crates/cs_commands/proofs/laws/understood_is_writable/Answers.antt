use Rattle.cs_commands.proofs.Writable.{understood_writable}
use Rattle.cs_commands.proofs.laws.understood_is_writable.Goals as goal

pub returns : goal.returns
returns c = understood_writable
