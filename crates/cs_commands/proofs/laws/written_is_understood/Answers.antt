use Rattle.cs_commands.proofs.WrittenCommands.{written_back}
use Rattle.cs_commands.proofs.laws.written_is_understood.Goals as goal

pub returns : goal.returns
returns c = written_back
