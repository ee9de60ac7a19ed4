use Rattle.cs_commands.proofs.OwnWords.{understood_named}
use Rattle.cs_commands.proofs.laws.understood_has_word.Goals as goal

pub returns : goal.returns
returns c = understood_named
