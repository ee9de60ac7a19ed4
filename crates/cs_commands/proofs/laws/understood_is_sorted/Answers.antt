use Rattle.cs_commands.proofs.Sorted.{understood_sorted}
use Rattle.cs_commands.proofs.laws.understood_is_sorted.Goals as goal

pub returns : goal.returns
returns c = understood_sorted
