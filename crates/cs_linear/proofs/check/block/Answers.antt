use Rattle.std.proofs.Common.{rules}
use Rattle.cs_linear.proofs.check.block.Goals as goal

pub returns-else-has_room : goal.returns-else-has_room
returns-else-has_room c = search rules
