use Rattle.std.proofs.Common.{rules}
use Rattle.cs_linear.proofs.bounds.Value.above.Goals as goal

pub returns : goal.returns
returns c = search rules
