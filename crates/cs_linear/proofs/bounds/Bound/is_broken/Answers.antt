use Rattle.std.proofs.Common.{rules}
use Rattle.cs_linear.proofs.bounds.Bound.is_broken.Goals as goal

pub returns-in-AtLeast : goal.returns-in-AtLeast
returns-in-AtLeast c = search rules
