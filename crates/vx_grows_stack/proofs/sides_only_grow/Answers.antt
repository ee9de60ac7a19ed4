use Rattle.vx_grows_stack.proofs.Frames.{sides_grow}
use Rattle.vx_grows_stack.proofs.sides_only_grow.Goals as goal

pub returns : goal.returns
returns c = sides_grow
