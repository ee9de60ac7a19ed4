use Rattle.vx_law.proofs.Below.{ask_below}
use Rattle.vx_law.proofs.preconditions_ask_below.Goals as goal

pub returns : goal.returns
returns c = ask_below
