use Rattle.vx_law.proofs.Members.{taken_allowed}
use Rattle.vx_law.proofs.what_is_taken_is_allowed.Goals as goal

pub returns : goal.returns
returns c = taken_allowed
