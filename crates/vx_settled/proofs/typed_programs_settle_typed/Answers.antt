use Rattle.vx_settled.proofs.TypedMembers.{typed_when_settled}
use Rattle.vx_settled.proofs.typed_programs_settle_typed.Goals as goal

pub returns : goal.returns
returns c = typed_when_settled
