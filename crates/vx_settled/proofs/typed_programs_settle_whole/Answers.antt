use Rattle.vx_settled.proofs.TypedPrograms.{typed_program_when_settled}
use Rattle.vx_settled.proofs.typed_programs_settle_whole.Goals as goal

pub returns : goal.returns
returns c = typed_program_when_settled
