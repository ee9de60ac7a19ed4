use Rattle.vx_settled.proofs.DistinctNames.{distinct_when_settled}
use Rattle.vx_settled.proofs.typed_programs_name_apart.Goals as goal

pub returns : goal.returns
returns c = distinct_when_settled
