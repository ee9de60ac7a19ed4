use Rattle.vx_real.proofs.Real.{real_fields}
use Rattle.vx_real.proofs.field_failures_are_real.Goals as goal

pub returns : goal.returns
returns c = real_fields
