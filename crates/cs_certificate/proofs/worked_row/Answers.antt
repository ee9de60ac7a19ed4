use Rattle.cs_certificate.proofs.Worked.{worked}
use Rattle.cs_certificate.proofs.worked_row.Goals as goal

pub returns : goal.returns
returns c = worked
