use Rattle.std.proofs.Common.{sym, ap}
use Rattle.std.specs.Prelude.{option_map}
use Rattle.cs_certificate.specs.Certificate.{NewTerm}
use Rattle.cs_proof.proofs.step.term_step.Goals as goal

pub returns-in-Ok : goal.returns-in-Ok
returns-in-Ok c = sym (ap (option_map NewTerm) c.in-Ok.ensures)

pub returns-in-Err-Form : goal.returns-in-Err-Form
returns-in-Err-Form c = let e = rw c.in-Err-Form.field-0-is at c.in-Err-Form.ensures in sym (ap (option_map NewTerm) e)
