use Rattle.cs_certificate.proofs.Finished.{sound, live_sound}
use Rattle.cs_certificate.proofs.finished_refutes.Goals as goal

pub returns : goal.returns
returns c = record { any_stack = sound; live = live_sound }
