use Rattle.cs_proof.proofs.Refuted as proved
use Rattle.cs_proof.proofs.finished_refutes.Goals as goal

pub returns : goal.returns
returns c = record { finished = proved.finished_too; refuted = proved.refuted }
