use Rattle.cs_session.proofs.Kept as proved
use Rattle.cs_session.proofs.laws.kept_proofs_are_shown.Goals as goal

pub returns : goal.returns
returns c = record { read_back = proved.read_back; shown = proved.shown }
