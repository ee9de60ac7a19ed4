use Rattle.cs_certificate.proofs.Bridged.{bridged, converse}
use Rattle.cs_certificate.proofs.propagate.by_terms.Goals as goal

pub returns : goal.returns
returns c = record { sound = bridged; complete = converse }
