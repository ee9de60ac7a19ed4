use Rattle.cs_session.proofs.Decided.{opposites_refuted}
use Rattle.cs_session.proofs.laws.opposites_are_refuted.Goals as goal

pub returns : goal.returns
returns c = opposites_refuted
