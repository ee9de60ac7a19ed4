use Rattle.cs_session.proofs.Decided.{few_decided}
use Rattle.cs_session.proofs.laws.few_are_decided.Goals as goal

pub returns : goal.returns
returns c = few_decided
