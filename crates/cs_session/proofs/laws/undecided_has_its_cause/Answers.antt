use Rattle.cs_session.proofs.Caused.{caused}
use Rattle.cs_session.proofs.laws.undecided_has_its_cause.Goals as goal

pub returns : goal.returns
returns c = caused
