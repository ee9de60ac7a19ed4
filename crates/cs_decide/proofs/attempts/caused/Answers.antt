use Rattle.cs_proof.specs.Fits.{seen}
use Rattle.cs_decide.proofs.attempts.caused.Goals as goal

pub returns : goal.returns
returns c = c.without_cause.ensures (seen c.args.stack.now)
