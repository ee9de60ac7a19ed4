use Rattle.vx_sound.proofs.WorkedStore.{claim_fails}
use Rattle.vx_sound.proofs.a_claim_fails.Goals as goal

pub returns-clause-fails : goal.returns-clause-fails
returns-clause-fails c = claim_fails
