use Rattle.vx_smt_text.proofs.Once.{spells_once}
use Rattle.vx_smt_text.proofs.laws.spells_once.Goals as goal

pub returns : goal.returns
returns c = spells_once
