use Rattle.vx_smt_text.proofs.Back.{commands_back}
use Rattle.vx_smt_text.proofs.laws.written_spells.Goals as goal

pub returns : goal.returns
returns c = commands_back
