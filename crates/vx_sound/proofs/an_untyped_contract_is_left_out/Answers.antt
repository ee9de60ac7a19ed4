use Rattle.vx_sound.proofs.WorkedCalls.{not_each_by_itself}
use Rattle.vx_sound.proofs.an_untyped_contract_is_left_out.Goals as goal

pub returns : goal.returns
returns c = not_each_by_itself
