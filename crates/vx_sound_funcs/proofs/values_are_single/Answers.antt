use Rattle.vx_sound.proofs.Fuel.{one_value}
use Rattle.vx_sound_funcs.proofs.Fuel.{one_application}
use Rattle.vx_sound_funcs.proofs.values_are_single.Goals as goal

pub returns-clause-expressions : goal.returns-clause-expressions
returns-clause-expressions c = one_value

pub returns-clause-functions : goal.returns-clause-functions
returns-clause-functions c = one_application
