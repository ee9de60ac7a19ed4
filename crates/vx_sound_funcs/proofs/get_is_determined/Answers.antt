use Rattle.std.proofs.Common.{refl}
use Rattle.vx_sound_funcs.proofs.Worked.{get_fits, get_is_determined}
use Rattle.vx_sound_funcs.proofs.WorkedTyped.{get_agrees}
use Rattle.vx_sound_funcs.proofs.get_is_determined.Goals as goal

pub returns-clause-fits : goal.returns-clause-fits
returns-clause-fits c = get_fits

pub returns-clause-allowed : goal.returns-clause-allowed
returns-clause-allowed c = λ z. refl

pub returns-clause-determined : goal.returns-clause-determined
returns-clause-determined c = get_is_determined

pub returns-clause-agrees : goal.returns-clause-agrees
returns-clause-agrees c = get_agrees
