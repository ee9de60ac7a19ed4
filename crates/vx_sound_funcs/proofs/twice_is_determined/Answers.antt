use Rattle.vx_sound_funcs.proofs.Worked.{twice_fits, twice_is_allowed, twice_is_determined}
use Rattle.vx_sound_funcs.proofs.twice_is_determined.Goals as goal

pub returns-clause-allowed : goal.returns-clause-allowed
returns-clause-allowed c = twice_is_allowed

pub returns-clause-fits : goal.returns-clause-fits
returns-clause-fits c = twice_fits

pub returns-clause-determined : goal.returns-clause-determined
returns-clause-determined c = twice_is_determined
