use Rattle.vx_sound_funcs.proofs.TypedFunctions.{functions_speak_now, good_functions}
use Rattle.vx_sound_funcs.proofs.typed_functions_are_good.Goals as goal

pub returns-clause-now : goal.returns-clause-now
returns-clause-now c = functions_speak_now

pub returns-clause-good : goal.returns-clause-good
returns-clause-good c = good_functions
