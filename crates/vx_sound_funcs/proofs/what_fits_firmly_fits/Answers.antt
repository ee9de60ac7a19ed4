use Rattle.vx_sound_funcs.proofs.Fits.{firm_fits}
use Rattle.vx_sound_funcs.proofs.TypedFunctions.{functions_speak_now}
use Rattle.vx_sound_funcs.proofs.what_fits_firmly_fits.Goals as goal

pub returns-clause-more : goal.returns-clause-more
returns-clause-more c = firm_fits

pub returns-clause-typed : goal.returns-clause-typed
returns-clause-typed c p typed = firm_fits p (functions_speak_now p typed)
