use Rattle.vx_sound_preds.proofs.FailingFold.{spoils_fails, spoils_stops}
use Rattle.vx_sound_preds.proofs.a_fold_fails.Goals as goal

pub returns-clause-fails : goal.returns-clause-fails
returns-clause-fails c = spoils_fails

pub returns-clause-stops : goal.returns-clause-stops
returns-clause-stops c = spoils_stops
