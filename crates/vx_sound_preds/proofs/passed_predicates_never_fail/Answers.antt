use Rattle.vx_sound_preds.proofs.Soundness.{typed_predicate_sound}
use Rattle.vx_sound_preds.proofs.Worked.{cells_never_fail, chains_never_fail}
use Rattle.vx_sound_preds.proofs.passed_predicates_never_fail.Goals as goal

pub returns-clause-sound : goal.returns-clause-sound
returns-clause-sound c = typed_predicate_sound

pub returns-clause-cells : goal.returns-clause-cells
returns-clause-cells c = cells_never_fail

pub returns-clause-chains : goal.returns-clause-chains
returns-clause-chains c = chains_never_fail
