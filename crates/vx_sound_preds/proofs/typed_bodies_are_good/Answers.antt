use Rattle.vx_sound_preds.specs.Examples.{remembers}
use Rattle.vx_sound_preds.proofs.Typed.{good_bodies}
use Rattle.vx_sound_preds.proofs.Worked.{remembers_is_not}
use Rattle.vx_sound_preds.proofs.typed_bodies_are_good.Goals as goal

pub returns-clause-good : goal.returns-clause-good
returns-clause-good c = good_bodies

pub returns-clause-remembers_bad : goal.returns-clause-remembers_bad
returns-clause-remembers_bad c = remembers_is_not

pub returns-clause-remembers_untyped : goal.returns-clause-remembers_untyped
returns-clause-remembers_untyped c typed = remembers_is_not (good_bodies remembers typed)
