use Rattle.vx_meaning.specs.Consistent.{IsSupported, IsConsistent}
use Rattle.vx_sound_preds.proofs.Giving.{give_possible}
use Rattle.vx_sound_preds.proofs.what_is_given_can_be.Goals as goal

pub returns-clause-consistent : goal.returns-clause-consistent
returns-clause-consistent c p = give_possible p (IsConsistent p)

pub returns-clause-supported : goal.returns-clause-supported
returns-clause-supported c p = give_possible p (IsSupported p)
