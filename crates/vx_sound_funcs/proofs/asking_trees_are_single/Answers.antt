use Rattle.vx_sound_preds.proofs.Same.{asking_single}
use Rattle.vx_sound_funcs.proofs.Seen.{asking_look}
use Rattle.vx_sound_funcs.proofs.asking_trees_are_single.Goals as goal

pub returns-clause-single : goal.returns-clause-single
returns-clause-single c = asking_single

pub returns-clause-look : goal.returns-clause-look
returns-clause-look c = asking_look
