use Rattle.vx_dialogue.proofs.Scoped.{well_formed}
use Rattle.vx_dialogue.proofs.laws.scripts_are_well_formed.Goals as goal

pub returns : goal.returns
returns c = well_formed
