use Rattle.vx_dialogue.proofs.Turns.{live}
use Rattle.vx_dialogue.proofs.laws.questions_are_live.Goals as goal

pub returns : goal.returns
returns c = live
