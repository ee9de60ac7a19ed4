use Rattle.vx_sound_funcs.proofs.Laws.{agree}
use Rattle.vx_law.proofs.Meanings.{one_meaning}
use Rattle.vx_law.proofs.symbols_mean_one.Goals as goal

pub returns : goal.returns
returns c = λ p x replies typed pass. one_meaning p x typed (agree p x replies typed pass)
