use Rattle.vx_grammar.proofs.ProgramLocal.{measures_are_told}
use Rattle.vx_grammar.proofs.measures_are_told.Goals as goal

pub returns : goal.returns
returns c = measures_are_told
