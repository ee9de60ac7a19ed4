use Rattle.vx_grammar.proofs.ProgramTold.{programs_are_spelled}
use Rattle.vx_grammar.proofs.programs_are_spelled.Goals as goal

pub returns : goal.returns
returns c = programs_are_spelled
