use Rattle.vx_grammar.proofs.ProgramLocal.{programs_spelled_once}
use Rattle.vx_grammar.proofs.programs_spelled_once.Goals as goal

pub returns : goal.returns
returns c = programs_spelled_once
