use Rattle.vx_grammar.proofs.ProgramLocal.{reading_stops_at_first}
use Rattle.vx_grammar.proofs.reading_stops_at_first.Goals as goal

pub returns : goal.returns
returns c = reading_stops_at_first
