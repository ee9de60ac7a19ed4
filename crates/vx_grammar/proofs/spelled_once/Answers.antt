use Rattle.vx_grammar.proofs.Whole.{spelled_once}
use Rattle.vx_grammar.proofs.spelled_once.Goals as goal

pub returns : goal.returns
returns c = spelled_once
