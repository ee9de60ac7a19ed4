use Rattle.vx_grammar.proofs.Whole.{spelled_is_read}
use Rattle.vx_grammar.proofs.spelled_is_read.Goals as goal

pub returns : goal.returns
returns c = spelled_is_read
