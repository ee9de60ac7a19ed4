use Rattle.vx_grammar.proofs.Whole.{answers_are_right}
use Rattle.vx_grammar.proofs.answers_are_right.Goals as goal

pub returns : goal.returns
returns c = answers_are_right
