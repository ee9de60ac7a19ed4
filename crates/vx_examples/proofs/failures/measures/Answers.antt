use Rattle.vx_examples.proofs.Nested.{measures_lowered, measures_numbers_fall, measures_numbers_stay, measures_numbers_below}
use Rattle.vx_examples.proofs.failures.measures.Goals as goal

pub returns-clause-lowered : goal.returns-clause-lowered
returns-clause-lowered c = measures_lowered

pub returns-clause-numbers_fall : goal.returns-clause-numbers_fall
returns-clause-numbers_fall c = measures_numbers_fall

pub returns-clause-numbers_stay : goal.returns-clause-numbers_stay
returns-clause-numbers_stay c = measures_numbers_stay

pub returns-clause-numbers_below : goal.returns-clause-numbers_below
returns-clause-numbers_below c = measures_numbers_below
