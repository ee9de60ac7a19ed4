use Rattle.vx_examples.proofs.Nested.{grounding_last, grounding_first, grounding_round, grounding_inside, grounding_not_inside}
use Rattle.vx_examples.proofs.instances.grounding.Goals as goal

pub returns-clause-last : goal.returns-clause-last
returns-clause-last c = grounding_last

pub returns-clause-first : goal.returns-clause-first
returns-clause-first c = grounding_first

pub returns-clause-round : goal.returns-clause-round
returns-clause-round c = grounding_round

pub returns-clause-inside : goal.returns-clause-inside
returns-clause-inside c = grounding_inside

pub returns-clause-not_inside : goal.returns-clause-not_inside
returns-clause-not_inside c = grounding_not_inside
