use Rattle.vx_resting.proofs.Example.{m_rests}
use Rattle.vx_resting.proofs.worked.a_method_rests_on_its_predicate.Goals as goal

pub returns-clause-requires_it : goal.returns-clause-requires_it
returns-clause-requires_it c = m_rests
