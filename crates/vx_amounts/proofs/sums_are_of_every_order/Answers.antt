use Rattle.vx_amounts.proofs.Amounts.{same_is, sum_comm, sum_assoc}
use Rattle.vx_amounts.proofs.sums_are_of_every_order.Goals as goal

pub returns-clause-commutes : goal.returns-clause-commutes
returns-clause-commutes c = λ a b. same_is (sum_comm a b)

pub returns-clause-associates : goal.returns-clause-associates
returns-clause-associates c = λ a b d. same_is (sum_assoc a b d)
