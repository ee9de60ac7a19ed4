use Rattle.vx_frac.specs.Fractions.{none}
use Rattle.cs_linear.proofs.Conflicts.{no_solution}
use Rattle.cs_linear.proofs.Added.{none_solves}
use Rattle.cs_linear.proofs.laws.contradictions_have_no_solution.Goals as goal

pub returns-clause-amounts : goal.returns-clause-amounts
returns-clause-amounts c rows bounds ps a d h sa sd m = no_solution rows bounds ps a d h sa sd m

pub returns-clause-numbers : goal.returns-clause-numbers
returns-clause-numbers c rows bounds ps a h sa m = no_solution rows bounds ps a (λ k. none) h sa (none_solves rows) m
