use Rattle.vx_examples.proofs.Truth.{satisfying_satisfiable, satisfying_not_satisfiable, satisfying_unsatisfiable, satisfying_not_unsatisfiable, satisfying_true_in, satisfying_not_true}
use Rattle.vx_examples.proofs.terms.satisfying.Goals as goal

pub returns-clause-satisfiable : goal.returns-clause-satisfiable
returns-clause-satisfiable c = satisfying_satisfiable

pub returns-clause-not_satisfiable : goal.returns-clause-not_satisfiable
returns-clause-not_satisfiable c = satisfying_not_satisfiable

pub returns-clause-unsatisfiable : goal.returns-clause-unsatisfiable
returns-clause-unsatisfiable c = satisfying_unsatisfiable

pub returns-clause-not_unsatisfiable : goal.returns-clause-not_unsatisfiable
returns-clause-not_unsatisfiable c = satisfying_not_unsatisfiable

pub returns-clause-true_in : goal.returns-clause-true_in
returns-clause-true_in c = satisfying_true_in

pub returns-clause-not_true : goal.returns-clause-not_true
returns-clause-not_true c = satisfying_not_true
