use Rattle.vx_examples.proofs.Endings.{asserts_stays, asserts_never_fails, asserts_wrong_fails, asserts_thrice_fails, asserts_thrice_never_ends}
use Rattle.vx_examples.proofs.runs.asserts.Goals as goal

pub returns-clause-stays : goal.returns-clause-stays
returns-clause-stays c = asserts_stays

pub returns-clause-never_fails : goal.returns-clause-never_fails
returns-clause-never_fails c = asserts_never_fails

pub returns-clause-wrong_fails : goal.returns-clause-wrong_fails
returns-clause-wrong_fails c = asserts_wrong_fails

pub returns-clause-thrice_fails : goal.returns-clause-thrice_fails
returns-clause-thrice_fails c = asserts_thrice_fails

pub returns-clause-thrice_never_ends : goal.returns-clause-thrice_never_ends
returns-clause-thrice_never_ends c = asserts_thrice_never_ends
