use Rattle.vx_examples.proofs.Reached.{calls, fold_fails, folds, other_side, unfold_fails, unfolds, write_fails}
use Rattle.vx_examples.proofs.outcomes.untyped_statements.Goals as goal

pub returns-clause-folds : goal.returns-clause-folds
returns-clause-folds c = folds

pub returns-clause-unfolds : goal.returns-clause-unfolds
returns-clause-unfolds c = unfolds

pub returns-clause-calls : goal.returns-clause-calls
returns-clause-calls c = calls

pub returns-clause-folds_by_int : goal.returns-clause-folds_by_int
returns-clause-folds_by_int c = fold_fails

pub returns-clause-unfolds_by_int : goal.returns-clause-unfolds_by_int
returns-clause-unfolds_by_int c = unfold_fails

pub returns-clause-writes_of_int : goal.returns-clause-writes_of_int
returns-clause-writes_of_int c = write_fails

pub returns-clause-asks_int : goal.returns-clause-asks_int
returns-clause-asks_int c = other_side
