use Rattle.vx_sound_preds.proofs.WorkedFolds.{renewed_typed, renews_passes, cell_passes, renews_never_fails}
use Rattle.vx_sound_preds.proofs.a_method_that_folds_never_fails.Goals as goal

pub returns-clause-typed : goal.returns-clause-typed
returns-clause-typed c = renewed_typed

pub returns-clause-passes : goal.returns-clause-passes
returns-clause-passes c = renews_passes

pub returns-clause-predicate : goal.returns-clause-predicate
returns-clause-predicate c = cell_passes

pub returns-clause-fine : goal.returns-clause-fine
returns-clause-fine c = renews_never_fails
