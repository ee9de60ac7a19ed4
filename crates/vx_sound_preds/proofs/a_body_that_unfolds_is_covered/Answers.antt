use Rattle.vx_sound_preds.proofs.WorkedNested.{nested_typed, holder_passes, holder_never_fails, nested_covered, proper_holder}
use Rattle.vx_sound_preds.proofs.a_body_that_unfolds_is_covered.Goals as goal

pub returns-clause-typed : goal.returns-clause-typed
returns-clause-typed c = nested_typed

pub returns-clause-passes : goal.returns-clause-passes
returns-clause-passes c = holder_passes

pub returns-clause-fine : goal.returns-clause-fine
returns-clause-fine c = holder_never_fails

pub returns-clause-covered : goal.returns-clause-covered
returns-clause-covered c = nested_covered

pub returns-clause-proper : goal.returns-clause-proper
returns-clause-proper c = proper_holder
