use Rattle.vx_depth.proofs.Refused.{none_within_itself}
use Rattle.vx_depth.proofs.Trees.{over_more}
use Rattle.vx_depth.proofs.Worked.{none_refused, applies_itself_is_not_apart, unfolds_itself_is_not_apart}
use Rattle.vx_depth.proofs.groups_kept_apart.Goals as goal

pub returns-clause-apart : goal.returns-clause-apart
returns-clause-apart c p apart k x h = none_within_itself p apart k x h

pub returns-clause-trees : goal.returns-clause-trees
returns-clause-trees c p d apart m x k = over_more p d (none_within_itself p apart) m x k

pub returns-clause-none : goal.returns-clause-none
returns-clause-none c = none_refused

pub returns-clause-function : goal.returns-clause-function
returns-clause-function c = applies_itself_is_not_apart

pub returns-clause-predicate : goal.returns-clause-predicate
returns-clause-predicate c = unfolds_itself_is_not_apart
