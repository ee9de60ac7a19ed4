use Rattle.vx_examples.proofs.Nested.{consistency_owner, consistency_more, consistency_more_folded, consistency_null, consistency_round, consistency_held, consistency_held_folded, consistency_not_held, consistency_changes, consistency_no_change, consistency_no_change_folded}
use Rattle.vx_examples.proofs.instances.consistency.Goals as goal

pub returns-clause-owner : goal.returns-clause-owner
returns-clause-owner c = consistency_owner

pub returns-clause-more : goal.returns-clause-more
returns-clause-more c = consistency_more

pub returns-clause-more_folded : goal.returns-clause-more_folded
returns-clause-more_folded c = consistency_more_folded

pub returns-clause-null : goal.returns-clause-null
returns-clause-null c = consistency_null

pub returns-clause-round : goal.returns-clause-round
returns-clause-round c = consistency_round

pub returns-clause-held : goal.returns-clause-held
returns-clause-held c = consistency_held

pub returns-clause-held_folded : goal.returns-clause-held_folded
returns-clause-held_folded c = consistency_held_folded

pub returns-clause-not_held : goal.returns-clause-not_held
returns-clause-not_held c = consistency_not_held

pub returns-clause-changes : goal.returns-clause-changes
returns-clause-changes c = consistency_changes

pub returns-clause-no_change : goal.returns-clause-no_change
returns-clause-no_change c = consistency_no_change

pub returns-clause-no_change_folded : goal.returns-clause-no_change_folded
returns-clause-no_change_folded c = consistency_no_change_folded
