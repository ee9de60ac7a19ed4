use Rattle.vx_examples.proofs.Given.{giving_framed, giving_too_early, giving_condition_true, giving_condition_false, giving_first_choice, giving_other_choice, giving_unread_condition, giving_negative, giving_instance}
use Rattle.vx_examples.proofs.giving.giving.Goals as goal

pub returns-clause-framed : goal.returns-clause-framed
returns-clause-framed c = giving_framed

pub returns-clause-too_early : goal.returns-clause-too_early
returns-clause-too_early c = giving_too_early

pub returns-clause-condition_true : goal.returns-clause-condition_true
returns-clause-condition_true c = giving_condition_true

pub returns-clause-condition_false : goal.returns-clause-condition_false
returns-clause-condition_false c = giving_condition_false

pub returns-clause-first_choice : goal.returns-clause-first_choice
returns-clause-first_choice c = giving_first_choice

pub returns-clause-other_choice : goal.returns-clause-other_choice
returns-clause-other_choice c = giving_other_choice

pub returns-clause-unread_condition : goal.returns-clause-unread_condition
returns-clause-unread_condition c = giving_unread_condition

pub returns-clause-negative : goal.returns-clause-negative
returns-clause-negative c = giving_negative

pub returns-clause-instance : goal.returns-clause-instance
returns-clause-instance c = giving_instance
