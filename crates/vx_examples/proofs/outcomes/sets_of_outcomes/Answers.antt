use Rattle.std.proofs.Common.{refl, inl, inr}
use Rattle.vx_examples.specs.Words.{at}
use Rattle.vx_examples.specs.Scenes.{owner}
use Rattle.vx_examples.proofs.Reached.{end_elsewhere, failure_elsewhere, inner_place, neither, no_inner_failure}
use Rattle.vx_examples.proofs.outcomes.sets_of_outcomes.Goals as goal

pub returns-clause-end_elsewhere : goal.returns-clause-end_elsewhere
returns-clause-end_elsewhere c = end_elsewhere

pub returns-clause-failure_elsewhere : goal.returns-clause-failure_elsewhere
returns-clause-failure_elsewhere c = failure_elsewhere

pub returns-clause-first : goal.returns-clause-first
returns-clause-first c = inl tt

pub returns-clause-second : goal.returns-clause-second
returns-clause-second c = inr refl

pub returns-clause-neither : goal.returns-clause-neither
returns-clause-neither c = neither

pub returns-clause-any : goal.returns-clause-any
returns-clause-any c = (owner, refl)

pub returns-clause-not_any : goal.returns-clause-not_any
returns-clause-not_any c = λ h. h.1

pub returns-clause-holds : goal.returns-clause-holds
returns-clause-holds c = (refl, tt)

pub returns-clause-holds_not : goal.returns-clause-holds_not
returns-clause-holds_not c = λ h. h.0

pub returns-clause-inner_failure : goal.returns-clause-inner_failure
returns-clause-inner_failure c = ((at 1 1, refl), refl)

pub returns-clause-inner_place : goal.returns-clause-inner_place
returns-clause-inner_place c = inner_place

pub returns-clause-no_inner_failure : goal.returns-clause-no_inner_failure
returns-clause-no_inner_failure c = no_inner_failure

pub returns-clause-over : goal.returns-clause-over
returns-clause-over c = (tt, tt)
