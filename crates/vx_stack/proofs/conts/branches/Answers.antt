use Rattle.std.proofs.Common.{ap, ◌∙◌}
use Rattle.std.proofs.lemmas.Result.{IfOk-from_err}
use Rattle.vx_heap.specs.Views.{held_term}
use Rattle.vx_rules.specs.States.{with_branch}
use Rattle.vx_stack.proofs.conts.branches.Goals as goal

pub returns-in_err-first-clause-first : goal.returns-in_err-first-clause-first
returns-in_err-first-clause-first c = IfOk-from_err _ _ c.from_residual.ensures.0

pub returns-in_err-first-clause-second : goal.returns-in_err-first-clause-second
returns-in_err-first-clause-second c = IfOk-from_err _ _ c.from_residual.ensures.0

pub returns-in_err-add_branch-clause-first : goal.returns-in_err-add_branch-clause-first
returns-in_err-add_branch-clause-first c = IfOk-from_err _ _ c.from_residual-in_err-add_branch.ensures.0

pub returns-in_err-add_branch-clause-second : goal.returns-in_err-add_branch-clause-second
returns-in_err-add_branch-clause-second c = IfOk-from_err _ _ c.from_residual-in_err-add_branch.ensures.0

pub returns-in_err-add_branch-2-clause-first : goal.returns-in_err-add_branch-2-clause-first
returns-in_err-add_branch-2-clause-first c = IfOk-from_err _ _ c.from_residual-in_err-add_branch-2.ensures.0

pub returns-in_err-add_branch-2-clause-second : goal.returns-in_err-add_branch-2-clause-second
returns-in_err-add_branch-2-clause-second c = IfOk-from_err _ _ c.from_residual-in_err-add_branch-2.ensures.0

pub returns-clause-first : goal.returns-clause-first
returns-clause-first c = c.in_ok-add_branch.ensures ∙ ap (with_branch (held_term c.args.condition)) (c.open.ensures ∙ c.in_ok-first.ensures)

pub returns-clause-second : goal.returns-clause-second
returns-clause-second c = c.in_ok-add_branch-2.ensures ∙ ap (with_branch (held_term c.args.negated)) c.open-2.ensures
