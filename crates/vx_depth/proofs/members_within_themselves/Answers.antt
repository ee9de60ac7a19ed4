use Rattle.vx_depth.proofs.Worked.{applies_itself_is_refused, applies_itself_asks, applies_itself_goes_on, unfolds_itself_is_refused, unfolds_itself_asks}
use Rattle.vx_depth.proofs.members_within_themselves.Goals as goal

pub returns-clause-function : goal.returns-clause-function
returns-clause-function t = applies_itself_is_refused

pub returns-clause-function_asks : goal.returns-clause-function_asks
returns-clause-function_asks t = applies_itself_asks

pub returns-clause-function_goes_on : goal.returns-clause-function_goes_on
returns-clause-function_goes_on t = applies_itself_goes_on

pub returns-clause-predicate : goal.returns-clause-predicate
returns-clause-predicate t = unfolds_itself_is_refused

pub returns-clause-predicate_asks : goal.returns-clause-predicate_asks
returns-clause-predicate_asks t = unfolds_itself_asks
