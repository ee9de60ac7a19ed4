use Rattle.vx_examples.proofs.Compounds.{calling_returns, calling_unheld_fails, calling_unheld_never_ends, calling_false_stops, calling_unframed_fails}
use Rattle.vx_examples.proofs.compound.calling.Goals as goal

pub returns-clause-returns : goal.returns-clause-returns
returns-clause-returns c = calling_returns

pub returns-clause-unheld_fails : goal.returns-clause-unheld_fails
returns-clause-unheld_fails c = calling_unheld_fails

pub returns-clause-unheld_never_ends : goal.returns-clause-unheld_never_ends
returns-clause-unheld_never_ends c = calling_unheld_never_ends

pub returns-clause-false_stops : goal.returns-clause-false_stops
returns-clause-false_stops c = calling_false_stops

pub returns-clause-unframed_fails : goal.returns-clause-unframed_fails
returns-clause-unframed_fails c = calling_unframed_fails
