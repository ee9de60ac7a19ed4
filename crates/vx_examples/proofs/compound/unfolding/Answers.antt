use Rattle.vx_examples.proofs.Compounds.{unfolding_exchanged, unfolding_unheld_fails, unfolding_unheld_never_ends, unfolding_none_fails}
use Rattle.vx_examples.proofs.compound.unfolding.Goals as goal

pub returns-clause-exchanged : goal.returns-clause-exchanged
returns-clause-exchanged c = unfolding_exchanged

pub returns-clause-unheld_fails : goal.returns-clause-unheld_fails
returns-clause-unheld_fails c = unfolding_unheld_fails

pub returns-clause-unheld_never_ends : goal.returns-clause-unheld_never_ends
returns-clause-unheld_never_ends c = unfolding_unheld_never_ends

pub returns-clause-none_fails : goal.returns-clause-none_fails
returns-clause-none_fails c = unfolding_none_fails
