use Rattle.vx_examples.proofs.Compounds.{folding_exchanged, folding_never_fails, folding_unheld_fails, folding_unheld_never_ends, folding_none_fails, folding_no_body}
use Rattle.vx_examples.proofs.compound.folding.Goals as goal

pub returns-clause-exchanged : goal.returns-clause-exchanged
returns-clause-exchanged c = folding_exchanged

pub returns-clause-never_fails : goal.returns-clause-never_fails
returns-clause-never_fails c = folding_never_fails

pub returns-clause-unheld_fails : goal.returns-clause-unheld_fails
returns-clause-unheld_fails c = folding_unheld_fails

pub returns-clause-unheld_never_ends : goal.returns-clause-unheld_never_ends
returns-clause-unheld_never_ends c = folding_unheld_never_ends

pub returns-clause-none_fails : goal.returns-clause-none_fails
returns-clause-none_fails c = folding_none_fails

pub returns-clause-no_body : goal.returns-clause-no_body
returns-clause-no_body c = folding_no_body
