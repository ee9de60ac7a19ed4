use Rattle.vx_examples.proofs.Endings.{exhales_forgotten, exhales_never_fails, exhales_half_kept, exhales_wrong_fails, exhales_unheld_fails, exhales_unheld_never_ends}
use Rattle.vx_examples.proofs.runs.exhales.Goals as goal

pub returns-clause-forgotten : goal.returns-clause-forgotten
returns-clause-forgotten c = exhales_forgotten

pub returns-clause-never_fails : goal.returns-clause-never_fails
returns-clause-never_fails c = exhales_never_fails

pub returns-clause-half_kept : goal.returns-clause-half_kept
returns-clause-half_kept c = exhales_half_kept

pub returns-clause-wrong_fails : goal.returns-clause-wrong_fails
returns-clause-wrong_fails c = exhales_wrong_fails

pub returns-clause-unheld_fails : goal.returns-clause-unheld_fails
returns-clause-unheld_fails c = exhales_unheld_fails

pub returns-clause-unheld_never_ends : goal.returns-clause-unheld_never_ends
returns-clause-unheld_never_ends c = exhales_unheld_never_ends
