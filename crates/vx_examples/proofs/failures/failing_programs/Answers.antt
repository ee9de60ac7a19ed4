use Rattle.vx_examples.proofs.Programs.{failing_programs_exhaled_twice, failing_programs_maybe_same, failing_programs_forgotten, failing_programs_half_write, failing_programs_counting, failing_programs_called, failing_programs_applied, failing_programs_folded, failing_programs_unframed, failing_programs_rising}
use Rattle.vx_examples.proofs.Unfolded.{failing_programs_half_unfolded, failing_programs_below_none}
use Rattle.vx_examples.proofs.Halves.{failing_programs_two_halves}
use Rattle.vx_examples.proofs.failures.failing_programs.Goals as goal

pub returns-clause-exhaled_twice : goal.returns-clause-exhaled_twice
returns-clause-exhaled_twice c = failing_programs_exhaled_twice

pub returns-clause-two_halves : goal.returns-clause-two_halves
returns-clause-two_halves c = failing_programs_two_halves

pub returns-clause-maybe_same : goal.returns-clause-maybe_same
returns-clause-maybe_same c = failing_programs_maybe_same

pub returns-clause-forgotten : goal.returns-clause-forgotten
returns-clause-forgotten c = failing_programs_forgotten

pub returns-clause-half_write : goal.returns-clause-half_write
returns-clause-half_write c = failing_programs_half_write

pub returns-clause-counting : goal.returns-clause-counting
returns-clause-counting c = failing_programs_counting

pub returns-clause-called : goal.returns-clause-called
returns-clause-called c = failing_programs_called

pub returns-clause-applied : goal.returns-clause-applied
returns-clause-applied c = failing_programs_applied

pub returns-clause-folded : goal.returns-clause-folded
returns-clause-folded c = failing_programs_folded

pub returns-clause-unframed : goal.returns-clause-unframed
returns-clause-unframed c = failing_programs_unframed

pub returns-clause-rising : goal.returns-clause-rising
returns-clause-rising c = failing_programs_rising

pub returns-clause-half_unfolded : goal.returns-clause-half_unfolded
returns-clause-half_unfolded c = failing_programs_half_unfolded

pub returns-clause-below_none : goal.returns-clause-below_none
returns-clause-below_none c = failing_programs_below_none
