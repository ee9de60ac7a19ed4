use Rattle.vx_examples.proofs.Compounds.{sequences_end, sequences_fail_first, sequences_stop_first, sequences_never_fail}
use Rattle.vx_examples.proofs.compound.sequences.Goals as goal

pub returns-clause-end : goal.returns-clause-end
returns-clause-end c = sequences_end

pub returns-clause-fail_first : goal.returns-clause-fail_first
returns-clause-fail_first c = sequences_fail_first

pub returns-clause-stop_first : goal.returns-clause-stop_first
returns-clause-stop_first c = sequences_stop_first

pub returns-clause-never_fail : goal.returns-clause-never_fail
returns-clause-never_fail c = sequences_never_fail
