use Rattle.vx_runs.proofs.Worked.{fails_in_the_callee}
use Rattle.vx_runs.proofs.a_whole_run_fails_in_its_callee.Goals as goal

pub returns : goal.returns
returns c = fails_in_the_callee
