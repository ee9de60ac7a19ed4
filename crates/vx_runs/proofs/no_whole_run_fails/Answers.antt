use Rattle.vx_runs.proofs.Runs.{whole_runs_never_fail}
use Rattle.vx_runs.proofs.no_whole_run_fails.Goals as goal

pub returns : goal.returns
returns c = whole_runs_never_fail
