use Rattle.vx_runs.proofs.WorkedAround.{goes_on_alone, stops_beside, fresh_alone, not_fresh_beside}
use Rattle.vx_runs.proofs.waiting_callers_count.Goals as goal

pub returns : goal.returns
returns c = record { alone = goes_on_alone; beside = stops_beside; fresh_alone = fresh_alone; known_beside = not_fresh_beside }
