use Rattle.std.proofs.Common.{rules}
use Rattle.vx_commands.proofs.reports.report.Goals as goal

pub returns : goal.returns
returns g c = record {
  answered = record {
    headline = c.in_ok-program.ensures.headline;
    text = search rules;
    status = search rules;
    started = c.in_ok-program.ensures.started;
  };
  starts = c.verify.ensures.starts;
  back = record { every_lane = c.verify.ensures.handed_back; calm = c.verify.ensures.steady };
}

pub returns-in_err-program : goal.returns-in_err-program
returns-in_err-program g c = record { answered = search rules; starts = c.verify.ensures.starts; back = record { every_lane = c.verify.ensures.handed_back; calm = c.verify.ensures.steady } }

pub returns-in_err-write : goal.returns-in_err-write
returns-in_err-write g c = record { answered = search rules; starts = c.verify.ensures.starts; back = record { every_lane = c.verify.ensures.handed_back; calm = c.verify.ensures.steady } }
