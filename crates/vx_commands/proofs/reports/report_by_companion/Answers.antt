use Rattle.vx_commands.proofs.Companions.{companion_asks}
use Rattle.vx_commands.proofs.reports.report_by_companion.Goals as goal

pub returns : goal.returns
returns c = companion_asks c.args.telling _ c.args.jobs c.requires.lanes.0 c.args.solver.now c.args.builtin.now c.report.new.spawner c.requires.small c.report.result c.report.ensures
