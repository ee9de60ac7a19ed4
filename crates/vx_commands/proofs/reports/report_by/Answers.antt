use Rattle.std.proofs.Common.{refl, sym}
use Rattle.vx_commands.proofs.Either.{by_companion, by_handed}
use Rattle.vx_commands.proofs.reports.report_by.Goals as goal

pub returns-then-is_companion : goal.returns-then-is_companion
returns-then-is_companion g c = by_companion c.args.solver.now c.args.jobs _ _ _ (sym c.if-is_companion.ensures) refl c.report_by_companion.ensures

pub returns-else-is_companion : goal.returns-else-is_companion
returns-else-is_companion g c = by_handed c.args.solver.now c.args.jobs _ _ _ (sym c.if-is_companion.ensures) refl c.report.ensures
