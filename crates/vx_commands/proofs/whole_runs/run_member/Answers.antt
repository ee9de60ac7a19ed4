use Rattle.std.proofs.Common.{subst}
use Rattle.std.proofs.lemmas.Result.{IfOk-weaker}
use Rattle.vx_commands.specs.Promised.{IsText}
use Rattle.vx_commands.specs.WholeRuns.{SaysOutcome}
use Rattle.vx_commands.proofs.whole_runs.run_member.Goals as goal

pub returns : goal.returns
returns c = IfOk-weaker c.told.result _ _ (λ output h m b has. subst (λ o. IsText (SaysOutcome o) output) (c.in_ok-whole.ensures m b has) h) c.told.ensures
