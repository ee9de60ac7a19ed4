use Rattle.vx_resolved.specs.Settled.{settled}
use Rattle.vx_exec.proofs.Forms.{block_is}
use Rattle.vx_exec.proofs.statement.step_inner.Goals as goal

pub returns-in-Then : goal.returns-in-Then
returns-in-Then c = let p = settled c.args.program.now in block_is p _ _ _ _ _ _ _ c.in-Then.is (c.next_made.ensures _ (c.inner_then-then.ensures p))
