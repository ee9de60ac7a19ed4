use Rattle.vx_smt_text.proofs.Once.{put_only}
use Rattle.std.proofs.Common.{arith}
use Rattle.vx_smt_text.proofs.text.write.Goals as goal

pub returns-clause-only : goal.returns-clause-only
returns-clause-only c = grind (arith, put_only)
