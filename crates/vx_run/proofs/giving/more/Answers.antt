use Rattle.vx_frac.specs.Fraction.{fraction}
use Rattle.vx_run.specs.Held.{resource}
use Rattle.vx_run.specs.Holding.{holdings}
use Rattle.vx_run.specs.Widths.{within_128_bits, more}
use Rattle.vx_run.proofs.Permitted.{tells_end, tells_then}
use Rattle.vx_run.proofs.giving.more.Goals as goal

pub returns-in-Err : goal.returns-in-Err
returns-in-Err c = tells_end fraction holdings _ _ _ c.in-Err.ensures

pub returns-in-Ok : goal.returns-in-Ok
returns-in-Ok c = tells_then holdings _ _ (fraction c.in-Ok.b) (λ x. more within_128_bits c.args.at (resource c.args.r.now) x (holdings c.args.to.now)) c.in-Ok.ensures c.more.ensures
