use Rattle.std.proofs.Common.{◌∙◌}
use Rattle.vx_frac.specs.Fraction.{fraction}
use Rattle.vx_meaning.specs.States.{amount}
use Rattle.vx_run.specs.Held.{resource}
use Rattle.vx_run.specs.Holding.{holdings}
use Rattle.vx_run.proofs.Totals.{sum_is}
use Rattle.vx_run.proofs.holdings.Holdings.gained.Goals as goal

pub entered-requires : goal.entered-requires
entered-requires c =
    c.in-Ok.ensures.value ∙ sum_is (fraction c.amount.result) (fraction c.args.a) (amount (holdings c.args.self.now) (resource c.args.r.now)) c.amount.ensures
