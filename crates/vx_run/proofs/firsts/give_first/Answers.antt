use Rattle.std.proofs.Common.{◌∙◌, ap}
use Rattle.vx_frac.specs.Fractions.{Fraction}
use Rattle.vx_resolved.specs.Resolved.{assertion}
use Rattle.vx_run.specs.Frames.{rest, before}
use Rattle.vx_run.specs.Tasks.{giving}
use Rattle.vx_run.proofs.firsts.give_first.Goals as goal

pub returns : goal.returns
returns c = λ t. c.in_ok-put_off.ensures t ∙ ap (λ (q : Fraction). before (giving t c.args.k q (assertion c.args.a.now)) (rest t c.args.frames.now.items)) c.whole.ensures
