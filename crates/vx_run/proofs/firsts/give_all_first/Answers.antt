use Rattle.std.proofs.Common.{◌∙◌, ap}
use Rattle.vx_ast.specs.Syntax.{joined}
use Rattle.vx_frac.specs.Fractions.{Fraction}
use Rattle.vx_resolved.specs.Resolved.{assertions}
use Rattle.vx_run.specs.Frames.{rest, before}
use Rattle.vx_run.specs.Tasks.{giving}
use Rattle.vx_run.proofs.firsts.give_all_first.Goals as goal

pub returns : goal.returns
returns c = λ t. c.in_ok-put_off.ensures t ∙ ap (λ (q : Fraction). before (giving t c.args.k q (joined c.args.at (assertions c.args.all.now))) (rest t c.args.frames.now.items)) c.whole.ensures
