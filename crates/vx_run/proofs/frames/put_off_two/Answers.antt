use Rattle.std.proofs.Common.{◌∙◌, ap}
use Rattle.vx_run.specs.Frames.{act, before}
use Rattle.vx_run.proofs.frames.put_off_two.Goals as goal

pub returns : goal.returns
returns c = λ t. c.in_ok-put_off-2.ensures t ∙ ap (before (act t c.args.first)) (c.in_ok-put_off.ensures t)
