use Rattle.std.proofs.Common.{◌∙◌, ap}
use Rattle.vx_run.specs.Frames.{rest}
use Rattle.vx_run.proofs.Steps.{rest_more}
use Rattle.vx_run.proofs.frames.put_off.Goals as goal

pub returns : goal.returns
returns c = λ t. ap (rest t) c.in_ok-push.ensures.items ∙ rest_more t c.args.frames.now.items c.args.what
