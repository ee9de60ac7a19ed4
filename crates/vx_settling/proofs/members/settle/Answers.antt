use Rattle.std.proofs.Common.{◌∙◌}
use Rattle.std.proofs.lemmas.Result.{IfOk-weaker}
use Rattle.vx_settling.proofs.members.settle.Goals as goal

pub returns : goal.returns
returns c = IfOk-weaker c.new.result _ _ (λ s is. is ∙ c.in_ok-program.ensures) c.new.ensures
