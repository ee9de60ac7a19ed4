use Rattle.vx_eval.proofs.Unfolded.{opens}
use Rattle.vx_eval.proofs.waits.before_arguments.Goals as goal

pub returns : goal.returns
returns c = λ p on.
    opens p c.args.at _ _ _ _ _ _ _ _ on c.in_ok-clone.ensures.cases c.in_ok-clone-2.ensures.cases c.in_ok-clone-3.ensures.cases c.in_ok-clone-4.ensures.cases
