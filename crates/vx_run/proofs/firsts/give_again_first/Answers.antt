use Rattle.vx_run.proofs.firsts.give_again_first.Goals as goal

pub returns : goal.returns
returns c = c.in_ok-put_off.ensures
