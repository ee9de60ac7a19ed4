use Rattle.vx_run.proofs.firsts.take_first.Goals as goal

pub returns : goal.returns
returns c = c.in_ok-put_off_two.ensures
