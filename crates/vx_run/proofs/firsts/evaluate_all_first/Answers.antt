use Rattle.vx_run.proofs.firsts.evaluate_all_first.Goals as goal

pub returns : goal.returns
returns c = c.in_ok-put_off.ensures
