use Rattle.vx_pool.proofs.pool.Pool.run.Goals as goal

pub returns-in_err-states-clause-held : goal.returns-in_err-states-clause-held
returns-in_err-states-clause-held g c = λ i l at. (c.requires.free i l at).held

pub returns-in_err-ready-clause-held : goal.returns-in_err-ready-clause-held
returns-in_err-ready-clause-held g c = λ i l at. (c.requires.free i l at).held
