use Rattle.std.proofs.Common.{refl}
use Rattle.vx_examples.proofs.views.steps_of_stacks.Goals as goal

pub returns-clause-go : goal.returns-clause-go
returns-clause-go c a b = (a, refl, refl)

pub returns-clause-fork : goal.returns-clause-fork
returns-clause-fork c a b = (a, b, refl, refl)

pub returns-clause-ask : goal.returns-clause-ask
returns-clause-ask c a = (a, refl, refl)

pub returns-clause-probe : goal.returns-clause-probe
returns-clause-probe c a b = (a, b, refl, refl)

pub returns-clause-check : goal.returns-clause-check
returns-clause-check c q t old new h = h
