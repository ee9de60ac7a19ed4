use Rattle.std.proofs.Common.{refl}
use Rattle.vx_sound_funcs.proofs.Worked.{peek_holds_nothing}
use Rattle.vx_sound_funcs.proofs.what_does_not_fit_is_not_determined.Goals as goal

pub returns-clause-holds : goal.returns-clause-holds
returns-clause-holds c = peek_holds_nothing

pub returns-clause-fails : goal.returns-clause-fails
returns-clause-fails c = λ z. (0, λ m le. refl)

pub returns-clause-tree : goal.returns-clause-tree
returns-clause-tree c = λ z. (0, refl)

pub returns-clause-values : goal.returns-clause-values
returns-clause-values c = λ z. (1, refl)
