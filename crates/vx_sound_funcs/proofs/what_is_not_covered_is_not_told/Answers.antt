use Rattle.std.proofs.Common.{refl}
use Rattle.vx_sound_funcs.proofs.Worked.{loose_tree}
use Rattle.vx_sound_funcs.proofs.what_is_not_covered_is_not_told.Goals as goal

pub returns-clause-tree : goal.returns-clause-tree
returns-clause-tree c = loose_tree

pub returns-clause-inside : goal.returns-clause-inside
returns-clause-inside c = λ r. refl
