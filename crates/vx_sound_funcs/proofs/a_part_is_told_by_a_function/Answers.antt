use Rattle.vx_sound_funcs.proofs.WorkedAsking.{its_tree, no_tree, held_firmly}
use Rattle.vx_sound_funcs.proofs.a_part_is_told_by_a_function.Goals as goal

pub returns-clause-tree : goal.returns-clause-tree
returns-clause-tree c = its_tree

pub returns-clause-none : goal.returns-clause-none
returns-clause-none c = no_tree

pub returns-clause-holds : goal.returns-clause-holds
returns-clause-holds c = held_firmly
