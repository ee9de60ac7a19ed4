use Rattle.vx_sound_preds.proofs.Flats.{flat_single, tree_single}
use Rattle.vx_sound_preds.proofs.Folds.{flat_has_tree}
use Rattle.vx_sound_preds.proofs.trees_are_single.Goals as goal

pub returns-clause-inside : goal.returns-clause-inside
returns-clause-inside c = flat_single

pub returns-clause-tree : goal.returns-clause-tree
returns-clause-tree c = tree_single

pub returns-clause-known : goal.returns-clause-known
returns-clause-known c = flat_has_tree
