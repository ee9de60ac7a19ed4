use Rattle.vx_sound_funcs.proofs.Worked.{boxes_are_good, functions_are_good, boxes_covered, holds_a_box, its_tree}
use Rattle.vx_sound_funcs.proofs.WorkedTyped.{boxes_typed, boxes_pass, box_can_be, box_is_stocked}
use Rattle.vx_sound_funcs.proofs.boxes_are_told.Goals as goal

pub returns-clause-typed : goal.returns-clause-typed
returns-clause-typed c = boxes_typed

pub returns-clause-passes : goal.returns-clause-passes
returns-clause-passes c = boxes_pass

pub returns-clause-bodies : goal.returns-clause-bodies
returns-clause-bodies c = boxes_are_good

pub returns-clause-functions : goal.returns-clause-functions
returns-clause-functions c = functions_are_good

pub returns-clause-covered : goal.returns-clause-covered
returns-clause-covered c = boxes_covered

pub returns-clause-can : goal.returns-clause-can
returns-clause-can c = box_can_be

pub returns-clause-stocked : goal.returns-clause-stocked
returns-clause-stocked c = box_is_stocked

pub returns-clause-holds : goal.returns-clause-holds
returns-clause-holds c = holds_a_box

pub returns-clause-tree : goal.returns-clause-tree
returns-clause-tree c = its_tree
