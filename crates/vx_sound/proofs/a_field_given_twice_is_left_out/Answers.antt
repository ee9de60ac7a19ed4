use Rattle.vx_sound.proofs.Worked.{twice_passes, twice_right, twice_fails}
use Rattle.vx_sound.proofs.a_field_given_twice_is_left_out.Goals as goal

pub returns-clause-passes : goal.returns-clause-passes
returns-clause-passes c = twice_passes

pub returns-clause-right : goal.returns-clause-right
returns-clause-right c = twice_right

pub returns-clause-fails : goal.returns-clause-fails
returns-clause-fails c = twice_fails
