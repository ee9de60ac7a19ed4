use Rattle.vx_depth.proofs.Worked.{three_within, not_two_within, plain_is_fine}
use Rattle.vx_depth.proofs.entered_members.Goals as goal

pub returns-clause-three : goal.returns-clause-three
returns-clause-three t = three_within

pub returns-clause-not_two : goal.returns-clause-not_two
returns-clause-not_two t = not_two_within

pub returns-clause-none_within_itself : goal.returns-clause-none_within_itself
returns-clause-none_within_itself t = plain_is_fine
