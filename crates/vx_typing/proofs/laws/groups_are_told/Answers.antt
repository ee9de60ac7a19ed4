use Rattle.vx_typing.proofs.Agree as agree
use Rattle.vx_typing.proofs.laws.groups_are_told.Goals as goal

pub returns : goal.returns
returns c = agree.groups
