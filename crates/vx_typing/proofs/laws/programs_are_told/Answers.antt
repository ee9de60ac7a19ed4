use Rattle.vx_typing.proofs.Agree as agree
use Rattle.vx_typing.proofs.laws.programs_are_told.Goals as goal

pub returns-clause-programs : goal.returns-clause-programs
returns-clause-programs c = agree.programs

pub returns-clause-others : goal.returns-clause-others
returns-clause-others c = agree.other_programs
