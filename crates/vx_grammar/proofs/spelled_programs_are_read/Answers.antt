use Rattle.vx_grammar.proofs.MemberReads.{spelled_programs_are_read}
use Rattle.vx_grammar.proofs.spelled_programs_are_read.Goals as goal

pub returns : goal.returns
returns c = spelled_programs_are_read
