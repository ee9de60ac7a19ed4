use Rattle.vx_print.proofs.Printed.{printed_reads_back}
use Rattle.vx_print.proofs.printed_reads_back.Goals as goal

pub returns : goal.returns
returns c = printed_reads_back c.programs_spelled_once.ensures
