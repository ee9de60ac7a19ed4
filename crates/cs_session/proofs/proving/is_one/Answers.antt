use Rattle.std.proofs.Common.{[]}
use Rattle.vx_sexp.proofs.Exact.{fault_excludes}
use Rattle.cs_session.proofs.Ones.{takes_fewer}
use Rattle.cs_session.proofs.proving.is_one.Goals as goal

pub returns-in-Ok-clause-other : goal.returns-in-Ok-clause-other
returns-in-Ok-clause-other c = λ e one. takes_fewer c.args.text.now c.in-Ok.taken c.in-Ok.ensures.first.1 c.in-Ok.ensures.first.0 e c.in-Ok.ensures.first.2 one

pub returns-in-Err-clause-other : goal.returns-in-Err-clause-other
returns-in-Err-clause-other c = λ e one. fault_excludes _ c.args.text.now one.0 [] c.in-Err.ensures.fault one.1
