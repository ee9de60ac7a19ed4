use Rattle.vx_sexp.proofs.Pieces.{reached_more}
use Rattle.vx_sexp.proofs.reading.Reading.go_on.Goals as goal

pub returns-in-Paused-clause-reached : goal.returns-in-Paused-clause-reached
returns-in-Paused-clause-reached c = λ at more is. reached_more c.in-Paused.next c.args.bytes.now more c.in-Paused.ensures.step.0

pub returns-in-Faulty-clause-reached : goal.returns-in-Faulty-clause-reached
returns-in-Faulty-clause-reached c = λ at more is. reached_more c.reading.self c.args.bytes.now more c.reading.invariant
