use Rattle.vx_sexp.specs.Pieces.{Reached, left_of}
use Rattle.vx_sexp.proofs.reading.Reading.go_on.Given as goal

abbrev pub invariant-reading : goal.invariant-reading
invariant-reading l = Reached l.self l.bytes

abbrev pub decreases-reading : goal.decreases-reading
decreases-reading l = left_of l.self l.bytes
